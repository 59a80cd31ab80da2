use Rattle.std.proofs.Common.{◌≡◌, length, rules}
use Rattle.bts_journal.proofs.Writing.{staged_only, cut_three, cut_four}
use Rattle.bts_journal.proofs.journal.write_record.Goals as goal

pub returns-in_err-write_at-2-clause-any_moment : goal.returns-in_err-write_at-2-clause-any_moment
returns-in_err-write_at-2-clause-any_moment g c = λ b told only.
    let x = g.D.Disk.content in let y = g.D.Disk.may_leave in let m = g.D.Disk.moment in let s = g.D.Disk.left_since in
    let one : length c.as_slice.result.now ≡ 1 = search rules in
    let durable = staged_only x y m s c.args.end c.args.bytes.now b _ _ _ told c.in_ok-write_at.ensures.written c.in_ok-sync.ensures.durable in
    cut_three x y m s c.args.end c.args.bytes.now b _ _ _ _ only c.write_at.ensures.images c.sync.ensures.images durable c.as_slice.result.now one c.write_at-2.ensures.images c.write_at.ensures.time c.sync.ensures.time c.write_at-2.ensures.time

pub returns-in_err-sync-2-clause-any_moment : goal.returns-in_err-sync-2-clause-any_moment
returns-in_err-sync-2-clause-any_moment g c = λ b told only.
    let x = g.D.Disk.content in let y = g.D.Disk.may_leave in let m = g.D.Disk.moment in let s = g.D.Disk.left_since in
    let one : length c.as_slice.result.now ≡ 1 = search rules in
    let durable = staged_only x y m s c.args.end c.args.bytes.now b _ _ _ told c.in_ok-write_at.ensures.written c.in_ok-sync.ensures.durable in
    cut_four x y m s c.args.end c.args.bytes.now b _ _ _ _ only c.write_at.ensures.images c.sync.ensures.images durable c.as_slice.result.now one c.write_at-2.ensures.images _ c.write_at.ensures.time c.sync.ensures.time c.write_at-2.ensures.time c.sync-2.ensures.time c.sync-2.ensures.images

pub returns-clause-any_moment : goal.returns-clause-any_moment
returns-clause-any_moment g c = λ b told only.
    let x = g.D.Disk.content in let y = g.D.Disk.may_leave in let m = g.D.Disk.moment in let s = g.D.Disk.left_since in
    let one : length c.as_slice.result.now ≡ 1 = search rules in
    let durable = staged_only x y m s c.args.end c.args.bytes.now b _ _ _ told c.in_ok-write_at.ensures.written c.in_ok-sync.ensures.durable in
    cut_four x y m s c.args.end c.args.bytes.now b _ _ _ _ only c.write_at.ensures.images c.sync.ensures.images durable c.as_slice.result.now one c.write_at-2.ensures.images _ c.write_at.ensures.time c.sync.ensures.time c.write_at-2.ensures.time c.sync-2.ensures.time c.sync-2.ensures.images
