use Rattle.std.proofs.Common.{◌≡◌, rules}
use Rattle.bts_journal.specs.Gates.{fresh}
use Rattle.bts_journal.proofs.Writing.{begun_two, begun_three}
use Rattle.bts_journal.proofs.creating.create.Goals as goal

pub returns-in_err-write_at-clause-images : goal.returns-in_err-write_at-clause-images
returns-in_err-write_at-clause-images g c =
    let written : c.as_slice.result.now ≡ fresh = search rules in
    begun_two g.D.Disk.content g.D.Disk.may_leave g.D.Disk.moment g.D.Disk.left_since _ _ _ _ written (λ i. (c.len.ensures.images i).1) c.write_at.ensures.images c.len.ensures.time c.write_at.ensures.time

pub returns-in_err-sync-clause-images : goal.returns-in_err-sync-clause-images
returns-in_err-sync-clause-images g c =
    let written : c.as_slice.result.now ≡ fresh = search rules in
    begun_three g.D.Disk.content g.D.Disk.may_leave g.D.Disk.moment g.D.Disk.left_since _ _ _ _ written (λ i. (c.len.ensures.images i).1) c.write_at.ensures.images _ c.len.ensures.time c.write_at.ensures.time c.sync.ensures.time c.sync.ensures.images

pub returns-clause-images : goal.returns-clause-images
returns-clause-images g c =
    let written : c.as_slice.result.now ≡ fresh = search rules in
    begun_three g.D.Disk.content g.D.Disk.may_leave g.D.Disk.moment g.D.Disk.left_since _ _ _ _ written (λ i. (c.len.ensures.images i).1) c.write_at.ensures.images _ c.len.ensures.time c.write_at.ensures.time c.sync.ensures.time c.sync.ensures.images
