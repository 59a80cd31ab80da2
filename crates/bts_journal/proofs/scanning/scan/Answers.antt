use Rattle.std.proofs.Common.{◌≡◌, List, ℕ, Some, rules}
use Rattle.bts_disk.specs.Disks.{Only}
use Rattle.bts_journal.specs.Scans.{Scans}
use Rattle.bts_journal.proofs.SoFar.{gate_scanned, stands_scanned}
use Rattle.bts_journal.proofs.scanning.scan.Goals as goal

pub returns-in-Ok-clause-ready : goal.returns-in-Ok-clause-ready
returns-in-Ok-clause-ready g c =
    let same : g.D.Disk.content c.at.result.disk ≡ g.D.Disk.content c.args.disk = search rules in
    let scanned : (b : List ℕ) → g.D.Disk.content c.args.disk ≡ Some b → Scans b c.in-Ok.founds.items c.at.result.end = search rules in
    gate_scanned (g.D.Disk.content c.args.disk) (g.D.Disk.content c.at.result.disk) c.in-Ok.founds.items c.at.result.end same scanned

pub returns-in-Ok-clause-stands : goal.returns-in-Ok-clause-stands
returns-in-Ok-clause-stands g c =
    let same : g.D.Disk.content c.at.result.disk ≡ g.D.Disk.content c.args.disk = search rules in
    let scanned : (b : List ℕ) → g.D.Disk.content c.args.disk ≡ Some b → Scans b c.in-Ok.founds.items c.at.result.end = search rules in
    let only : (b : List ℕ) → g.D.Disk.content c.args.disk ≡ Some b → Only b (g.D.Disk.may_leave c.at.result.disk) = search rules in
    stands_scanned g.D.Disk.content g.D.Disk.may_leave c.at.result (g.D.Disk.content c.args.disk) c.in-Ok.founds.items same scanned only
