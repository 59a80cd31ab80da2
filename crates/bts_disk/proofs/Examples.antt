-- A small disk, computed: its content, the image of each pick, and the content at an earlier moment.
use Rattle.std.proofs.Common.{◌≡◌, true, false, [], ◌∷◌, codes, refl}
use Rattle.bts_disk.specs.Disks.{written}
use Rattle.bts_disk.specs.Memory.{Recorded, content_of, behind, picked, moment_of}
use Rattle.bts_disk.specs.declared.device_call.DeviceCall.TheVariants.{Idle, Write, Sync}
use Rattle.bts_disk.specs.declared.pick.Pick.TheVariants.{Old, New, Filled}

-- a write that grows it, a sync, a write that is done, a read, and a write that fails
abbrev small : Recorded
small = record {
  first = codes "abcd";
  calls = Write true 3 (codes "xyz") ∷ Sync ∷ Write true 1 (codes "BC") ∷ Idle ∷ Write false 6 (codes "78") ∷ [];
}

over_the_end : written 3 (codes "xyz") (codes "abcd") ≡ codes "abcxyz"
over_the_end = refl

reads : content_of small ≡ codes "aBCxyz"
reads = refl

old : picked Old small ≡ codes "abcxyz"
old = refl

new : picked New small ≡ codes "aBCxyz78"
new = refl

filled : picked (Filled 45) small ≡ codes "a--xyz--"
filled = refl

behind_one : picked New (behind 1 small) ≡ codes "abcxyz"
behind_one = refl

before_the_sync : picked Old (behind 1 small) ≡ codes "abcd"
before_the_sync = refl

moment : moment_of small ≡ 5
moment = refl
