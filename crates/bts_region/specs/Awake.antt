-- What the index of what may run keeps.
use Rattle.std.specs.Prelude.{◌≡◌, true, false}
use Rattle.bts_tree.specs.Indexes.{is_awake}
use Rattle.bts_names.specs.declared.key.Key.{Key}
use Rattle.bts_tree.specs.Repositories.{Stored, has_room, same_key}

-- no key is kept whose process has no activation to run
abbrev pub AreAwake : Stored → Type 0
AreAwake r = (key : Key) → has_room key r ≡ true → is_awake key r.processes ≡ true

-- nor is another one than this
abbrev pub AreOthersAwake : Key → Stored → Type 0
AreOthersAwake but r = (key : Key) → has_room key r ≡ true → same_key but key ≡ false → is_awake key r.processes ≡ true
