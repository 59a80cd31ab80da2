-- The order of keys.
use Rattle.std.specs.Ordering.{nat_cmp, ordering_then}
use Rattle.std.specs.declared.cmp.Ordering.{Ordering}
use Rattle.std.specs.Cmp.Lexicographic.{slice_cmp}
use Rattle.bts_names.specs.declared.key.Key.{Key}

-- keys stand by their types, and keys of one type by their names
abbrev pub key_cmp : Key → Key → Ordering
key_cmp a b = ordering_then (slice_cmp nat_cmp a.ptype b.ptype) (slice_cmp nat_cmp a.pname b.pname)
