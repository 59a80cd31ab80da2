use Rattle.std.proofs.Common.{◌≡◌, ◌≤◌, take, length}
use Rattle.std.specs.Map.{keys_of}
use Rattle.bts_tree.specs.Activities.{within}
use Rattle.bts_tree.specs.Olds as undo
use Rattle.bts_tree.specs.Slots as slots
use Rattle.bts_tree.proofs.saving.keep_below.Given as goal

-- what is left is still to be kept
abbrev pub invariant-loop-there : goal.invariant-loop-there
invariant-loop-there l =
    (goal.iterator-loop-there).can_next l.there-iterator ×
    (goal.iterator-loop-there).is_finite l.there-iterator ×
    (l.place ≤ length l.olds) ×
    (take (length l.fn.olds) l.olds ≡ l.fn.olds) ×
    (undo.kept_all l.own l.map.entries l.place l.olds (keys_of (within l.path (slots.filled l.there-iterator))) ≡ undo.kept_all l.own l.map.entries l.place l.fn.olds (keys_of (within l.path (slots.filled l.map.entries))))
