use Rattle.std.proofs.Common.{◌≡◌, drop, take, length}
use Rattle.bts_tree.specs.Olds as undo
use Rattle.bts_tree.specs.Slots as slots
use Rattle.bts_tree.proofs.undoing.undo_to.Given as goal

-- what is left to undo gives the same
abbrev pub invariant-loop-olds : goal.invariant-loop-olds
invariant-loop-olds l =
    (undo.own_back (drop l.place l.olds) l.own ≡ undo.own_back (drop l.place l.fn.olds) l.fn.own) ×
    (slots.mapped (undo.back (drop l.place l.olds)) l.map.entries ≡ slots.mapped (undo.back (drop l.place l.fn.olds)) l.fn.map.entries) ×
    (take l.place l.olds ≡ take l.place l.fn.olds)

abbrev pub decreases-loop-olds : goal.decreases-loop-olds
decreases-loop-olds l = length l.olds
