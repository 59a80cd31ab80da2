-- Behind more calls: a frame's own calls, its place, and the statements.
use Rattle.std.proofs.Common.{◌≡◌, ℕ, ◌+◌, Bool, true, false, List, [], ◌∷◌, ◌++◌, refl, sym, ap, ◌∙◌}
use Rattle.std.proofs.Math.Nat.{add_assoc, add-zero, zero-add}
use Rattle.std.proofs.lemmas.List.{append-nil, append_assoc}
use Rattle.bts_command.specs.declared.command.Call.{Call}
use Rattle.bts_unit.specs.Calls.{call, commands_of, run, unit_behind}
use Rattle.bts_unit.specs.Frames.{UnitOfWork}
use Rattle.bts_unit.proofs.OneByOne.{first_call}
use Rattle.bts_interp.specs.Budgets.{count_of, statements_to, statements_with}
use Rattle.bts_interp.specs.NextCalls.{is_on_top, next_call, own_calls, with_own}
use Rattle.bts_interp.specs.Steps.{Script, next_at, place_behind, place_of}
use Rattle.bts_interp.specs.Texts.{Texts}

-- ---- a frame's own calls

with_own_append : (t : Bool) (c : Call) (a b : List Call) → with_own t c (a ++ b) ≡ with_own t c a ++ b
with_own_append true c a b = refl
with_own_append false c a b = refl

pub own_calls_more : (k : ℕ) (u : UnitOfWork) (a b : List Call) → own_calls k u (a ++ b) ≡ own_calls k u a ++ own_calls k (unit_behind u a) b
unfolding own_calls unit_behind run
own_calls_more k u [] b = refl
own_calls_more k u (c ∷ cs) b =
    ap (with_own (is_on_top k u.frames) c) (own_calls_more k (call u c.command).1 cs b)
    ∙ with_own_append (is_on_top k u.frames) c _ _
    ∙ ap (λ v. with_own (is_on_top k u.frames) c (own_calls k (call u c.command).1 cs) ++ own_calls k v b) (sym (first_call u c.command (commands_of cs)))

-- ---- the place

pub place_behind_more : (script : Script) (made a b : List Call) (place : Script)
    → place_behind script made (a ++ b) place ≡ place_behind script (made ++ a) b (place_behind script made a place)
unfolding place_behind
place_behind_more script made [] b place = ap (λ m. place_behind script m b place) (sym (append-nil made))
place_behind_more script made (c ∷ cs) b place =
    place_behind_more script (made ++ c ∷ []) cs b (place_of (next_at script made place))
    ∙ ap (λ m. place_behind script m b (place_behind script (made ++ c ∷ []) cs (place_of (next_at script made place)))) (append_assoc made (c ∷ []) cs)

-- ---- the statements

with_more : (texts : Texts) (u : UnitOfWork) (made a b : List Call)
    → statements_with texts u made (a ++ b) ≡ statements_with texts u made a + statements_with texts u (made ++ a) b
unfolding statements_with
with_more texts u made [] b = ap (λ m. statements_with texts u m b) (sym (append-nil made)) ∙ sym (zero-add _)
with_more texts u made (c ∷ cs) b =
    ap (λ n. count_of (next_call texts u made) + n)
    (with_more texts u (made ++ c ∷ []) cs b ∙ ap (λ m. statements_with texts u (made ++ c ∷ []) cs + statements_with texts u m b) (append_assoc made (c ∷ []) cs))
    ∙ sym (add_assoc (count_of (next_call texts u made)) _ _)

pub statements_to_more : (texts : Texts) (u : UnitOfWork) (a b : List Call)
    → statements_to texts u (a ++ b) ≡ statements_to texts u a + statements_with texts u a b
statements_to_more texts u a b = with_more texts u [] a b

pub one_more_statements : (texts : Texts) (u : UnitOfWork) (a : List Call) (c : Call)
    → statements_to texts u (a ++ c ∷ []) ≡ statements_to texts u a + count_of (next_call texts u a)
unfolding statements_with
one_more_statements texts u a c = statements_to_more texts u a (c ∷ []) ∙ ap (λ n. statements_to texts u a + n) (add-zero _)
