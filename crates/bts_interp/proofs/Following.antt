-- Calls that follow the texts, and one call more.
use borrow.Author.Tests.{tests}
use Rattle.std.proofs.Common.{rules, ◌≡◌, ℕ, zero, suc, ◌+◌, ◌<◌, ◌≤◌, Bool, true, false, cond, nat_lt, nat_le, List, [], ◌∷◌, ◌++◌, length, length-append, take, Option, None, Some, codes, refl, sym, ap, ◌∙◌, subst, lit≤, arith}
use Rattle.std.specs.List.{EachIndex, slice_get}
use Rattle.std.specs.Option.{option_map}
use Rattle.std.proofs.lemmas.Option.{none-some}
use Rattle.bts_command.specs.declared.command.Call.{Call}
use Rattle.bts_command.specs.declared.ended.End.{End}
use Rattle.bts_command.specs.declared.ended.End.TheVariants.{Abend}
use Rattle.bts_unit.specs.Frames.{UnitOfWork}
use Rattle.bts_command.specs.Sizes.{data_bytes}
use Rattle.bts_interp.specs.Budgets.{call_limit, count_of, data_limit, due_end, end_before, end_by, end_of_open, statements_to, statements_with}
use Rattle.bts_unit.specs.Calls.{unit_behind}
use Rattle.bts_interp.specs.NextCalls.{next_call}
use Rattle.bts_interp.specs.Steps.{Reached, statement_limit}
use Rattle.bts_interp.specs.Talks.{Follows, next_command}
use Rattle.bts_interp.specs.Texts.{Texts}
use Rattle.bts_interp.proofs.Behind.{one_more_statements}

-- ---- what holds at each element, of those before it and of itself

module _ {X : Type 0} where
  abbrev AtEach : (List X → Option X → Type 0) → List X → Type 0
  AtEach Q xs = EachIndex xs (λ i. Q (take i xs) (slice_get xs i))

  pub each_more : (Q : List X → Option X → Type 0) (xs : List X) (y : X) → AtEach Q xs → Q xs (Some y) → AtEach Q (xs ++ y ∷ [])
  each_more Q [] y all last zero h = last
  each_more Q [] y all last (suc i) h = absurd (omega arith)
  each_more Q (x ∷ xs) y all last zero h = all 0 (omega arith)
  each_more Q (x ∷ xs) y all last (suc i) h = each_more (λ p o. Q (x ∷ p) o) xs y (λ j g. all (suc j) (omega arith)) last i (omega arith)

  pub each_at : (Q : List X → Option X → Type 0) (xs : List X) (y : X) (ys : List X) → AtEach Q (xs ++ y ∷ ys) → Q xs (Some y)
  each_at Q [] y ys all = all 0 (omega arith)
  each_at Q (x ∷ xs) y ys all = each_at (λ p o. Q (x ∷ p) o) xs y ys (λ j g. all (suc j) (omega arith))

-- ---- no end is due where there is room for one more

pub record HasRoom (used made bytes count : ℕ) : Type 0 where
  pub bytes_left : bytes ≤ data_limit
  pub calls_left : made < call_limit
  pub statements_left : used + count ≤ statement_limit

open_by : (e d : Option End) → end_by e d ≡ None → (e ≡ None) × (d ≡ None)
open_by (Some e) d h = absurd (none-some _ (sym h))
open_by None d h = (refl, h)

room_by :
    (used made bytes count : ℕ) (much over many : Bool)
    → nat_lt data_limit bytes ≡ much
    → nat_lt statement_limit (used + count) ≡ over
    → nat_le call_limit made ≡ many
    → cond much (Some (Abend (codes "SIZE"))) (cond over (Some (Abend (codes "STEP"))) (cond many (Some (Abend (codes "CMDS"))) None)) ≡ None
    → HasRoom used made bytes count
room_by used made bytes count true over many m o n d = absurd (none-some _ (sym d))
room_by used made bytes count false true many m o n d = absurd (none-some _ (sym d))
room_by used made bytes count false false true m o n d = absurd (none-some _ (sym d))
room_by used made bytes count false false false m o n d =
    record { bytes_left = search (rules, tests); calls_left = search (rules, tests); statements_left = search (rules, tests) }

module _ (texts : Texts) (u : UnitOfWork) where
  -- a unit in which no end is due is open
  pub still_open : (calls : List Call) → due_end texts u calls ≡ None → (unit_behind u calls).end ≡ None
  unfolding due_end
  still_open calls d = (open_by _ _ d).0

  pub room : (calls : List Call) (r : Reached) → due_end texts u calls ≡ None → next_call texts u calls ≡ Some r
      → HasRoom (statements_to texts u calls) (length calls) (data_bytes calls) r.count
  unfolding due_end
  room calls r d n = room_by _ _ _ _ _ _ _ refl refl refl
      (subst (λ o. cond (nat_lt data_limit (data_bytes calls)) (Some (Abend (codes "SIZE"))) (end_before (statements_to texts u calls) (length calls) o) ≡ None) n (open_by (unit_behind u calls).end (end_of_open texts u calls) d).1)

  -- ---- calls that follow

  pub nothing_follows : Follows texts u []
  unfolding statements_with
  nothing_follows = record { commands = λ i h. absurd (omega arith); statements = lit≤ tt; count = lit≤ tt; bytes = λ i h. absurd (omega arith) }

  pub one_more_follows : (calls : List Call) (c : Call) (r : Reached) → Follows texts u calls → due_end texts u calls ≡ None
      → next_call texts u calls ≡ Some r → c.command ≡ r.command → Follows texts u (calls ++ c ∷ [])
  one_more_follows calls c r f d n e =
      let x : HasRoom (statements_to texts u calls) (length calls) (data_bytes calls) r.count = room calls r d n in
      record {
        commands = each_more (λ p o. next_command texts u p ≡ option_map (λ y. y.command) o) calls c f.commands (ap (option_map (λ y. y.command)) n ∙ ap Some (sym e));
        statements = subst (λ k. k ≤ statement_limit) (sym (one_more_statements texts u calls c ∙ ap (λ o. statements_to texts u calls + count_of o) n)) x.statements_left;
        count = subst (λ k. k ≤ call_limit) (sym (length-append calls (c ∷ []))) (omega (arith, x.calls_left));
        bytes = each_more (λ p o. data_bytes p ≤ data_limit) calls c f.bytes x.bytes_left;
      }
