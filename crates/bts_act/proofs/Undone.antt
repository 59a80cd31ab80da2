-- What is put under a new name and taken away again.
use Rattle.std.proofs.Common.{◌≡◌, ℕ, true, false, cond, List, [], ◌∷◌, Some, None, Result, Ok, Err, OnOk, OnErr, refl, ap, ◌∙◌}
use Rattle.std.specs.Result.{is_err}
use Rattle.std.specs.Ordering.{nat_cmp, match_ordering, is_eq}
use Rattle.std.specs.Cmp.Lexicographic.{slice_cmp}
use Rattle.std.specs.declared.cmp.Ordering.{Ordering}
use Rattle.std.specs.declared.cmp.Ordering.TheVariants.{Less, Equal, Greater}
use Rattle.bts_names.specs.Names.{Name}
use Rattle.bts_names.specs.Named.{lookup, without, in_order}
use Rattle.bts_names.specs.declared.reply.Reason.{Reason}
use Rattle.bts_names.specs.declared.state.TimerStatus.TheVariants as status
use Rattle.bts_event.proofs.Same.{same_refl}
use Rattle.bts_timer.specs.Timers.{Timers, delete_refusal, done_unless, missing}

module _ {X : Type 0} where
  front : (n : Name) (x : X) (xs : List (Name × X)) → without n ((n, x) ∷ xs) ≡ xs
  front n x xs = ap (λ b. cond b xs ((n, x) ∷ without n xs)) (same_refl n)

  one : (o : Ordering) (n : Name) (x : X) (e : Name × X) (xs : List (Name × X)) → slice_cmp nat_cmp n e.0 ≡ o → cond (is_eq o) (Some e.1) (lookup n xs) ≡ None
      → (lookup n xs ≡ None → without n (in_order n x xs) ≡ xs) → without n (match_ordering o ((n, x) ∷ e ∷ xs) ((e.0, x) ∷ xs) (e ∷ in_order n x xs)) ≡ e ∷ xs
  one Less n x e xs d h i = front n x (e ∷ xs)
  one Equal n x e xs d h i = cc
  one Greater n x e xs d h i = ap (λ o. cond (is_eq o) (in_order n x xs) (e ∷ without n (in_order n x xs))) d ∙ ap (λ ys. e ∷ ys) (i h)

  pub undone : (n : Name) (x : X) (xs : List (Name × X)) → lookup n xs ≡ None → without n (in_order n x xs) ≡ xs
  undone n x [] h = front n x []
  undone n x (e ∷ xs) h = one (slice_cmp nat_cmp n e.0) n x e xs refl h (undone n x xs)

-- ---- results

pub ok_from : {T E P : Type 0} (r : Result T E) → OnOk r P → is_err r ≡ false → P
ok_from (Ok x) p h = p
ok_from (Err x) p h = cc

pub err_from : {T E P : Type 0} (r : Result T E) → OnErr r P → is_err r ≡ true → P
err_from (Ok x) p h = cc
err_from (Err x) p h = p

-- ---- a timer that was started and is taken away again

there_one : {X : Type 0} (o : Ordering) (n : Name) (x : X) (e : Name × X) (xs : List (Name × X)) → slice_cmp nat_cmp n e.0 ≡ o → cond (is_eq o) (Some e.1) (lookup n xs) ≡ None
    → (lookup n xs ≡ None → lookup n (in_order n x xs) ≡ Some x) → lookup n (match_ordering o ((n, x) ∷ e ∷ xs) ((e.0, x) ∷ xs) (e ∷ in_order n x xs)) ≡ Some x
there_one Less n x e xs d h i = ap (λ b. cond b (Some x) (lookup n (e ∷ xs))) (same_refl n)
there_one Equal n x e xs d h i = cc
there_one Greater n x e xs d h i = ap (λ o. cond (is_eq o) (Some e.1) (lookup n (in_order n x xs))) d ∙ i h

there : {X : Type 0} (n : Name) (x : X) (xs : List (Name × X)) → lookup n xs ≡ None → lookup n (in_order n x xs) ≡ Some x
there n x [] h = ap (λ b. cond b (Some x) None) (same_refl n)
there n x (e ∷ xs) h = there_one (slice_cmp nat_cmp n e.0) n x e xs refl h (there n x xs)

pub timer_undone : (t : Name) (due : ℕ) (old started after : Timers) (r : Result (Unit {0}) Reason) → lookup t old ≡ None → started ≡ in_order t (record { due = due; status = status.Unexpired }) old
    → r ≡ done_unless (delete_refusal t started) → OnOk r (after ≡ without t started) → after ≡ old
timer_undone t due old new after r h s d o = by r (d ∙ ap (λ x. done_unless (missing x)) (ap (lookup t) s ∙ there t _ old h)) o
  where
    by : (r : Result (Unit {0}) Reason) → r ≡ Ok tt → OnOk r (after ≡ without t new) → after ≡ old
    by (Ok x) e a = a ∙ ap (without t) s ∙ undone t _ old h
    by (Err x) e a = cc
