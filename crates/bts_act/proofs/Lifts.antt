-- What is done to a part of a process is done to the process.
use Rattle.std.proofs.Common.{◌≡◌, ℕ, ◌<◌, Bool, true, false, cond, nat_lt, [], ◌∷◌, Option, Some, None, Result, Ok, Err, unwrap_or, option_map, refl, sym, ap, ◌∙◌, arith}
use Rattle.bts_names.specs.Names.{ActivityPath, same}
use Rattle.bts_names.specs.Named.{lookup}
use Rattle.bts_names.specs.Answer.{Answer, refused, done, mapped, reply_of, left_by}
use Rattle.bts_names.specs.declared.reply.Reply.{Reply}
use Rattle.bts_names.specs.declared.memory.NoMemory.{NoMemory}
use Rattle.bts_tree.specs.declared.activity.Activity.{Activity}
use Rattle.bts_tree.specs.Activities.{Activities, changed_at, changed_by, written_at}
use Rattle.bts_tree.specs.Processes.{Process, activities, activity_at, edited, written}
use Rattle.bts_tree.specs.Soundness.{numbers_below}
use Rattle.bts_rows.proofs.Entries.{all_at}
use Rattle.bts_act.specs.Does.{Does, Reads, is_done}

-- ---- answers

reply_mapped : {A B : Type 0} (f : A → B) (x : Answer A) → reply_of (mapped f x) ≡ reply_of x
reply_mapped f (refused r why) = refl
reply_mapped f (done v x) = refl

done_mapped : {A B : Type 0} (f : A → B) (x : Answer A) → is_done (mapped f x) ≡ is_done x
done_mapped f (refused r why) = refl
done_mapped f (done v x) = refl

left_mapped : {A B : Type 0} (f : A → B) (old : A) (x : Answer A) → left_by (f old) (mapped f x) ≡ f (left_by old x)
left_mapped f old (refused r why) = refl
left_mapped f old (done v x) = refl

-- a command that does what its row says of a part does what the lifted row says of the whole
pub lift_does : {A B : Type 0} (f : A → B) (r : Result Reply NoMemory) (old new : A) (whole : B) (x : Answer A) → f old ≡ whole → Does r old new x → Does r whole (f new) (mapped f x)
lift_does f (Ok reply) old new whole x e d = (d.0 ∙ sym (reply_mapped f x), ap f d.1 ∙ sym (left_mapped f old x) ∙ ap (λ o. left_by o (mapped f x)) e)
lift_does f (Err none) old new whole x e d = (done_mapped f x ∙ d.0, ap f d.1 ∙ e)

-- so it is where nothing is changed
pub lift_reads : {A B : Type 0} (f : A → B) (only : Bool) (o : Option Reply) (s : A) (x : Answer A) → Reads only (Ok o) s x
    → Reads only (Ok o) (f s) (mapped f x)
lift_reads f only (Some reply) s x d = lift_does f (Ok reply) s s (f s) x refl d
lift_reads f only None s x d = (done_mapped f x ∙ d.0, d.1)

pub refuses : {A : Type 0} (r : Reply) (s : A) (x y : Answer A) → x ≡ y → r ≡ reply_of y → s ≡ left_by s y → Does (Ok r) s s x
refuses r s x y e p q = (p ∙ ap reply_of (sym e), q ∙ ap (left_by s) (sym e))

-- ---- one activity

written_one : (p : ActivityPath) (a : Activity) (x : ActivityPath × Activity) (t : Activities) → same p x.0 ≡ true → cond (same p x.0) (Some x.1) (lookup p t) ≡ Some a → (x.0, a) ∷ t ≡ x ∷ t
written_one p a x t e h = let q : x.1 ≡ a = cc in ap (λ b. (x.0, b) ∷ t) (sym q)

written_same : (p : ActivityPath) (a : Activity) (t : Activities) → lookup p t ≡ Some a → written_at p a t ≡ t
written_same p a [] h = refl
written_same p a (x ∷ t) h = by (same p x.0) refl (written_same p a t)
  where
    by : (b : _) → same p x.0 ≡ b → (lookup p t ≡ Some a → written_at p a t ≡ t) → cond b ((x.0, a) ∷ t) (x ∷ written_at p a t) ≡ x ∷ t
    by true e i = written_one p a x t e h
    by false e i = ap (λ u. x ∷ u) (i (sym (ap (λ b. cond b (Some x.1) (lookup p t)) e) ∙ h))

module _ (p : ActivityPath) (s : Process) (a : Activity) (h : activity_at p s ≡ Some a) where
  -- an activity that is written as it stands
  pub unchanged : written p a s ≡ s
  unchanged = by s.tree h
    where
      by : (t : Option Activities) → lookup p (unwrap_or t []) ≡ Some a → record s { tree = option_map (written_at p a) t } ≡ record s { tree = t }
      by None h = refl
      by (Some t) h = ap (λ u. record s { tree = Some u }) (written_same p a t h)

  -- an activity that is changed is written as it is then
  pub edit_writes : (f : Activity → Activity) → edited p f s ≡ written p (f a) s
  edit_writes f = by s.tree h
    where
      by : (t : Option Activities) → lookup p (unwrap_or t []) ≡ Some a → record s { tree = option_map (changed_at p f) t } ≡ record s { tree = option_map (written_at p (f a)) t }
      by None h = refl
      by (Some t) h = ap (λ o. record s { tree = Some (changed_by p f o t) }) h

  -- its numbers are below what those of all activities are below
  pub number_below : (n : ℕ) → numbers_below n s ≡ true → a.pool.last < n
  number_below n b = below a.pool.last n (all_at (λ x. nat_lt x.1.pool.last n) (activities s) p a b h)
    where
      below : (m n : ℕ) → nat_lt m n ≡ true → m < n
      below m n e = grind arith
