-- A change that a row on a family leaves is made on the part at its frame's path.
use Rattle.std.proofs.Common.{◌≡◌, ◌+◌, ℕ, Bool, true, false, cond, [], ◌∷◌, ◌++◌, Option, Some, None, is_none, unwrap_or, ap, ◌∙◌}
use Rattle.bts_names.specs.Names.{ActivityPath, Name}
use Rattle.bts_command.specs.declared.command.Command.{Command}
use Rattle.bts_command.specs.declared.command.Command.TheVariants as command
use Rattle.bts_command.specs.declared.command.Target.{Target}
use Rattle.bts_event.specs.Pool.{Pool}
use Rattle.bts_tree.specs.declared.activity.Activity.{Activity}
use Rattle.bts_names.specs.declared.state.Status.TheVariants as status
use Rattle.bts_tree.specs.Activities.{ended_by, is_complete, new_activity}
use Rattle.bts_tree.specs.Modes.{is_reset}
use Rattle.bts_tree.specs.Paths.{is_child_of, leads_to, number_of, parent_of}
use Rattle.bts_tree.specs.Processes.{Process, added, edited, removed, with_pool, format_of}
use Rattle.bts_rows.proofs.Paths.{child_is, child_leads, leads_append, parent_is}
use Rattle.bts_rows.proofs.Local.{IsLocal, local_added, local_both, local_complete, local_edited, local_none, local_removed}
use Rattle.bts_rows.proofs.Order.{leads_on, leads_own}
use Rattle.bts_rows.specs.Completions.{rearmed, with_child, with_completion, without_completion}
use Rattle.bts_rows.specs.OnFamily.{as_told, on_family, told}
use Rattle.bts_rows.proofs.FamilyRows.{family_tells}
use Rattle.bts_rows.proofs.Telling.{Tells}

-- ---- where a change of a family is made

module _ (n : ℕ) (p : ActivityPath) where
  local_parent : (q x : ActivityPath) → is_child_of q x ≡ true → leads_to (n ∷ p) q ≡ true → (f : Pool → Pool)
      → IsLocal (n ∷ p) (with_pool (parent_of x) f)
  local_parent q x c l f =
      local_edited (n ∷ p) (parent_of x) (ap (leads_to (n ∷ p)) (parent_is q x c) ∙ l) (λ a. record a { pool = f a.pool })

  local_gone : (q : ActivityPath) → leads_to (n ∷ p) q ≡ true → (itself : Bool) → IsLocal (n ∷ p) (removed q itself)
  local_gone [] l itself = cc
  local_gone (m ∷ q) l itself = local_removed (n ∷ p) m q l itself

  local_completion : (x : ActivityPath) (c : Option Name) → is_child_of (n ∷ p) x ≡ true → IsLocal (n ∷ p) (with_completion x c)
  local_completion x None h = local_none (n ∷ p)
  local_completion x (Some name) h = local_parent (n ∷ p) x h (leads_own (n ∷ p)) (rearmed (number_of x) name)

-- ---- the rows on a process

-- where a command is made in the frame of an activity, it stands within: at that activity and below it, or at a child of it
abbrev pub IsUnder : Command → ActivityPath → ActivityPath → Type 0
IsUnder (command.Check target) p q = is_child_of p q ≡ true
IsUnder (command.Reset target) p q = is_child_of p q ≡ true
IsUnder _ p q = leads_to p q ≡ true

-- what is left is made on the part at the frame's path
abbrev pub IsOfPart : Command → ActivityPath → (Process → Process) → Type 0
IsOfPart c q f = (n : ℕ) (p : ActivityPath) → IsUnder c (n ∷ p) q → IsLocal (n ∷ p) f

module _ (q : ActivityPath) (a : Activity) (s : Process) where
  checked_part : (target : Target) → IsOfPart (command.Check target) q (λ t. cond (is_complete a) (told q t) t)
  checked_part target n p c = by (is_complete a)
    where
      by : (b : Bool) → IsLocal (n ∷ p) (λ t. cond b (told q t) t)
      by true =
          local_both (n ∷ p) (edited q as_told) (without_completion q) (local_edited (n ∷ p) q (child_leads (n ∷ p) q c) as_told)
          (local_parent n p (n ∷ p) q c (leads_own (n ∷ p)) _)
      by false = local_none (n ∷ p)

  pub of_part : (c : Command) → Tells (IsOfPart c q) (on_family c q a s)
  of_part = family_tells (λ c f. IsOfPart c q f) q a s (record {
    defined = λ name e transid program no_child free shallow few n p led.
        let child = q ++ (a.made + 1) ∷ [] in
        let new = new_activity (format_of s) name transid program (Some (unwrap_or e name)) in
        let f : Activity → Activity = with_child (unwrap_or e name) (a.made + 1) in
        local_both (n ∷ p) (added child new) (edited q f)
        (local_added (n ∷ p) child (leads_on (n ∷ p) q child led (leads_append q ((a.made + 1) ∷ []))) new) (local_edited (n ∷ p) q led f);
    deleted = λ name x e n p led.
        let is = child_is q name s x e in
        local_both (n ∷ p) (without_completion x.0) (removed x.0 true) (local_parent n p q x.0 is led _)
        (local_gone n p x.0 (leads_on (n ∷ p) q x.0 led (child_leads q x.0 is)) true);
    checked = checked_part;
    cancelled = λ target m n p led. local_complete (n ∷ p) q led status.Forced None;
    reset = λ target rest r n p c.
        let led = child_leads (n ∷ p) q c in
        let f : Activity → Activity = ended_by is_reset None (is_none a.completion) in
        local_both (n ∷ p) (edited q f) (λ t. removed q false (with_completion q a.completion t)) (local_edited (n ∷ p) q led f)
        (local_both (n ∷ p) (removed q false) (with_completion q a.completion) (local_gone n p q led false)
        (local_completion n p q a.completion c));
  })
