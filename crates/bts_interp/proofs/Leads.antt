-- What holds of each statement of a script holds of the commands and the places that it leads to.
use Rattle.std.proofs.Common.{ℕ, zero, suc, ◌+◌, nat_eq, Bool, true, false, cond, List, [], ◌∷◌, ◌++◌, Option, None, Some, option_map}
use Rattle.std.specs.List.{AllByRecursion, enumerate_from, find}
use Rattle.std.specs.Option.{unwrap_or}
use Rattle.bts_names.specs.Names.{ActivityPath, Name, same}
use Rattle.bts_names.specs.Named.{lookup}
use Rattle.bts_command.specs.declared.command.Call.{Call}
use Rattle.bts_command.specs.declared.command.Command.{Command}
use Rattle.bts_command.specs.declared.command.Command.TheVariants as command
use Rattle.bts_command.specs.declared.command.Spot.{Spot}
use Rattle.bts_forms.specs.declared.statement.Given.{Given}
use Rattle.bts_forms.specs.declared.statement.Statement.{Statement}
use Rattle.bts_forms.specs.declared.statement.Statement.TheVariants as statement
use Rattle.bts_session.specs.declared.session.Item.{Item}
use Rattle.bts_session.specs.declared.session.Session.{Session}
use Rattle.bts_interp.specs.Facts.{bytes_of, is_so}
use Rattle.bts_interp.specs.Items.{Numbered, block_in, item_in}
use Rattle.bts_interp.specs.Steps.{Reached, Script, behind_label, behind_labels, next, next_at, one_later, place_behind, place_of, statement_limit, step}
use Rattle.bts_interp.specs.Texts.{Programs, Texts, no_program, script_in}

-- ---- places

module _ (S : Statement → Type 0) where
  by_test : (t : Bool) (a b : Script) → AllByRecursion S a → AllByRecursion S b → AllByRecursion S (cond t a b)
  by_test true a b h g = h
  by_test false a b h g = g

  label_all : (l : Name) (script : Script) → AllByRecursion S script → AllByRecursion S (behind_label l script)
  label_all l [] h = h
  label_all l (statement.Label m ∷ rest) h = by_test (same l m) rest (behind_label l rest) h.1 (label_all l rest h.1)
  label_all l (statement.Command c ∷ rest) h = label_all l rest h.1
  label_all l (statement.Put container spot given ∷ rest) h = label_all l rest h.1
  label_all l (statement.Goto m ∷ rest) h = label_all l rest h.1
  label_all l (statement.When c m ∷ rest) h = label_all l rest h.1

  labels_all : (place : Script) → AllByRecursion S place → AllByRecursion S (behind_labels place)
  labels_all [] h = h
  labels_all (statement.Label m ∷ rest) h = labels_all rest h.1
  labels_all (statement.Command c ∷ rest) h = h
  labels_all (statement.Put container spot given ∷ rest) h = h
  labels_all (statement.Goto m ∷ rest) h = h
  labels_all (statement.When c m ∷ rest) h = h

-- ---- what is reached: a fact of its command, and one of each statement behind it

pub record Leads (S : Statement → Type 0) (P : Command → Type 0) (r : Reached) : Type 0 where
  pub command : P r.command
  pub place : AllByRecursion S r.place

abbrev pub LeadsIf : (Statement → Type 0) → (Command → Type 0) → Option Reached → Type 0
LeadsIf S P None = Unit {0}
LeadsIf S P (Some r) = Leads S P r

-- what a fact on commands follows from, behind these calls of the frame's own
pub record Follow (S : Statement → Type 0) (P : Command → Type 0) (own : List Call) : Type 0 where
  pub at_end : P (command.Return false)
  pub of_command : (c : Command) → S (statement.Command c) → P c
  pub of_put : (container : Name) (spot : Spot) (given : Given) → S (statement.Put container spot given) → P (command.PutContainer container spot (bytes_of own given))

module _ (S : Statement → Type 0) (P : Command → Type 0) where
  later_leads : (o : Option Reached) → LeadsIf S P o → LeadsIf S P (one_later o)
  later_leads None h = h
  later_leads (Some r) h = record { command = h.command; place = h.place }

  pub place_leads : (o : Option Reached) → LeadsIf S P o → AllByRecursion S (place_of o)
  place_leads None h = tt
  place_leads (Some r) h = h.place

  module _ (script : Script) (own : List Call) (follow : Follow S P own) (all : AllByRecursion S script) where
    step_leads : (on : Script → Option Reached) (place : Script) → ((p : Script) → AllByRecursion S p → LeadsIf S P (on p)) → AllByRecursion S place → LeadsIf S P (step on script own place)
    step_leads on [] go h = record { command = follow.at_end; place = h }
    step_leads on (statement.Command c ∷ rest) go h = record { command = follow.of_command c h.0; place = h.1 }
    step_leads on (statement.Put container spot given ∷ rest) go h = record { command = follow.of_put container spot given h.0; place = h.1 }
    step_leads on (statement.Label l ∷ rest) go h = tt
    step_leads on (statement.Goto l ∷ rest) go h = later_leads _ (go (behind_label l script) (label_all S l script all))
    step_leads on (statement.When c l ∷ rest) go h = later_leads _ (go _ (by_test S (is_so own c) (behind_label l script) rest (label_all S l script all) h.1))

    pub next_leads : (n : ℕ) (place : Script) → AllByRecursion S place → LeadsIf S P (next n script own place)
    unfolding next
    next_leads zero place h = tt
    next_leads (suc n) place h = step_leads (λ p. next n script own p) (behind_labels place) (next_leads n) (labels_all S place h)

-- and so behind all calls of the frame's own
pub behind_leads : (S : Statement → Type 0) (P : List Call → Command → Type 0) (script : Script) → ((own : List Call) → Follow S (P own) own) → AllByRecursion S script
    → (made own : List Call) (place : Script) → AllByRecursion S place → AllByRecursion S (place_behind script made own place)
unfolding place_behind
behind_leads S P script follow all made [] place h = h
behind_leads S P script follow all made (c ∷ cs) place h =
    behind_leads S P script follow all (made ++ c ∷ []) cs (place_of (next_at script made place))
    (place_leads S (P made) (next_at script made place) (next_leads S (P made) script made (follow made) all statement_limit place h))

-- ---- the scripts of frames

abbrev AllIf : (Statement → Type 0) → Option Script → Type 0
AllIf S None = Unit {0}
AllIf S (Some script) = AllByRecursion S script

module _ (S : Statement → Type 0) (missing : AllByRecursion S no_program) where
  either_all : (t : Bool) (a : Script) (o : Option Script) → AllByRecursion S a → AllIf S o → AllIf S (cond t (Some a) o)
  either_all true a o h g = h
  either_all false a o h g = g

  lookup_all : (name : Name) (programs : Programs) → AllByRecursion (λ x. AllByRecursion S x.1) programs → AllIf S (lookup name programs)
  lookup_all name [] h = tt
  lookup_all name (x ∷ xs) h = either_all _ x.1 (lookup name xs) h.0 (lookup_all name xs h.1)

  found_all : (o : Option Script) → AllIf S o → AllByRecursion S (unwrap_or o no_program)
  found_all None h = missing
  found_all (Some script) h = h

  pub script_all : (texts : Texts) (at : Option ActivityPath) (program : Option Name) → AllByRecursion (λ x. AllByRecursion S x.1) texts.programs → AllByRecursion S texts.block
      → AllByRecursion S (script_in texts at program)
  script_all texts None program h k = k
  script_all texts (Some p) None h k = missing
  script_all texts (Some p) (Some name) h k = found_all (lookup name texts.programs) (lookup_all name texts.programs h)

-- ---- the block of an item: what holds of each item holds of the statements of its block

module _ (I : Item → Type 0) (S : Statement → Type 0) (of_item : (i : Item) → I i → AllByRecursion S (block_in (Some i))) where
  among_all : (n k : ℕ) (items : List Item) → AllByRecursion I items → AllByRecursion S (block_in (option_map (λ (x : Numbered). x.1) (find (λ (x : Numbered). nat_eq x.0 n) (enumerate_from k items))))
  among_all n k [] h = tt
  among_all n k (i ∷ items) h = by (nat_eq k n) (among_all n (k + 1) items h.1)
    where
      by : (b : Bool) → AllByRecursion S (block_in (option_map (λ (x : Numbered). x.1) (find (λ (x : Numbered). nat_eq x.0 n) (enumerate_from (k + 1) items))))
          → AllByRecursion S (block_in (option_map (λ (x : Numbered). x.1) (cond b (Some (k, i)) (find (λ (x : Numbered). nat_eq x.0 n) (enumerate_from (k + 1) items)))))
      by true others = of_item i h.0
      by false others = others

  pub block_all : (session : Session) (o : Option ℕ) → AllByRecursion I session.items → AllByRecursion S (block_in (item_in session o))
  block_all session None h = tt
  block_all session (Some n) h = among_all n 1 session.items h
