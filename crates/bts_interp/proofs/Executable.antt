-- What an executable script reaches may be called.
use Rattle.std.proofs.Common.{◌≡◌, ℕ, true, false, List, [], ◌∷◌, ◌++◌, Option, None, Some, refl, subst, lit≤}
use Rattle.bts_names.specs.Names.{ActivityPath}
use Rattle.bts_command.specs.declared.command.Call.{Call}
use Rattle.bts_command.specs.declared.command.Command.{Command}
use Rattle.bts_command.specs.declared.command.Command.TheVariants as command
use Rattle.bts_forms.specs.declared.statement.Statement.{Statement}
use Rattle.bts_unit.specs.OneFrame.{is_of_one_frame}
use Rattle.bts_interp.specs.Facts.{bytes_of}
use Rattle.bts_interp.specs.Ready.{IsExecutable, MayBeCalled, MayBeExecuted}
use Rattle.bts_interp.specs.Steps.{Reached, Script, next}
use Rattle.bts_interp.proofs.Leads.{Follow, Leads, LeadsIf, next_leads}

-- in every frame
pub may_in : (at : Option ActivityPath) (c : Command) → MayBeCalled c → is_of_one_frame at c ≡ true
may_in None c m = m.in_request
may_in (Some p) c m = m.in_activity

return_may : MayBeCalled (command.Return false)
return_may = record { given = record { names = refl; few_subs = lit≤ tt }; in_request = refl; in_activity = refl; makes_none = refl }

pub follow_may : (own : List Call) → Follow MayBeExecuted MayBeCalled own
follow_may own = record { at_end = return_may; of_command = λ c h. h; of_put = λ container spot given h. h (bytes_of own given) }

abbrev pub MayFollow : Reached → Type 0
MayFollow r = Leads MayBeExecuted MayBeCalled r

abbrev pub May : Option Reached → Type 0
May o = LeadsIf MayBeExecuted MayBeCalled o

pub next_may : (script : Script) (own : List Call) → IsExecutable script → (n : ℕ) (place : Script) → IsExecutable place → May (next n script own place)
next_may script own executable n place h = next_leads MayBeExecuted MayBeCalled script own (follow_may own) executable n place h

pub reached_may : (script : Script) (own : List Call) → IsExecutable script → (n : ℕ) (place : Script) (r : Reached) → IsExecutable place → next n script own place ≡ Some r → MayFollow r
reached_may script own executable n place r h e = subst May e (next_may script own executable n place h)

-- ---- scripts that grow

pub one_more_may : (script : Script) (s : Statement) → IsExecutable script → MayBeExecuted s → IsExecutable (script ++ s ∷ [])
one_more_may [] s h g = (g, tt)
one_more_may (x ∷ xs) s h g = (h.0, one_more_may xs s h.1 g)
