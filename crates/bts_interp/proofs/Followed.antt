-- What units call that follow executable texts.
use Rattle.std.proofs.Common.{◌≡◌, suc, List, [], ◌∷◌, take, Option, None, Some, option_map, subst, arith}
use Rattle.std.specs.List.{AllByRecursion, EachIndex}
use Rattle.bts_command.specs.declared.command.Call.{Call}
use Rattle.bts_command.specs.declared.command.Command.{Command}
use Rattle.bts_unit.specs.Calls.{commands_of, unit_behind}
use Rattle.bts_unit.specs.Frames.{OpenFrame, UnitOfWork}
use Rattle.bts_interp.specs.NextCalls.{next_call, next_in, own_calls}
use Rattle.bts_interp.specs.Ready.{AreExecutable, IsExecutable, MayBeCalled, MayBeExecuted}
use Rattle.bts_interp.specs.Steps.{Reached, Script, place_behind, statement_limit}
use Rattle.bts_interp.specs.Talks.{Follows, command_at}
use Rattle.bts_interp.specs.Texts.{Texts, frame_script}
use Rattle.bts_interp.proofs.Beginning.{script_may}
use Rattle.bts_interp.proofs.Executable.{May, follow_may, next_may}
use Rattle.bts_interp.proofs.Leads.{behind_leads}

abbrev IsCalled : Option Command → Type 0
IsCalled None = Unit {0}
IsCalled (Some c) = MayBeCalled c

command_may : (o : Option Reached) → May o → IsCalled (option_map (λ r. r.command) o)
command_may None m = tt
command_may (Some r) m = m.command

-- where each command is the one that is reached behind those before it
all_may : (on : List Call → Option Reached) → ((p : List Call) → May (on p)) → (calls : List Call)
    → EachIndex calls (λ i. option_map (λ r. r.command) (on (take i calls)) ≡ command_at calls i) → AllByRecursion MayBeCalled (commands_of calls)
all_may on m [] each = tt
all_may on m (c ∷ cs) each =
    (subst IsCalled (each 0 (omega arith)) (command_may (on []) (m [])), all_may (λ p. on (c ∷ p)) (λ p. m (c ∷ p)) cs (λ i g. each (suc i) (omega arith)))

module _ (texts : Texts) (u : UnitOfWork) (h : AreExecutable texts) where
  in_may : (calls : List Call) (frames : List OpenFrame) → May (next_in texts u calls frames)
  in_may calls [] = tt
  in_may calls (f ∷ fs) =
      let script : Script = frame_script texts f in
      let own : List Call = own_calls f.opened u calls in
      let s : IsExecutable script = script_may texts f.at f.program h in
      next_may script own s statement_limit (place_behind script [] own script) (behind_leads MayBeExecuted (λ made. MayBeCalled) script follow_may s [] own script s)

  called_may : (calls : List Call) → May (next_call texts u calls)
  unfolding next_call
  called_may calls = in_may calls (unit_behind u calls).frames

  -- each command of calls that follow the texts may be called
  pub follows_may : (calls : List Call) → Follows texts u calls → AllByRecursion MayBeCalled (commands_of calls)
  follows_may calls f = all_may (next_call texts u) called_may calls f.commands
