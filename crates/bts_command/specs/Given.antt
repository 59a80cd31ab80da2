-- What whoever hands in a command owes: that a line of a session gives it.
use Rattle.std.specs.Prelude.{◌≡◌, ◌≤◌, Bool, false, ◌||◌, List, [], ◌∷◌, ◌++◌, length, Option, Some, None, option_to_list}
use Rattle.std.specs.List.{list_any}
use Rattle.bts_names.specs.Names.{Name, same, initial_name, root_name}
use Rattle.bts_command.specs.declared.command.Command.{Command}
use Rattle.bts_command.specs.declared.command.Command.TheVariants as command
use Rattle.bts_command.specs.declared.command.Target.{Target}
use Rattle.bts_command.specs.declared.command.Target.TheVariants as of
use Rattle.bts_command.specs.declared.command.Spot.{Spot}
use Rattle.bts_command.specs.declared.command.Spot.TheVariants as spot

-- a name that the system keeps for itself
abbrev pub is_systems : Name → Bool
is_systems n = same n initial_name || same n root_name

abbrev pub names_of_target : Target → List Name
names_of_target (of.Activity a) = a ∷ []
names_of_target of.AcqProcess = []
names_of_target of.AcqActivity = []

abbrev pub names_of_option : Option Target → List Name
names_of_option None = []
names_of_option (Some target) = names_of_target target

abbrev pub names_of_spot : Spot → List Name
names_of_spot spot.Own = []
names_of_spot spot.Process = []
names_of_spot (spot.Of target) = names_of_target target

-- the names of activities, events, containers and timers in a command
abbrev pub names_in : Command → List Name
names_in (command.DefineActivity a e transid program) = a ∷ option_to_list e
names_in (command.DeleteActivity a) = a ∷ []
names_in (command.Run target synchronous e) = names_of_target target ++ option_to_list e
names_in (command.Link target e) = names_of_target target ++ option_to_list e
names_in (command.Check target) = names_of_target target
names_in (command.Cancel target) = names_of_target target
names_in (command.Reset target) = names_of_target target
names_in (command.Suspend target) = names_of_target target
names_in (command.Resume target) = names_of_target target
names_in (command.PutContainer c spot bytes) = c ∷ names_of_spot spot
names_in (command.GetContainer c spot) = c ∷ names_of_spot spot
names_in (command.DeleteContainer c spot) = c ∷ names_of_spot spot
names_in (command.DefineInput e) = e ∷ []
names_in (command.DefineComposite e all subs) = e ∷ subs
names_in (command.AddSubevent sub e) = sub ∷ e ∷ []
names_in (command.RemoveSubevent sub e) = sub ∷ e ∷ []
names_in (command.DeleteEvent e) = e ∷ []
names_in (command.TestEvent e) = e ∷ []
names_in (command.RetrieveSubevent e) = e ∷ []
names_in (command.DefineTimer t e due) = t ∷ option_to_list e
names_in (command.ForceTimer t target) = t ∷ names_of_option target
names_in (command.CheckTimer t) = t ∷ []
names_in (command.DeleteTimer t) = t ∷ []
names_in _ = []

-- the sub-events of a composite that it defines
abbrev pub subs_in : Command → List Name
subs_in (command.DefineComposite e all subs) = subs
subs_in _ = []

pub record IsGiven (c : Command) : Type 0 where
  pub names : list_any is_systems (names_in c) ≡ false
  pub few_subs : length (subs_in c) ≤ 8
