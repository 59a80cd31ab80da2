-- Commands of a unit one by one: the first of them, and then the others.
use Rattle.std.proofs.Common.{◌≡◌, ℕ, List, [], ◌∷◌, ◌++◌, Option, refl, sym, ap, ◌∙◌}
use Rattle.std.proofs.lemmas.List.{map-append}
use Rattle.bts_command.specs.declared.command.Call.{Call}
use Rattle.bts_command.specs.declared.command.Command.{Command}
use Rattle.bts_command.specs.declared.ended.End.{End}
use Rattle.bts_tree.specs.Processes.{Process}
use Rattle.bts_rows.specs.declared.places.Held.{Held}
use Rattle.bts_unit.specs.Calls.{call, commands_of, run, unit_behind}
use Rattle.bts_unit.specs.Frames.{OpenFrame, UnitOfWork}
use Rattle.bts_unit.specs.Standings.{Standing}

-- a unit with these open frames
module _ (moment : ℕ) (base : Process) (held : Held) (now : Standing) (calls : List Call) (end : Option End) where
  abbrev pub with_frames : List OpenFrame → UnitOfWork
  with_frames frames = record { moment = moment; base = base; held = held; now = now; frames = frames; calls = calls; end = end }

  -- one that has ended stays as it is
  pub ended_stays : (ks : List Command) → run (with_frames []) ks ≡ with_frames []
  unfolding run
  ended_stays [] = refl
  ended_stays (k ∷ ks) = refl

  first_with : (frames : List OpenFrame) (k : Command) (ks : List Command) → run (with_frames frames) (k ∷ ks) ≡ run (call (with_frames frames) k).1 ks
  unfolding run call
  first_with [] k ks = sym (ended_stays ks)
  first_with (f ∷ fs) k ks = refl

-- the first call, and then the others
pub first_call : (u : UnitOfWork) (k : Command) (ks : List Command) → run u (k ∷ ks) ≡ run (call u k).1 ks
first_call u k ks = first_with u.moment u.base u.held u.now u.calls u.end u.frames k ks

pub run_append : (u : UnitOfWork) (a b : List Command) → run u (a ++ b) ≡ run (run u a) b
unfolding run
run_append u [] b = refl
run_append u (k ∷ ks) b = first_call u k (ks ++ b) ∙ run_append (call u k).1 ks b ∙ ap (λ v. run v b) (sym (first_call u k ks))

-- behind some calls, and then behind one more
pub unit_behind_more : (u : UnitOfWork) (a b : List Call) → unit_behind u (a ++ b) ≡ unit_behind (unit_behind u a) b
unfolding unit_behind
unit_behind_more u a b = ap (run u) (map-append (λ c. c.command) a b) ∙ run_append u (commands_of a) (commands_of b)
