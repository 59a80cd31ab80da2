-- What a command raises by one at most, and what openings and ends of frames keep, beside a sound process.
use Rattle.std.proofs.Common.{◌≡◌, ℕ, ◌+◌, ◌≤◌, true, List, [], ◌∷◌, length, Option, Some, None}
use Rattle.std.specs.List.{AllByRecursion}
use Rattle.bts_names.specs.Answer.{left_by}
use Rattle.bts_names.specs.Names.{Name, ActivityPath}
use Rattle.bts_names.specs.declared.state.Status.{Status}
use Rattle.bts_names.specs.declared.state.Status.TheVariants as status
use Rattle.bts_command.specs.declared.command.Command.{Command}
use Rattle.bts_command.specs.declared.ended.UnitKind.{UnitKind}
use Rattle.bts_tree.specs.Activities.{by_cause}
use Rattle.bts_tree.specs.Modes.{Cause, frame_opens, waits}
use Rattle.bts_tree.specs.Processes.{Process, complete, edited}
use Rattle.bts_tree.specs.Soundness.{IsSoundInFrames}
use Rattle.bts_rows.specs.declared.places.Held.{Held}
use Rattle.bts_rows.specs.declared.places.Held.TheVariants as held
use Rattle.bts_command.specs.Given.{IsGiven}
use Rattle.bts_rows.specs.Rows.{act_at, request_in}
use Rattle.bts_unit.specs.Calls.{call, run}
use Rattle.bts_unit.specs.Ends.{abended_whole}
use Rattle.bts_unit.specs.Frames.{UnitOfWork, path_of, start}
use Rattle.bts_unit.specs.OneFrame.{is_of_one_frame, may_begin}
use Rattle.bts_unit.specs.Replays.{top_path}
use Rattle.bts_unit.specs.Soundness.{Holds}
use Rattle.bts_unit.proofs.Carried.{Carries}
use Rattle.bts_unit.proofs.Carried as carried
use Rattle.bts_unit.proofs.SoundUnits.{sound_carries}

-- what is said of processes, whatever their open frames, with a number and with what is held: a command of those that are
-- asked for raises the number by one at most where the process is sound, and a change of mode or an end leaves it
pub record Rises (Q : ℕ → Held → Process → Type 0) (Asked : Option ActivityPath → Command → Type 0) : Type 0 where
  pub later : (n : ℕ) (h : Held) (s : Process) → Q n h s → Q (n + 1) h s
  pub turns : (n : ℕ) (h : Held) (p : ActivityPath) (why : Cause) (s : Process) → Q n h s → Q n h (edited p (by_cause why None) s)
  pub completes : (n : ℕ) (h : Held) (p : ActivityPath) (status : Status) (code : Option Name) (s : Process) → Q n h s → Q n h (complete p status code s)
  pub acts : (n : ℕ) (h : Held) (p : ActivityPath) (now : ℕ) (s : Process) (c : Command) → Asked (Some p) c → IsSoundInFrames (p ∷ []) s → Q n h s → Q (n + 1) h (left_by s (act_at p 1 now s c))
  pub requests : (n : ℕ) (h : Held) (now : ℕ) (s : Process) (c : Command) → Asked None c → IsSoundInFrames [] s → Q n h s
      → let x = left_by (s, h) (request_in h 1 now s c) in Q (n + 1) x.1 x.0
  pub acquires : (n : ℕ) (h : Held) (now : ℕ) (s : Process) (c : Command) (before : Process) → Asked None c → IsSoundInFrames [] s → Q n h s → Q n h before
      → Q n (left_by (s, h) (request_in h 1 now s c)).1 before

module _ (Q : ℕ → Held → Process → Type 0) (Asked : Option ActivityPath → Command → Type 0) (rises : Rises Q Asked) where
  -- the process is sound, and it is so with this number and with this held
  abbrev pub SoundAnd : ℕ → Held → List ActivityPath → Process → Type 0
  SoundAnd n h frames s = IsSoundInFrames frames s × Q n h s

  abbrev pub GivenAnd : Option ActivityPath → Command → Type 0
  GivenAnd at c = IsGiven c × Asked at c

  pub carries : Carries SoundAnd GivenAnd
  carries = record {
    later = λ n h frames s k. (sound_carries.later n h frames s k.0, rises.later n h s k.1);
    opens = λ n h p s k m. (sound_carries.opens n h p s k.0 m, rises.turns n h p frame_opens s k.1);
    rests = λ n h p s k. (sound_carries.rests n h p s k.0, rises.turns n h p waits s k.1);
    finishes = λ n h p s k. (sound_carries.finishes n h p s k.0, rises.completes n h p status.Normal None s k.1);
    abends = λ n h p code s k m. (sound_carries.abends n h p code s k.0 m, rises.completes n h p status.Abend (Some code) s k.1);
    acts = λ n h p now s c asked i k. (sound_carries.acts n h p now s c asked.0 i k.0, rises.acts n h p now s c asked.1 k.0 k.1);
    requests = λ n h now s c asked l k. (sound_carries.requests n h now s c asked.0 l k.0, rises.requests n h now s c asked.1 k.0 k.1);
    acquires = λ n h now s c frames before asked l now_holds k. (k.0, rises.acquires n h now s c before asked.1 now_holds.0 now_holds.1 k.1);
  }

  -- it holds of a unit
  abbrev pub HoldsAt : ℕ → UnitOfWork → Type 0
  HoldsAt n u = Holds (SoundAnd n u.held) u

  -- ---- a unit

  pub starts : (n : ℕ) (kind : UnitKind) (moment : ℕ) (s : Process) → may_begin kind s ≡ true → IsSoundInFrames [] s → Q n held.Never s → HoldsAt n (start kind moment s)
  starts n kind moment s b sound h = carried.starts SoundAnd GivenAnd carries n kind moment s b (sound, h)

  -- behind each call it is so with one more at most
  pub calls : (n : ℕ) (u : UnitOfWork) (c : Command) → length u.frames ≤ 1 → IsGiven c → Asked (top_path u.frames) c → is_of_one_frame (top_path u.frames) c ≡ true
      → HoldsAt (n + length u.calls) u → let v = (call u c).1 in HoldsAt (n + length v.calls) v
  calls n u c few given asked = carried.calls SoundAnd GivenAnd carries n u c few (given, asked)

  -- and behind commands of one frame with the number of the calls that they made
  pub runs : (n : ℕ) (kind : UnitKind) (moment : ℕ) (s : Process) (cs : List Command) → may_begin kind s ≡ true → IsSoundInFrames [] s → Q n held.Never s
      → AllByRecursion (λ c. GivenAnd (path_of kind) c × (is_of_one_frame (path_of kind) c ≡ true)) cs
      → let v = run (start kind moment s) cs in HoldsAt (n + length v.calls) v
  runs n kind moment s cs b sound h = carried.runs SoundAnd GivenAnd carries n kind moment s cs b (sound, h)

  pub stops : (n : ℕ) (code : Name) (u : UnitOfWork) → HoldsAt n u → HoldsAt n (abended_whole code u)
  stops = carried.stops SoundAnd GivenAnd carries

  -- the process of a unit that has ended
  pub behind_end : (n : ℕ) (u : UnitOfWork) → u.frames ≡ [] → HoldsAt n u → SoundAnd n u.held [] u.now.process
  behind_end = carried.behind_end SoundAnd GivenAnd carries
