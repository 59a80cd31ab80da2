-- What the bounds of a process say, and how they stand where frames open and end.
use Rattle.std.proofs.Common.{◌≡◌, ℕ, ◌+◌, ◌≤◌, ◌<◌, true, false, nat_le, nat_lt, List, Option, refl, arith}
use Rattle.std.proofs.lemmas.Bool.{and_parts, leb-true, le-leb, lt-ltb}
use Rattle.bts_names.specs.Answer.{left_by}
use Rattle.bts_names.specs.Names.{ActivityPath, Name}
use Rattle.bts_names.specs.declared.key.Key.{Key}
use Rattle.bts_names.specs.declared.state.Status.{Status}
use Rattle.bts_command.specs.declared.command.Command.{Command}
use Rattle.bts_tree.specs.Activities.{by_cause}
use Rattle.bts_tree.specs.Modes.{Cause}
use Rattle.bts_tree.specs.Processes.{Process, activities, complete, edited, no_process}
use Rattle.bts_tree.specs.Soundness.{IsSoundInFrames, is_within, numbers_below}
use Rattle.bts_rows.specs.declared.places.Held.{Held}
use Rattle.bts_rows.specs.Bounds.{is_lone, makes_more, raised_by}
use Rattle.bts_rows.specs.Rows.{act_at, request_in}
use Rattle.bts_rows.proofs.Entries.{both_so}
use Rattle.bts_rows.proofs.Grows.{all_wider, grows_by_cause, grows_complete, grows_same, grows_within, numbers_within}
use Rattle.bts_rows.proofs.Tables.{act_at_grows, request_in_grows}
use Rattle.bts_container.specs.declared.format.Format.{Format}

-- ---- what they say

pub within_generation : (g n : ℕ) (s : Process) → is_within g n s ≡ true → s.generation ≤ g
within_generation g n s h = leb-true s.generation g (and_parts (nat_le s.generation g) _ h).0

below : (n m a : ℕ) → n < m → nat_le a n ≡ true → nat_lt a m ≡ true
below n m a l h = let d : a ≤ n = leb-true a n h in lt-ltb a m (omega arith)

pub within_below : (g n m : ℕ) (s : Process) → is_within g n s ≡ true → n < m → numbers_below m s ≡ true
within_below g n m s h l =
    all_wider (λ x. nat_le x.1.pool.last n) (λ x. nat_lt x.1.pool.last m) (λ x e. below n m x.1.pool.last l e) (activities s)
    (and_parts (nat_le s.generation g) _ h).1

pub within_more : (g n h m : ℕ) (s : Process) → is_within g n s ≡ true → g ≤ h → n ≤ m → is_within h m s ≡ true
within_more g n h m s w l k = grows_within 0 0 false s s (grows_same 0 false s) g n h m (omega arith) (omega arith) w

-- ---- a process that was never defined

pub within_none : (g n : ℕ) (f : Format) (key : Key) → is_within g n (no_process f key) ≡ true
within_none g n f key = both_so _ _ (le-leb 0 g (omega arith)) refl

pub lone_none : (f : Format) (key : Key) → is_lone (no_process f key) ≡ true
lone_none f key = refl

-- ---- where a frame opens or ends

module _ (p : ActivityPath) (s : Process) where
  pub within_by_cause : (why : Cause) (code : Option Name) (g n : ℕ) → is_within g n s ≡ true
      → is_within g n (edited p (by_cause why code) s) ≡ true
  within_by_cause why code g n =
      grows_within 0 0 false s (edited p (by_cause why code) s) (grows_by_cause 0 false p why code s) g n g n (omega arith) (omega arith)

  pub lone_by_cause : (why : Cause) (code : Option Name) → is_lone s ≡ true → is_lone (edited p (by_cause why code) s) ≡ true
  lone_by_cause why code h = (grows_by_cause 0 false p why code s).lone refl h

  pub within_complete : (status : Status) (code : Option Name) (g n : ℕ) → is_within g n s ≡ true
      → is_within g n (complete p status code s) ≡ true
  within_complete status code g n =
      grows_within 0 0 false s (complete p status code s) (grows_complete 0 false p status code s) g n g n (omega arith) (omega arith)

  pub lone_complete : (status : Status) (code : Option Name) → is_lone s ≡ true → is_lone (complete p status code s) ≡ true
  lone_complete status code h = (grows_complete 0 false p status code s).lone refl h

-- ---- behind a command

module _ (frames : List ActivityPath) (s : Process) (sound : IsSoundInFrames frames s) where
  -- in an activity's frame no generation rises
  pub within_act : (p : ActivityPath) (depth now g n : ℕ) (c : Command) → is_within g n s ≡ true
      → is_within g (n + 1) (left_by s (act_at p depth now s c)) ≡ true
  within_act p depth now g n c =
      grows_within 0 1 (makes_more c) s (left_by s (act_at p depth now s c)) (act_at_grows frames s sound p depth now c) g n g (n + 1)
      (omega arith) (omega arith)

  -- in a request's first frame it rises where the first thing is acquired, if ever
  pub within_request : (held : Held) (depth now g n : ℕ) (c : Command) → is_within (raised_by held g) n s ≡ true
      → let x = left_by (s, held) (request_in held depth now s c) in is_within (raised_by x.1 g) (n + 1) x.0 ≡ true
  within_request held depth now g n c w =
      let k = request_in_grows frames s sound held depth now c in
      let x = left_by (s, held) (request_in held depth now s c) in
      let a = and_parts (nat_le s.generation (raised_by held g)) (numbers_within n s) w in
      both_so _ _ (le-leb x.0.generation (raised_by x.1 g) (k.once g (leb-true s.generation (raised_by held g) a.0)))
      (k.process.numbers n (n + 1) (omega arith) a.1)
