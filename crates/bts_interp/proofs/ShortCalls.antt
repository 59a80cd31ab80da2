-- What the calls of a unit carry that follows short texts.
use Rattle.std.proofs.Common.{◌≡◌, ℕ, ◌+◌, ◌<◌, ◌≤◌, Bool, true, false, List, [], ◌∷◌, ◌++◌, length, take, refl, sym, subst, ◌∙◌, arith, Option, None, Some, option_map}
use Rattle.std.specs.Prelude.{replicate, unwrap_or}
use Rattle.std.specs.Option.{option_or}
use Rattle.std.specs.List.{AllByRecursion}
use Rattle.std.proofs.Math.Seq.{take-append_seam}
use Rattle.std.proofs.lemmas.List.{length-append, length-replicate}
use Rattle.std.proofs.lemmas.List.Sums.{sum_by-append, sum_by-cons}
use Rattle.bts_names.specs.Names.{ActivityPath, Bytes}
use Rattle.bts_names.specs.declared.reply.Value.{Value}
use Rattle.bts_names.specs.declared.reply.Value.TheVariants as value
use Rattle.bts_command.specs.Given.{IsGiven}
use Rattle.bts_command.specs.Sizes.{call_bytes, data_bytes, got_bytes, put_bytes}
use Rattle.bts_command.specs.declared.command.Call.{Call}
use Rattle.bts_command.specs.declared.command.Command.{Command}
use Rattle.bts_command.specs.declared.ended.UnitKind.{UnitKind}
use Rattle.bts_container.specs.Formats.{size_limit}
use Rattle.bts_container.specs.declared.format.Format.{Format}
use Rattle.bts_forms.specs.Sizes.{IsShort, said_bytes}
use Rattle.bts_forms.specs.declared.statement.Given.{Given}
use Rattle.bts_forms.specs.declared.statement.Given.TheVariants as given
use Rattle.bts_unit.specs.Calls.{call, commands_of, unit_behind}
use Rattle.bts_tree.specs.Processes.{Process, format_of}
use Rattle.bts_tree.specs.Soundness.{IsSoundInFrames}
use Rattle.bts_unit.specs.Frames.{OpenFrame, UnitOfWork, path_of, start}
use Rattle.bts_unit.specs.OneFrame.{is_of_one_frame, may_begin}
use Rattle.bts_unit.proofs.BoundedUnits.{run_format}
use Rattle.bts_unit.proofs.SoundUnits.{runs_sound}
use Rattle.bts_unit.specs.Replays.{IsFit}
use Rattle.bts_unit.specs.Soundness.{IsSoundUnit}
use Rattle.bts_unit.proofs.Opening.{reply_given}
use Rattle.bts_unit.proofs.ShortReplies.{reply_short}
use Rattle.bts_interp.specs.Budgets.{data_limit}
use Rattle.bts_interp.specs.Facts.{bytes_in, bytes_of, last_bytes}
use Rattle.bts_session.specs.Sizes.{IsShortItem, IsShortSession}
use Rattle.bts_session.specs.declared.session.Item.{Item}
use Rattle.bts_session.specs.declared.session.Item.TheVariants as item
use Rattle.bts_session.specs.declared.session.Session.{Session}
use Rattle.bts_interp.specs.Items.{block_in, item_of, texts_of}
use Rattle.bts_interp.specs.NextCalls.{next_call, next_in, own_calls, is_on_top, with_own}
use Rattle.bts_interp.specs.Short.{AreShortTexts, most_data}
use Rattle.bts_interp.specs.Steps.{Reached, Script, next_at, place_behind, statement_limit}
use Rattle.bts_interp.specs.Talks.{Follows, command_at, next_command}
use Rattle.bts_interp.specs.Texts.{Texts, frame_script, no_program}
use Rattle.bts_interp.specs.Ready.{AreExecutable, MayBeCalled}
use Rattle.bts_interp.proofs.Executable.{may_in}
use Rattle.bts_interp.proofs.Followed.{follows_may}
use Rattle.bts_interp.proofs.Leads.{Follow, LeadsIf, behind_leads, block_all, next_leads, script_all}

-- ---- what the last GET gave

last_of : Option Bytes → ℕ
last_of o = length (unwrap_or o [])

one_shows : (v : Value) → last_of (bytes_in v) ≤ got_bytes v
unfolding last_of
one_shows (value.Bytes bytes) = omega arith
one_shows value.Nothing = omega arith
one_shows (value.Id p) = omega arith
one_shows (value.Event n k) = omega arith
one_shows (value.Fired f) = omega arith
one_shows (value.Activity m s f c) = omega arith
one_shows (value.Timer s) = omega arith
one_shows (value.Ran r) = omega arith
one_shows (value.Left l) = omega arith

either_shows : (a b : Option Bytes) (m n : ℕ) → last_of a ≤ m → last_of b ≤ n → last_of (option_or a b) ≤ n + m
unfolding last_of
either_shows None b m n h k = omega (arith, k)
either_shows (Some x) b m n h k = omega (arith, h)

last_short : (own : List Call) → last_of (last_bytes own) ≤ data_bytes own
unfolding last_of
last_short [] = omega arith
last_short (c ∷ cs) =
    let sum : data_bytes (c ∷ cs) ≡ call_bytes c + data_bytes cs = sum_by-cons call_bytes c cs in
    let one = one_shows c.reply.value in
    let both = either_shows (last_bytes cs) (bytes_in c.reply.value) (data_bytes cs) (got_bytes c.reply.value) (last_short cs) one in
    omega (arith, sum, both)

own_on : (t : Bool) (c : Call) (own : List Call) (n : ℕ) → data_bytes own ≤ n → data_bytes (with_own t c own) ≤ call_bytes c + n
own_on true c own n h = let sum : data_bytes (c ∷ own) ≡ call_bytes c + data_bytes own = sum_by-cons call_bytes c own in omega (arith, sum, h)
own_on false c own n h = omega (arith, h)

own_short : (opened : ℕ) (u : UnitOfWork) (calls : List Call) → data_bytes (own_calls opened u calls) ≤ data_bytes calls
unfolding own_calls
own_short opened u [] = omega arith
own_short opened u (c ∷ cs) =
    let sum : data_bytes (c ∷ cs) ≡ call_bytes c + data_bytes cs = sum_by-cons call_bytes c cs in
    let one = own_on (is_on_top opened u.frames) c (own_calls opened (call u c.command).1 cs) (data_bytes cs) (own_short opened (call u c.command).1 cs) in
    omega (arith, sum, one)

-- ---- what a command puts

-- where the last GET gave no more than so much
abbrev Puts : ℕ → List Call → Command → Type 0
Puts m own c = last_of (last_bytes own) ≤ m → put_bytes c ≤ m

given_short : (m : ℕ) (own : List Call) (g : Given) → said_bytes g ≤ m → last_of (last_bytes own) ≤ m → length (bytes_of own g) ≤ m
unfolding last_of
given_short m own (given.Literal bytes) h k = h
given_short m own (given.Fill n) h k = let long : length (replicate n 42) ≡ n = length-replicate {A = ℕ} n 42 in omega (arith, long, h)
given_short m own given.Last h k = k

follow_short : (m : ℕ) (own : List Call) → Follow (IsShort m) (Puts m own) own
follow_short m own = record { at_end = λ h. omega arith; of_command = λ c h k. h; of_put = λ container spot g h k. given_short m own g h k }

module _ (m : ℕ) (texts : Texts) (u : UnitOfWork) (short : AreShortTexts m texts) where
  missing_short : AllByRecursion (IsShort m) no_program
  missing_short = (omega arith, tt)

  in_frames : (calls : List Call) (frames : List OpenFrame) → LeadsIf (IsShort m) (λ c. data_bytes calls ≤ m → put_bytes c ≤ m) (next_in texts u calls frames)
  in_frames calls [] = tt
  in_frames calls (f ∷ fs) =
      let script : Script = frame_script texts f in
      let own : List Call = own_calls f.opened u calls in
      let all : AllByRecursion (IsShort m) script = script_all (IsShort m) missing_short texts f.at f.program short.programs short.block in
      let place : AllByRecursion (IsShort m) (place_behind script [] own script) = behind_leads (IsShort m) (Puts m) script (follow_short m) all [] own script all in
      within_own calls own (next_at script own (place_behind script [] own script)) (own_short f.opened u calls)
      (next_leads (IsShort m) (Puts m own) script own (follow_short m own) all statement_limit (place_behind script [] own script) place)
    where
      within_own : (calls own : List Call) (o : Option Reached) → data_bytes own ≤ data_bytes calls → LeadsIf (IsShort m) (Puts m own) o → LeadsIf (IsShort m) (λ c. data_bytes calls ≤ m → put_bytes c ≤ m) o
      within_own calls own None few h = tt
      within_own calls own (Some r) few h = record { command = λ k. h.command (omega (arith, few, k, last_short own)); place = h.place }

  next_short : (calls : List Call) → LeadsIf (IsShort m) (λ c. data_bytes calls ≤ m → put_bytes c ≤ m) (next_call texts u calls)
  unfolding next_call
  next_short calls = in_frames calls (unit_behind u calls).frames

  command_short : (calls : List Call) (c : Command) (o : Option Reached) → LeadsIf (IsShort m) (λ c. data_bytes calls ≤ m → put_bytes c ≤ m) o → option_map (λ r. r.command) o ≡ Some c → data_bytes calls ≤ m → put_bytes c ≤ m
  command_short calls c None h e k = cc
  command_short calls c (Some r) h e k = let same : r.command ≡ c = cc in subst (λ (d : Command). put_bytes d ≤ m) same (h.command k)

-- ---- all calls

-- a list and its last one
data Ends : List Call → Type 0 where
  empty : Ends []
  behind : (before : List Call) (c : Call) → Ends (before ++ c ∷ [])

end_of : (calls : List Call) → Ends calls
end_of [] = empty
end_of (c ∷ cs) = one_more c cs (end_of cs)
  where
    one_more : (c : Call) (cs : List Call) → Ends cs → Ends (c ∷ cs)
    one_more c [] empty = behind [] c
    one_more c cs (behind before d) = behind (c ∷ before) d

last_command : (before : List Call) (c : Call) → command_at (before ++ c ∷ []) (length before) ≡ Some c.command
last_command [] c = refl
last_command (x ∷ xs) c = last_command xs c

-- the unit is sound in front of each of its calls, and its process in this format
abbrev SoundInFront : Format → UnitOfWork → List Call → Type 0
SoundInFront f u calls =
    (before rest : List Call) → calls ≡ before ++ rest → IsSoundUnit (unit_behind u before) × (format_of (unit_behind u before).now.process ≡ f)

calls_short : (f : Format) (m : ℕ) (texts : Texts) (u : UnitOfWork) (calls : List Call) → data_limit ≤ m → AreShortTexts m texts → IsFit u → u.calls ≡ [] → SoundInFront f u calls
    → (unit_behind u calls).calls ≡ calls → Follows texts u calls → data_bytes calls ≤ most_data f m
calls_short f m texts u calls large short fit fresh sound made follows = by (end_of calls) sound made follows
  where
    by : {calls : List Call} → Ends calls → SoundInFront f u calls → (unit_behind u calls).calls ≡ calls → Follows texts u calls → data_bytes calls ≤ most_data f m
    by empty sound made follows = omega arith
    by (behind before c) sound made follows =
        let many : length (before ++ c ∷ []) ≡ length before + 1 = length-append before (c ∷ []) in
        let inside : length before < length (before ++ c ∷ []) = omega (arith, many) in
        let front : take (length before) (before ++ c ∷ []) ≡ before = take-append_seam before (c ∷ []) in
        let so_far : data_bytes before ≤ data_limit = subst (λ (p : List Call). data_bytes p ≤ data_limit) front (follows.bytes (length before) inside) in
        let next : next_command texts u before ≡ Some c.command = subst (λ (p : List Call). next_command texts u p ≡ Some c.command) front (follows.commands (length before) inside ∙ last_command before c) in
        let put : put_bytes c.command ≤ m = command_short m texts u short before c.command (next_call texts u before) (next_short m texts u short before) next (omega (arith, so_far, large)) in
        let so = sound before (c ∷ []) refl in
        let short_reply = subst (λ g. got_bytes (call (unit_behind u before) c.command).0.value ≤ size_limit g) so.1 (reply_short (unit_behind u before) c.command so.0) in
        let got : got_bytes c.reply.value ≤ size_limit f = subst (λ r. got_bytes r.value ≤ size_limit f) (sym (reply_given u before c [] fit fresh made)) short_reply in
        let sum : data_bytes (before ++ c ∷ []) ≡ data_bytes before + data_bytes (c ∷ []) = sum_by-append call_bytes before (c ∷ []) in
        let last : data_bytes (c ∷ []) ≡ call_bytes c + data_bytes [] = sum_by-cons call_bytes c [] in
        omega (arith, sum, last, so_far, put, got)

asked_in : (at : Option ActivityPath) (before rest : List Call) → AllByRecursion MayBeCalled (commands_of (before ++ rest)) → AllByRecursion (λ c. IsGiven c × (is_of_one_frame at c ≡ true)) (commands_of before)
asked_in at [] rest h = tt
asked_in at (c ∷ cs) rest h = ((h.0.given, may_in at c.command h.0), asked_in at cs rest h.1)

sound_in_front : (texts : Texts) (kind : UnitKind) (moment : ℕ) (s : Process) (calls : List Call) → AreExecutable texts → may_begin kind s ≡ true → IsSoundInFrames [] s → Follows texts (start kind moment s) calls
    → SoundInFront (format_of s) (start kind moment s) calls
unfolding unit_behind
sound_in_front texts kind moment s calls executable may sound follows before rest e =
    let asked = asked_in (path_of kind) before rest (subst (λ (l : List Call). AllByRecursion MayBeCalled (commands_of l)) e (follows_may texts (start kind moment s) executable calls follows)) in
    (runs_sound kind moment s (commands_of before) may sound asked, run_format kind moment s (commands_of before) may sound asked)

-- what a unit carries that follows texts
pub carries_little : (m : ℕ) (texts : Texts) (kind : UnitKind) (moment : ℕ) (s : Process) (calls : List Call) → data_limit ≤ m → AreShortTexts m texts → AreExecutable texts → may_begin kind s ≡ true → IsSoundInFrames [] s
    → (unit_behind (start kind moment s) calls).calls ≡ calls → Follows texts (start kind moment s) calls → data_bytes calls ≤ most_data (format_of s) m
carries_little m texts kind moment s calls large short executable may sound made follows =
    calls_short (format_of s) m texts (start kind moment s) calls large short refl refl (sound_in_front texts kind moment s calls executable may sound follows) made follows

-- ---- the texts of a session

short_block : (m : ℕ) (i : Item) → IsShortItem m i → AllByRecursion (IsShort m) (block_in (Some i))
short_block m (item.Request key script) h = h
short_block m (item.Clock moment) h = tt
short_block m item.Settle h = tt
short_block m (item.Browse criteria) h = tt

pub texts_short : (m : ℕ) (session : Session) (u : UnitKind) → IsShortSession m session → AreShortTexts m (texts_of session u)
texts_short m session u h =
    record { programs = h.programs; block = block_all (IsShortItem m) (IsShort m) (short_block m) session (item_of u) h.items }
