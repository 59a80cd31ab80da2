-- What a call of the program comes to, and what it tells of it.
use Rattle.std.specs.Prelude.{◌≡◌, ◌⊎◌, ◌≤◌, ℕ, Bool, true, false, ◌||◌, ◌&&◌, nat_eq, List, [], ◌∷◌, ◌++◌, length, drop, codes, is_some, Option, None, Some, Result, Ok, Err}
use Rattle.std.specs.Fmt.{decimal}
use Rattle.std.specs.Io.KnownBytes.{Appends}
use Rattle.bts_names.specs.Names.{Bytes}
use Rattle.bts_io.specs.Faults.{Rose}
use Rattle.bts_io.specs.Streams.{AppendsFront}
use Rattle.bts_command.specs.declared.ended.Ended.{Ended}
use Rattle.bts_script.specs.Blocks.{Refusal, refused_at}
use Rattle.bts_forms.specs.declared.line.Word.{Word}
use Rattle.bts_forms.specs.declared.line.Word.TheVariants as word
use Rattle.bts_session.specs.Sessions.{session_of}
use Rattle.bts_session.specs.declared.session.Session.{Session}
use Rattle.bts_driver.specs.declared.driver.Stop.{Stop}
use Rattle.bts_driver.specs.declared.driver.Stop.TheVariants as stop
use Rattle.bts_region.specs.Positions.{origin}
use Rattle.bts_region.specs.Serial.{IsInOrder}
use Rattle.bts_tool.specs.Runs.{IsAllDone, IsAtLimit, IsRunOf}
use Rattle.bts_tool.specs.declared.session.Ran.{Ran}
use Rattle.bts_report.specs.Reports.{report}
use Rattle.bts_tool.specs.Tail.{end_line, limit_line}
use Rattle.bts_tool.specs.declared.cause.Cause.{Cause}
use Rattle.bts_tool.specs.declared.cause.Cause.TheVariants.{WordsRefused, SourceFault, BadSession, NoMemory}

-- ---- what was read

-- no more than a session of the greatest length and one byte is read
abbrev pub read_limit : ℕ
read_limit = 16777217

-- the source was read to its end, or as far as the limit; a source that tells nothing of its bytes tells nothing of this
abbrev pub IsRead : Option Bytes → Option Bytes → Type 0
IsRead None after = Unit {0}
IsRead (Some bytes) after = (after ≡ Some []) ⊎ ((read_limit ≤ length bytes) × (after ≡ Some (drop read_limit bytes)))

-- nothing was asked of the source
pub record IsUnread (input left : Option Bytes) (faults now : ℕ) : Type 0 where
  pub bytes : left ≡ input
  pub count : now ≡ faults

-- what the source's bytes say as a session; of a source that tells nothing, what some bytes say
abbrev pub IsSaid : Option Bytes → Result Session Refusal → Type 0
IsSaid None said = (bytes : Bytes) × (session_of bytes ≡ said)
IsSaid (Some bytes) said = session_of bytes ≡ said

-- a fact on a session that the source's bytes say, where the words allow so many activations
abbrev pub OfSession : Option ℕ → Option Bytes → (Session → ℕ → Type 0) → Type 0
OfSession limit input P = (s : Session) × (n : ℕ) × (limit ≡ Some n) × IsSaid input (Ok s) × P s n

-- the units are the first ones of the serial history
abbrev pub IsHistory : Option ℕ → Option Bytes → List Ended → Type 0
IsHistory limit input history = OfSession limit input (λ s n. IsInOrder s origin n history)

-- all is done
abbrev pub IsWhole : Option ℕ → Option Bytes → List Ended → Type 0
IsWhole limit input history = OfSession limit input (λ s n. IsAllDone s n history)

-- as many activations have ended as the words allow
abbrev pub IsLimited : Option ℕ → Option Bytes → List Ended → Type 0
IsLimited limit input history = OfSession limit input (λ s n. IsAtLimit s n history n)

-- ---- the causes, of which the first that is met decides: the words, the reading, the bytes that were read

abbrev pub IsTaken : Option ℕ → Type 0
IsTaken limit = is_some limit ≡ true

-- the cause is met, or the session was done: how many activations the words allow, what the source had left before and
-- has left now, its faults before and now
abbrev pub Meets : Option ℕ → Option Bytes → Option Bytes → ℕ → ℕ → Result Ran Cause → Type 0
Meets limit input left faults now (Err WordsRefused) = (limit ≡ None) × IsUnread input left faults now
Meets limit input left faults now (Err SourceFault) = IsTaken limit × Rose faults now
Meets limit input left faults now (Err (BadSession n why)) = IsTaken limit × IsRead input left × IsSaid input (refused_at n why)
Meets limit input left faults now (Err NoMemory) = IsTaken limit
Meets limit input left faults now (Ok ran) = IsTaken limit × IsRead input left × OfSession limit input (λ s n. IsRunOf s n ran)

abbrev pub cause_status : Cause → ℕ
cause_status WordsRefused = 2
cause_status SourceFault = 4
cause_status (BadSession n why) = 1
cause_status NoMemory = 8

abbrev pub stop_status : Stop → ℕ
stop_status stop.Done = 0
stop_status (stop.Limit count) = 7
stop_status stop.NoMemory = 8

abbrev pub status_of : Result Ran Cause → ℕ
status_of (Ok ran) = stop_status ran.stop
status_of (Err cause) = cause_status cause

-- the status where the sink fails, whatever came before
abbrev pub sink_status : ℕ
sink_status = 5

abbrev pub is_status : ℕ → Bool
is_status n = nat_eq n 0 || nat_eq n 1 || nat_eq n 2 || nat_eq n 4 || nat_eq n 5 || nat_eq n 7 || nat_eq n 8

-- a history is there with these statuses alone
abbrev pub has_history : ℕ → Bool
has_history n = nat_eq n 0 || nat_eq n 5 || nat_eq n 7 || nat_eq n 8

-- there is a history, of which this holds
abbrev pub IsSomeOf : Option (List Ended) → (List Ended → Type 0) → Type 0
IsSomeOf None P = ⊥
IsSomeOf (Some h) P = P h

abbrev pub handed_out : Result Ran Cause → Option (List Ended)
handed_out (Ok ran) = Some ran.history
handed_out (Err cause) = None

-- ---- what is told

abbrev pub reason_word : Word → Bytes
reason_word word.Long = codes "Long"
reason_word word.Character = codes "Character"
reason_word word.Word = codes "Word"
reason_word word.NotYet = codes "NotYet"
reason_word word.Place = codes "Place"
reason_word word.Name = codes "Name"
reason_word word.Number = codes "Number"
reason_word word.Moment = codes "Moment"
reason_word word.Literal = codes "Literal"
reason_word word.Known = codes "Known"
reason_word word.Twice = codes "Twice"
reason_word word.Label = codes "Label"
reason_word word.Open = codes "Open"

abbrev pub bad_session_line : ℕ → Word → Bytes
bad_session_line n why = codes "session: line " ++ decimal n ++ 32 ∷ reason_word why ++ 10 ∷ []

unfoldable pub tail_line : Cause → Bytes
tail_line WordsRefused = codes "words refused\n"
tail_line SourceFault = codes "source fault\n"
tail_line (BadSession n why) = bad_session_line n why
tail_line NoMemory = codes "no memory\n"

-- the last line of a run: that all was done, that the limit was met, or that there was no memory
abbrev pub stop_line : List Ended → Stop → Bytes
stop_line history stop.Done = end_line (length history)
stop_line history (stop.Limit count) = limit_line count
stop_line history stop.NoMemory = tail_line NoMemory

-- the report and the tail line
abbrev pub run_text : List Ended → Stop → Bytes
run_text history why = report history ++ stop_line history why

abbrev pub text_of : Result Ran Cause → Bytes
text_of (Ok ran) = run_text ran.history ran.stop
text_of (Err cause) = tail_line cause

-- whether a text takes memory: one with a number or a report in it does
abbrev pub takes_memory : Result Ran Cause → Bool
takes_memory (Ok ran) = true
takes_memory (Err (BadSession n why)) = true
takes_memory (Err cause) = false

-- the statuses with which a text may be cut: that of the sink, and want of memory where the text takes any
abbrev pub may_be_cut : Bool → ℕ → Bool
may_be_cut takes n = nat_eq n sink_status || (takes && nat_eq n (cause_status NoMemory))

-- a front of the text was written and nothing else, and with any other status all of it, and the status is its own
pub record TellsText (takes : Bool) (text : Bytes) (status answer : ℕ) (before after : Option Bytes) : Type 0 where
  pub answered : may_be_cut takes answer ≡ false → answer ≡ status
  pub front : AppendsFront before after text
  pub all : may_be_cut takes answer ≡ false → Appends before after text

-- what was found is told: the history is handed out, and the text is written
pub record Tells (found : Result Ran Cause) (answer : ℕ) (given : Option (List Ended)) (before after : Option Bytes) : Type 0 where
  pub history : given ≡ handed_out found
  pub text : TellsText (takes_memory found) (text_of found) (status_of found) answer before after

-- ---- inside the call

-- what the bytes that were read come to, with so many activations
abbrev pub MeetsText : Bytes → ℕ → Result Ran Cause → Type 0
MeetsText text limit (Err WordsRefused) = ⊥
MeetsText text limit (Err SourceFault) = ⊥
MeetsText text limit (Err (BadSession n why)) = session_of text ≡ refused_at n why
MeetsText text limit (Err NoMemory) = Unit {0}
MeetsText text limit (Ok ran) = (s : Session) × (session_of text ≡ Ok s) × IsRunOf s limit ran
