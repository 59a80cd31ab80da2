-- Texts that are told in two pieces, and texts that are cut.
use Rattle.std.proofs.Common.{◌≡◌, ℕ, ◌+◌, [], ◌++◌, true, false, length, take, Option, sym, ◌∙◌, subst}
use Rattle.std.proofs.Math.Seq.{take-append-add}
use Rattle.std.specs.Io.KnownBytes.{Appends}
use Rattle.bts_names.specs.Names.{Bytes}
use Rattle.bts_io.specs.Streams.{AppendsFront}
use Rattle.bts_report.proofs.Held.{all_held_back, stops, written_on}
use Rattle.bts_tool.specs.Causes.{TellsText, may_be_cut}

-- a text is told behind a piece that was written
pub behind : (a b c : Option Bytes) (piece text : Bytes) (status answer : ℕ) → Appends a b piece → TellsText true text status answer b c → TellsText true (piece ++ text) status answer a c
behind a b c piece text status answer written t =
    record {
      answered = t.answered;
      front = (length piece + t.front.0, subst (λ (l : Bytes). Appends a c l) (sym (take-append-add piece text t.front.0)) (written_on a b c piece (take t.front.0 text) written t.front.1));
      all = λ e. written_on a b c piece text written (t.all e);
    }

-- a front of the piece was written, and nothing follows it
pub cut : (a b : Option Bytes) (piece text : Bytes) (status answer : ℕ) → may_be_cut true answer ≡ true → AppendsFront a b piece → TellsText true (piece ++ text) status answer a b
cut a b piece text status answer is_cut front =
    record {
      answered = λ e. let never : true ≡ false = sym is_cut ∙ e in cc;
      front = stops a a b [] piece text (piece ++ text) (all_held_back a (piece ++ text)) front;
      all = λ e. let never : true ≡ false = sym is_cut ∙ e in cc;
    }
