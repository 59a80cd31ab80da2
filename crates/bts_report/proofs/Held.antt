-- Pieces of a text that go to a sink, and what is held back of it.
use Rattle.std.proofs.Common.{[], ◌++◌, length, take, drop, Option, Some, None, refl, sym, ap, ◌∙◌, subst, append_assoc}
use Rattle.std.proofs.lemmas.List.{append-nil, take-append-drop}
use Rattle.std.proofs.Math.Seq.{take-append_seam}
use Rattle.std.specs.Io.KnownBytes.{Appends}
use Rattle.bts_names.specs.Names.{Bytes}
use Rattle.bts_io.specs.Streams.{AppendsFront}
use Rattle.bts_report.specs.Writing.{IsHeldBack}

nothing_written : (a : Option Bytes) → Appends a a []
nothing_written None = tt
nothing_written (Some x) = sym (append-nil x)

-- a piece is appended behind another
pub written_on : (a b c : Option Bytes) (front more : Bytes) → Appends a b front → Appends b c more → Appends a c (front ++ more)
written_on None b c front more p q = tt
written_on (Some x) None c front more p q = absurd p
written_on (Some x) (Some y) None front more p q = absurd q
written_on (Some x) (Some y) (Some z) front more p q = q ∙ (ap (λ (l : Bytes). l ++ more) p ∙ append_assoc x front more)

-- nothing was written yet
pub all_held_back : (a : Option Bytes) (text : Bytes) → IsHeldBack a a text text
all_held_back a text = record { front = []; written = nothing_written a; whole = refl }

-- all was written
pub none_held_back : (a b : Option Bytes) (text : Bytes) → Appends a b text → IsHeldBack a b [] text
none_held_back a b text written = record { front = text; written = written; whole = sym (append-nil text) }

-- a piece is given behind what was held back, in front of others
pub goes_on :
    (a b c : Option Bytes) (held piece left rest text : Bytes)
    → IsHeldBack a b (held ++ (piece ++ left)) text → IsHeldBack b c rest (held ++ piece) → IsHeldBack a c (rest ++ left) text
goes_on a b c held piece left rest text before more =
    record {
      front = before.front ++ more.front;
      written = written_on a b c before.front more.front before.written more.written;
      whole =
          before.whole
          ∙ ap (λ (l : Bytes). before.front ++ l) (sym (append_assoc held piece left) ∙ (ap (λ (l : Bytes). l ++ left) more.whole ∙ append_assoc more.front rest left))
          ∙ sym (append_assoc before.front more.front (rest ++ left));
    }

-- the last piece
pub goes_last :
    (a b c : Option Bytes) (held piece rest text : Bytes)
    → IsHeldBack a b (held ++ piece) text → IsHeldBack b c rest (held ++ piece) → IsHeldBack a c rest text
goes_last a b c held piece rest text before more =
    subst (λ (l : Bytes). IsHeldBack a c l text) (append-nil rest)
    (goes_on a b c held piece [] rest text (subst (λ (l : Bytes). IsHeldBack a b (held ++ l) text) (sym (append-nil piece)) before) more)

-- what isn't held back is a front
pub front_of : (a b : Option Bytes) (rest text : Bytes) → IsHeldBack a b rest text → AppendsFront a b text
front_of a b rest text h =
    (length h.front, subst (λ (l : Bytes). Appends a b l) (sym (take-append_seam h.front rest) ∙ ap (λ (l : Bytes). take (length h.front) l) (sym h.whole)) h.written)

-- where nothing is held back all was written
pub all_of : (a b : Option Bytes) (text : Bytes) → IsHeldBack a b [] text → Appends a b text
all_of a b text h = subst (λ (l : Bytes). Appends a b l) (sym (h.whole ∙ append-nil h.front)) h.written

-- a front of a piece was written, and nothing follows it
pub stops :
    (a b c : Option Bytes) (held piece left text : Bytes)
    → IsHeldBack a b (held ++ (piece ++ left)) text → AppendsFront b c (held ++ piece) → AppendsFront a c text
stops a b c held piece left text before (n, written) =
    let cut : IsHeldBack b c (drop n (held ++ piece)) (held ++ piece) = record { front = take n (held ++ piece); written = written; whole = sym (take-append-drop n (held ++ piece)) } in
    front_of a c (drop n (held ++ piece) ++ left) text (goes_on a b c held piece left (drop n (held ++ piece)) text before cut)

pub stops_last : (a b c : Option Bytes) (held piece text : Bytes) → IsHeldBack a b (held ++ piece) text → AppendsFront b c (held ++ piece) → AppendsFront a c text
stops_last a b c held piece text before more =
    stops a b c held piece [] text (subst (λ (l : Bytes). IsHeldBack a b (held ++ l) text) (sym (append-nil piece)) before) more

-- nothing is written of a text
pub nothing_goes : (a : Option Bytes) (text : Bytes) → AppendsFront a a text
nothing_goes a text = (0, nothing_written a)
