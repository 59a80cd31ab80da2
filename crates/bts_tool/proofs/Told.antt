-- What was read, where the source tells what it holds.
use Rattle.std.proofs.Common.{◌≡◌, ℕ, ◌<◌, ◌≤◌, [], ◌++◌, length, drop, sym, ap, ◌∙◌, arith, Option, Some, None, is_some, Result, Ok, Err, inl, inr, ⊎_elim, length-append}
use Rattle.std.proofs.lemmas.List.{append-nil}
use Rattle.std.proofs.lemmas.Bool.{cases_lt}
use Rattle.std.proofs.Math.Seq.{drop-append_seam}
use Rattle.std.specs.Io.KnownBytes.{Consumes, IsAtEnd}
use Rattle.bts_names.specs.Names.{Bytes}
use Rattle.bts_script.specs.Blocks.{Refusal}
use Rattle.bts_session.specs.Sessions.{session_of}
use Rattle.bts_session.specs.declared.session.Session.{Session}
use Rattle.bts_tool.proofs.Counted.{long_alike}
use Rattle.bts_tool.specs.declared.cause.Cause.{Cause}
use Rattle.bts_tool.specs.declared.cause.Cause.TheVariants.{WordsRefused, SourceFault, BadSession, NoMemory}
use Rattle.bts_tool.specs.declared.session.Ran.{Ran}
use Rattle.bts_tool.specs.Causes.{read_limit, IsRead, IsSaid, Meets, MeetsText}

-- the text is what the source had left, or as much of it as is read at most
pub record Reads (input left : Option Bytes) (text : Bytes) : Type 0 where
  pub most : length text ≤ read_limit
  pub taken : Consumes input left text
  pub end : length text < read_limit → IsAtEnd left

-- a text below the limit is all that the source held
whole : (bytes : Bytes) (left : Option Bytes) (text : Bytes) → Reads (Some bytes) left text → length text < read_limit → (bytes ≡ text) × (left ≡ Some [])
whole bytes None text r short = absurd r.taken
whole bytes (Some rest) text r short =
    let none : rest ≡ [] = r.end short in
    (r.taken ∙ (ap (λ (l : Bytes). text ++ l) none ∙ append-nil text), ap (λ (l : Bytes). Some l) none)

-- a text at the limit is a front of it
front : (bytes : Bytes) (left : Option Bytes) (text : Bytes) → Reads (Some bytes) left text → read_limit ≤ length text → (read_limit ≤ length bytes) × (left ≡ Some (drop read_limit bytes))
front bytes None text r long = absurd r.taken
front bytes (Some rest) text r long =
    let full : length text ≡ read_limit = omega (arith, r.most) in
    let behind : drop (length text) (text ++ rest) ≡ rest = drop-append_seam text rest in
    let e : drop read_limit bytes ≡ rest =
    ap (λ (n : ℕ). drop n bytes) (sym full) ∙ (ap (λ (b : Bytes). drop (length text) b) r.taken ∙ behind) in
    (omega (arith, ap length r.taken, length-append text rest), ap (λ (l : Bytes). Some l) (sym e))

read : (input left : Option Bytes) (text : Bytes) → Reads input left text → IsRead input left
read None left text r = tt
read (Some bytes) left text r =
    ⊎_elim
    (λ (short : length text < read_limit). inl (whole bytes left text r short).1)
    (λ (long : read_limit ≤ length text). inr (front bytes left text r long))
    (cases_lt (length text) read_limit)

-- of a text that is too long, as much as was read says the same as all of it
said : (input left : Option Bytes) (text : Bytes) (what : Result Session Refusal) → Reads input left text → session_of text ≡ what → IsSaid input what
said None left text what r e = (text, e)
said (Some bytes) left text what r e =
    ⊎_elim
    (λ (short : length text < read_limit). ap session_of (whole bytes left text r short).0 ∙ e)
    (λ (long : read_limit ≤ length text). long_alike bytes text (front bytes left text r long).0 long ∙ e)
    (cases_lt (length text) read_limit)

-- what was read decides
pub meets : (allowed : Option ℕ) (limit : ℕ) (input left : Option Bytes) (text : Bytes) (faults now : ℕ) (found : Result Ran Cause) → allowed ≡ Some limit → Reads input left text → MeetsText text limit found
    → Meets allowed input left faults now found
meets allowed limit input left text faults now (Err WordsRefused) e r m = absurd m
meets allowed limit input left text faults now (Err SourceFault) e r m = absurd m
meets allowed limit input left text faults now (Err (BadSession n why)) e r m = (ap is_some e, read input left text r, said input left text _ r m)
meets allowed limit input left text faults now (Err NoMemory) e r m = ap is_some e
meets allowed limit input left text faults now (Ok ran) e r m =
    (ap is_some e, read input left text r, (m.0, limit, e, said input left text (Ok m.0) r m.1, m.2))
