use Rattle.std.proofs.Common.{◌≡◌, ◌∙◌, ℕ, List, Option, None, Some, Bor, sym, refl}
use Rattle.std.proofs.lemmas.Option.{slice_get_past, slice_get_read}
use Rattle.std.specs.List.{slice_get}
use Rattle.std.specs.Option.{option_copied}
use Rattle.std.specs.Slice.{IsItemAt}
use Rattle.bts_names.specs.Vocabulary.{reasons}
use Rattle.bts_names.proofs.reply.Reason.from_number.Goals as goal

copied-place : {X : Type 0} (xs : List X) (i : ℕ) (r : Option (Bor X)) → IsItemAt xs i r → option_copied r ≡ slice_get xs i
copied-place xs i None h = sym (slice_get_past xs i h.3)
copied-place xs i (Some x) h = sym (slice_get_read xs _ i x.now refl h.3.0 h.1)

pub returns : goal.returns
returns c = c.copied.ensures ∙ rw (← c.from.ensures) (copied-place reasons c.from.result c.get.result c.get.ensures.lookup)
