use Rattle.std.proofs.Common.{◌≡◌, ◌≤◌, length, drop, arith, ◌+◌, sym, refl}
use Rattle.std.proofs.lemmas.List.{drop-drop, drop_all}
use Rattle.bts_io.proofs.Pieces.{moved-front}
use Rattle.bts_io.proofs.sure_source.SureSourceSource.read.Goals as goal

pub returns-clause-bytes : goal.returns-clause-bytes
returns-clause-bytes c =
    let s = c.self.inside in
    let n = c.min-n.result in
    let left = c.split_at.result.1.now in
    let fits : n ≤ length left = omega arith in
    let cut : left ≡ drop s.at s.bytes = rw (c.split_at.ensures.back, c.as_slice.ensures) refl in
    let rest : drop (s.at + n) s.bytes ≡ drop n left = rw cut (sym (drop-drop n s.at s.bytes)) in
    rw (c.copy_from_slice.ensures.after, ← c.self.view_is, ← cut, rest)
    (moved-front n left _ fits, λ none some. drop_all n left (omega (arith, none, c.requires)))
