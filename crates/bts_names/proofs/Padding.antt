-- A list with zeros behind it.
use Rattle.std.proofs.Common.{◌≡◌, ◌-◌, ℕ, List, length, take, replicate, sym, ap}
use Rattle.std.proofs.Math.Seq.{take-append_seam}
use Rattle.bts_names.specs.Padded.{padded, IsPadded}

pub front-padded : (most : ℕ) (text : List ℕ) → take (length text) (padded most text) ≡ text
front-padded most text = take-append_seam text (replicate {A = ℕ} (most - length text) 0)

pub padded-made : (most : ℕ) (text : List ℕ) → IsPadded most (padded most text) (length text)
padded-made most text =
    record {
      zeros = ap (padded most) (sym (front-padded most text));
      inside = ap length (sym (front-padded most text));
    }
