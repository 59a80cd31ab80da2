-- Equal names.
use Rattle.std.proofs.Common.{◌≡◌, true, false, ap, sym, ◌∙◌}
use Rattle.std.specs.Cmp.{IsEquivalence}
use Rattle.std.proofs.lemmas.Cmp.{eq_by_cmp_equiv, nat_list_cmp_total}
use Rattle.bts_names.specs.Names.{Name, same, same_exact}

pub same_laws : IsEquivalence same
same_laws = eq_by_cmp_equiv nat_list_cmp_total

pub same_refl : (a : Name) → same a a ≡ true
same_refl a = same_laws.refl a

pub same_sym : (a b : Name) → same a b ≡ same b a
same_sym a b = same_laws.symm a b

-- a name that equals k differs from what k differs from
pub apart : (c n k : Name) → same c k ≡ true → same c n ≡ false → same n k ≡ false
apart c n k h d = sym (ap (same n) (same_exact c k h)) ∙ same_sym n c ∙ d
