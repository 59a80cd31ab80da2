use Rattle.std.proofs.Common.{◌≡◌, ◌≤◌, ℕ, true, nat_cmp, is_lt, refl, sym, ◌∙◌, arith}
use Rattle.std.proofs.lemmas.Bool.Decides.{nat_tests}
use Rattle.bts_region.proofs.Still.{keeps_still}
use Rattle.bts_region.proofs.region.Region.advance.Goals as goal

less_of : (a b : ℕ) → is_lt (nat_cmp a b) ≡ true → a ≤ b
less_of a b h = grind (arith, nat_tests)

pub invariant_of-self : goal.invariant_of-self
invariant_of-self g c =
    keeps_still g.N.Naming.name c.self.inside _ c.self.invariant
    (record {
      session = refl;
      limit = refl;
      later = less_of c.self.inside.moment c.args.moment (sym c.lt.ensures ∙ c.if-lt.true);
      history = refl;
      out = refl;
      processes = refl;
      awake = λ h. h;
      units = refl;
      items = refl;
      activations = refl;
    })
