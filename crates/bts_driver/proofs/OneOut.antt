-- Where one unit is out, and it comes back.
use Rattle.std.proofs.Common.{◌≡◌, ℕ, Bool, true, false, nat_eq, List, [], ◌∷◌, ◌++◌, Result, Ok, Err, MatchResult, eq-eqb, refl, sym, ap, ◌∙◌, subst, true≢false, arith}
use Rattle.std.proofs.lemmas.List.{append-nil, append_assoc}
use Rattle.bts_command.specs.declared.ended.UnitKind.{UnitKind}
use Rattle.bts_command.specs.declared.ended.Ended.{Ended}
use Rattle.bts_driver.specs.Turns.{Grows, HasMore}
use Rattle.bts_interp.specs.Jobs as jobs
use Rattle.bts_interp.specs.Stations.{Finishes, Out, PutsNone, Takes, has_ticket, without}
use Rattle.bts_interp.specs.declared.station.FinishError.{FinishError}
use Rattle.bts_interp.specs.declared.station.FinishError.TheVariants as failure
use Rattle.bts_interp.specs.declared.station.Work.{Work}
use Rattle.bts_interp.specs.declared.station.Work.TheVariants as work

without_only : (t : ℕ) (o : Out) (b : Bool) → nat_eq o.0 t ≡ b → b ≡ true → without t (o ∷ []) ≡ []
without_only t o true e h = rw e refl
without_only t o false e h = absurd (true≢false (sym h))

pub taken_off : (t : ℕ) (u : UnitKind) (before : List Out) → before ≡ (t, u) ∷ [] → without t before ≡ []
taken_off t u before e = ap (without t) e ∙ without_only t (t, u) (nat_eq t t) refl (eq-eqb t t refl)

has_only : (t : ℕ) (o : Out) (b : Bool) → nat_eq o.0 t ≡ b → b ≡ true → has_ticket t (o ∷ []) ≡ true
has_only t o true e h = rw e refl
has_only t o false e h = absurd (true≢false (sym h))

pub is_out : (t : ℕ) (u : UnitKind) (before : List Out) → before ≡ (t, u) ∷ [] → has_ticket t before ≡ true
is_out t u before e = ap (has_ticket t) e ∙ has_only t (t, u) (nat_eq t t) refl (eq-eqb t t refl)

-- what is given back isn't out any more
pub back : {S J : Type 0} (P Q : J → Type 0) (r : Result S J) (t : ℕ) (u : UnitKind) (before after : List Out) → before ≡ (t, u) ∷ []
    → MatchResult r (λ _. (has_ticket t before ≡ true) × (after ≡ without t before)) (λ j. (has_ticket t before ≡ false) × P j × Q j) → after ≡ []
back P Q (Ok x) t u before after e h = h.1 ∙ taken_off t u before e
back P Q (Err j) t u before after e h = absurd (true≢false (sym (is_out t u before e) ∙ h.0))

-- a unit that isn't ended is as it was, and its result comes back
pub record IsRefused (before now : List Ended) (rest rest' : ℕ) (out out' : List Out) (d e : jobs.Done) : Type 0 where
  pub none : PutsNone before now rest rest'
  pub out_still : out' ≡ out
  pub same : e ≡ d

pub refused : (done : jobs.Done → jobs.Done) (before now : List Ended) (rest rest' : ℕ) (out out' : List Out) (d e : jobs.Done) (why : FinishError) → Finishes done before now rest rest' out out' d (Err (why, e))
    → IsRefused before now rest rest' out out' d e
refused done before now rest rest' out out' d e (failure.NotOut t) h = record { none = h.0; out_still = h.3; same = h.4 }
refused done before now rest rest' out out' d e failure.NoMemory h = record { none = h.0; out_still = h.2; same = h.3 }

-- a turn in which no unit ended
pub grows_none : (t : Bool) (before now now' : List Ended) (rest rest' rest'' : ℕ) → t ≡ false → PutsNone before now rest rest' → PutsNone now now' rest' rest'' → Grows t before now' rest rest''
grows_none t before now now' rest rest' rest'' e a b =
    record {
      more = record { more = []; behind = b.same ∙ a.same ∙ sym (append-nil before) };
      no_more = omega (arith, a.stays, b.stays);
      falls = λ h. absurd (true≢false (sym h ∙ e));
    }

-- a job that contracts see as it is
pub seen : (job : jobs.Job → jobs.Job) (j : jobs.Job) (out : List Out) → ((x : jobs.Job) → job x ≡ x) → out ≡ (j.ticket, j.unit) ∷ [] → out ≡ ((job j).ticket, (job j).unit) ∷ []
seen job j out same e = e ∙ sym (ap (λ (x : jobs.Job). (x.ticket, x.unit) ∷ []) (same j))

-- what stood first still does, behind a call that put none and one that put more
pub more_behind : (first before taken after : List Ended) → HasMore first before → taken ≡ before → HasMore taken after → HasMore first after
more_behind first before taken after a same b =
    record { more = a.more ++ b.more; behind = b.behind ∙ ap (λ l. l ++ b.more) (same ∙ a.behind) ∙ append_assoc first a.more b.more }

-- a unit that goes out puts none
pub none_put : {J : Type 0} (job : J → jobs.Job) (before now : List Ended) (rest rest' : ℕ) (out out' : List Out) (w : Work J) (j : J) → w ≡ work.Job j → Takes job before now rest rest' out out' (Ok w) → now ≡ before
none_put job before now rest rest' out out' w j e h = (subst (λ x. Takes job before now rest rest' out out' (Ok x)) e h).0.same
