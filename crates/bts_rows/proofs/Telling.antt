-- A row that is refused says why, and what is answered and left by one that is done has a property.
use Rattle.std.proofs.Common.{◌≡◌, Bool, true, false, Option, Some, None, Result, Ok, Err, refl, ap}
use Rattle.bts_names.specs.Answer.{Answer, refused, done, left_by, mapped, at_some, at_ok, refuse◌because◌when◌otherwise◌, refuse◌for◌otherwise◌}
use Rattle.bts_names.specs.declared.reply.Resp.{Resp}
use Rattle.bts_names.specs.declared.reply.Reason.{Reason}
use Rattle.bts_names.specs.declared.reply.Value.{Value}
use Rattle.bts_rows.specs.Replies.{is_no_reason, is_normal}
use Rattle.bts_rows.proofs.Reasons.{AreErrors, AreReasons}
use Rattle.bts_rows.specs.Places.{at_found}
use Rattle.bts_rows.specs.declared.places.Unfound.{Unfound}
use Rattle.bts_rows.specs.declared.places.Unfound.TheVariants as unfound

abbrev pub TellsWith : {S : Type 0} → (Value → S → Type 0) → Answer S → Type 0
TellsWith P (refused r why) = (is_normal r ≡ false) × (is_no_reason why ≡ false)
TellsWith P (done v x) = P v x

-- the same of what it leaves alone
abbrev pub Tells : {S : Type 0} → (S → Type 0) → Answer S → Type 0
Tells P = TellsWith (λ v. P)

-- a refusal for a reason, with a response that isn't NORMAL
abbrev pub SaysWhy : {S : Type 0} → Answer S → Type 0
SaysWhy = Tells (λ x. Unit {0})

module _ {S : Type 0} (P : Value → S → Type 0) where
  -- ---- the words of rows

  pub tells_when : (r : Resp) (why : Reason) (b : Bool) (rest : Answer S) → is_normal r ≡ false → is_no_reason why ≡ false
      → (b ≡ false → TellsWith P rest) → TellsWith P (refuse r because why when b otherwise rest)
  tells_when r why true rest h g f = (h, g)
  tells_when r why false rest h g f = f refl

  pub tells_for : (r : Resp) (o : Option Reason) (rest : Answer S) → is_normal r ≡ false → AreReasons o → (o ≡ None → TellsWith P rest)
      → TellsWith P (refuse r for o otherwise rest)
  tells_for r (Some why) rest h g f = (h, g)
  tells_for r None rest h g f = f refl

  pub tells_some : {A : Type 0} (r : Resp) (why : Reason) (o : Option A) (rest : A → Answer S) → is_normal r ≡ false
      → is_no_reason why ≡ false → ((x : A) → o ≡ Some x → TellsWith P (rest x)) → TellsWith P (at_some r why o rest)
  tells_some r why None rest h g f = (h, g)
  tells_some r why (Some x) rest h g f = f x refl

  pub tells_ok : {A : Type 0} (r : Resp) (o : Result A Reason) (rest : A → Answer S) → is_normal r ≡ false → AreErrors o
      → ((x : A) → o ≡ Ok x → TellsWith P (rest x)) → TellsWith P (at_ok r o rest)
  tells_ok r (Err why) rest h g f = (h, g)
  tells_ok r (Ok x) rest h g f = f x refl

  pub tells_found : {A : Type 0} (o : Result A Unfound) (rest : A → Answer S) → ((x : A) → o ≡ Ok x → TellsWith P (rest x))
      → TellsWith P (at_found o rest)
  tells_found (Err unfound.Place) rest f = (refl, refl)
  tells_found (Err unfound.NotAcquired) rest f = (refl, refl)
  tells_found (Err unfound.Missing) rest f = (refl, refl)
  tells_found (Err unfound.ReadOnly) rest f = (refl, refl)
  tells_found (Ok x) rest f = f x refl

  -- ---- what follows

  pub tells_mapped : {T : Type 0} (f : T → S) (x : Answer T) → TellsWith (λ v y. P v (f y)) x → TellsWith P (mapped f x)
  tells_mapped f (refused r why) t = t
  tells_mapped f (done v y) t = t

  pub tells_more : (Q : Value → S → Type 0) (x : Answer S) → ((v : Value) (y : S) → P v y → Q v y) → TellsWith P x → TellsWith Q x
  tells_more Q (refused r why) f t = t
  tells_more Q (done v y) f t = f v y t

  pub tells_both : (Q : Value → S → Type 0) (x : Answer S) → TellsWith P x → TellsWith Q x → TellsWith (λ v y. P v y × Q v y) x
  tells_both Q (refused r why) t u = t
  tells_both Q (done v y) t u = (t, u)

module _ {S : Type 0} (P : S → Type 0) where
  pub left_so : (s : S) (x : Answer S) → P s → Tells P x → P (left_by s x)
  left_so s (refused r why) p t = p
  left_so s (done v y) p t = t

  pub mapped_told : {T : Type 0} (f g : S → T) (x : Answer S) → ((y : S) → P y → f y ≡ g y) → Tells P x → mapped f x ≡ mapped g x
  mapped_told f g (refused r why) h t = refl
  mapped_told f g (done v y) h t = ap (done v) (h y t)
