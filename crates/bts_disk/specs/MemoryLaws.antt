-- The laws of a disk, for the one in memory.
use Rattle.std.specs.Prelude.{◌≡◌, ℕ, ◌+◌, ◌-◌, ◌≤◌, min, Bool, true, false, List, [], ◌∷◌, ◌++◌, length, take, drop, replicate, refl}
use Rattle.std.proofs.Common.{inl, inr, ap, sym, subst, ◌∙◌, arith, append_assoc, length-append, length-drop}
use Rattle.std.proofs.lemmas.List.{take_at, drop_at, take_all, drop_all, length-take, length-take-le, length-replicate, take_min}
use Rattle.std.proofs.lemmas.Bool.{cases_lt}
use Rattle.std.proofs.Math.Nat.{min-eq_left}
use Rattle.std.proofs.Math.Bridge.{le_prop}
use Rattle.bts_names.specs.Names.{Bytes}
use Rattle.bts_disk.specs.Disks.{written, Torn}
use Rattle.bts_disk.specs.Memory.{Recorded, content_behind, content_after, content_of, StartsWithin, StartWithin, Leave, IsImage, moment_of, WasImage, picked_write, picked_from, picked}
use Rattle.bts_disk.specs.declared.device_call.DeviceCall.{DeviceCall}
use Rattle.bts_disk.specs.declared.device_call.DeviceCall.TheVariants.{Idle, Write, Sync}
use Rattle.bts_disk.specs.declared.pick.Pick.{Pick}
use Rattle.bts_disk.specs.declared.pick.Pick.TheVariants.{Old, New, Filled}

-- ---- torn writes

-- a write that wasn't done is one of its outcomes
pub Torn-none : (at n : ℕ) (c : Bytes) → Torn at n c c
Torn-none at n c = record {
  before = take_min at c;
  after = ap (λ (l : Bytes). drop (at + n) l) (take_all (length c) c (omega arith));
  no_shorter = omega arith;
  no_longer = omega arith;
}

module _ (at : ℕ) (bytes d : Bytes) (fits : at ≤ length d) where
  front : Bytes
  front = take at d ++ bytes

  length-front : length (take at d ++ bytes) ≡ at + length bytes
  length-front = omega (arith, length-append (take at d) bytes, length-take-le at d fits)

  pub length-written : length (written at bytes d) ≡ (at + length bytes) + (length d - (at + length bytes))
  length-written = omega (arith, length-front, length-append (take at d ++ bytes) (drop (at + length bytes) d), length-drop (at + length bytes) d)

  written-before : take (min at (length d)) (written at bytes d) ≡ take at d
  written-before =
      ap (λ (n : ℕ). take n (written at bytes d)) (min-eq_left fits)
      ∙ ap (λ (l : Bytes). take at l) (append_assoc (take at d) bytes (drop (at + length bytes) d))
      ∙ take_at (take at d) (bytes ++ drop (at + length bytes) d) at (length-take-le at d fits)

  written-after : drop (at + length bytes) (take (length d) (written at bytes d)) ≡ drop (at + length bytes) d
  written-after = elim (cases_lt (length d) (at + length bytes)) [
    | inl past ↦
        drop_all (at + length bytes) (take (length d) (written at bytes d)) (omega (arith, length-take (length d) (written at bytes d)))
        ∙ sym (drop_all (at + length bytes) d (omega arith))
    | inr inside ↦
        ap (λ (l : Bytes). drop (at + length bytes) l) (take_all (length d) (written at bytes d) (omega (arith, length-written)))
        ∙ drop_at (take at d ++ bytes) (drop (at + length bytes) d) (at + length bytes) length-front
  ]

  -- a write that was done is one of its outcomes
  pub Torn-written : Torn at (length bytes) d (written at bytes d)
  Torn-written = record {
    before = written-before;
    after = written-after;
    no_shorter = omega (arith, length-written);
    no_longer = omega (arith, length-written);
  }

-- ---- the last call

-- images behind a call, from the content and the images before it
abbrev pub Last : Bytes → (Bytes → Type 0) → DeviceCall → Bytes → Type 0
Last c images Idle i = images i
Last c images (Write done at bytes) i = (e : Bytes) × images e × Torn at (length bytes) e i
Last c images Sync i = i ≡ c

Last-map : (c : Bytes) (P Q : Bytes → Type 0) (x : DeviceCall) (i : Bytes) → ((e : Bytes) → P e → Q e) → Last c P x i → Last c Q x i
Last-map c P Q Idle i f last = f i last
Last-map c P Q (Write done at bytes) i f last = (last.0, f last.0 last.1, last.2)
Last-map c P Q Sync i f last = last

pub content-last : (c : Bytes) (xs : List DeviceCall) (x : DeviceCall) → content_after c (xs ++ x ∷ []) ≡ content_behind (content_after c xs) x
content-last c [] x = refl
content-last c (y ∷ xs) x = content-last (content_behind c y) xs x

pub within-last : (c : Bytes) (xs : List DeviceCall) (x : DeviceCall) → StartWithin c xs → StartsWithin (content_after c xs) x → StartWithin c (xs ++ x ∷ [])
within-last c [] x all last = (last, tt)
within-last c (y ∷ xs) x all last = (all.0, within-last (content_behind c y) xs x all.1 last)

pub leave-last : (c d : Bytes) (xs : List DeviceCall) (x : DeviceCall) (i : Bytes) → Leave c d (xs ++ x ∷ []) i → Last (content_after c xs) (Leave c d xs) x i
leave-last c d [] Idle i left = left
leave-last c d [] (Write done at bytes) i left = (d, refl, subst (λ (y : Bytes). Torn at (length bytes) d y) (sym left.2) left.1)
leave-last c d [] Sync i left = left
leave-last c d (Idle ∷ xs) x i left = leave-last c d xs x i left
leave-last c d (Write done at bytes ∷ xs) x i left =
    let b = content_behind c (Write done at bytes) in
    Last-map (content_after b xs) (Leave b left.0 xs) (Leave c d (Write done at bytes ∷ xs)) x i (λ e l. (left.0, left.1, l)) (leave-last b left.0 xs x i left.2)
leave-last c d (Sync ∷ xs) x i left = leave-last c c xs x i left

pub leave-more : (c d : Bytes) (xs : List DeviceCall) (x : DeviceCall) (i : Bytes) → Last (content_after c xs) (Leave c d xs) x i → Leave c d (xs ++ x ∷ []) i
leave-more c d [] Idle i last = last
leave-more c d [] (Write done at bytes) i last = (i, subst (λ (y : Bytes). Torn at (length bytes) y i) last.1 last.2, refl)
leave-more c d [] Sync i last = last
leave-more c d (Idle ∷ xs) x i last = leave-more c d xs x i last
leave-more c d (Write done at bytes ∷ xs) Idle i last = (last.0, last.1, leave-more (content_behind c (Write done at bytes)) last.0 xs Idle i last.2)
leave-more c d (Write done at bytes ∷ xs) (Write done' at' bytes') i last =
    let before = last.1 in
    (before.0, before.1, leave-more (content_behind c (Write done at bytes)) before.0 xs (Write done' at' bytes') i (last.0, before.2, last.2))
leave-more c d (Write done at bytes ∷ xs) Sync i last = (d, Torn-none at (length bytes) d, leave-more (content_behind c (Write done at bytes)) d xs Sync i last)
leave-more c d (Sync ∷ xs) x i last = leave-more c c xs x i last

-- ---- the content, and what is picked

content_leaves : (c : Bytes) (xs : List DeviceCall) → StartWithin c xs → Leave c c xs (content_after c xs)
content_leaves c [] all = refl
content_leaves c (Idle ∷ xs) all = content_leaves c xs all.1
content_leaves c (Write true at bytes ∷ xs) all = (written at bytes c, Torn-written at bytes c all.0, content_leaves (written at bytes c) xs all.1)
content_leaves c (Write false at bytes ∷ xs) all = (c, Torn-none at (length bytes) c, content_leaves c xs all.1)
content_leaves c (Sync ∷ xs) all = content_leaves c xs all.1

-- the disk as it reads is one of its images
pub shows_image : (r : Recorded) → StartWithin r.first r.calls → IsImage r (content_of r)
shows_image r all = content_leaves r.first r.calls all

-- where a pick writes, its image is as long as the content at least
Reaches : Pick → Bytes → Bytes → Type 0
Reaches Old c d = Unit {0}
Reaches New c d = length c ≤ length d
Reaches (Filled b) c d = length c ≤ length d

picked-torn : (p : Pick) (at : ℕ) (bytes c d : Bytes) → at ≤ length c → Reaches p c d → Torn at (length bytes) d (picked_write p at bytes d)
unfolding Reaches
picked-torn Old at bytes c d fits reaches = Torn-none at (length bytes) d
picked-torn New at bytes c d fits reaches = Torn-written at bytes d (omega (arith, reaches))
picked-torn (Filled b) at bytes c d fits reaches =
    let filler = replicate (length bytes) b in
    subst (λ (n : ℕ). Torn at n d (written at filler d)) (length-replicate (length bytes) b) (Torn-written at filler d (omega (arith, reaches)))

picked-reaches : (p : Pick) (done : Bool) (at : ℕ) (bytes c d : Bytes) → at ≤ length c → Reaches p c d → Reaches p (content_behind c (Write done at bytes)) (picked_write p at bytes d)
unfolding Reaches
picked-reaches Old done at bytes c d fits reaches = tt
picked-reaches New true at bytes c d fits reaches = omega (arith, reaches, length-written at bytes c fits, length-written at bytes d (omega (arith, reaches)))
picked-reaches New false at bytes c d fits reaches = omega (arith, reaches, length-written at bytes d (omega (arith, reaches)))
picked-reaches (Filled b) true at bytes c d fits reaches =
    let filler = replicate (length bytes) b in
    omega (arith, reaches, length-written at bytes c fits, length-written at filler d (omega (arith, reaches)), length-replicate (length bytes) b)
picked-reaches (Filled b) false at bytes c d fits reaches =
    let filler = replicate (length bytes) b in
    omega (arith, reaches, length-written at filler d (omega (arith, reaches)), length-replicate (length bytes) b)

reaches-same : (p : Pick) (c : Bytes) → Reaches p c c
unfolding Reaches
reaches-same Old c = tt
reaches-same New c = omega arith
reaches-same (Filled b) c = omega arith

picked_leaves : (p : Pick) (c d : Bytes) (xs : List DeviceCall) → StartWithin c xs → Reaches p c d → Leave c d xs (picked_from p c d xs)
picked_leaves p c d [] all reaches = refl
picked_leaves p c d (Idle ∷ xs) all reaches = picked_leaves p c d xs all.1 reaches
picked_leaves p c d (Write done at bytes ∷ xs) all reaches = (
  picked_write p at bytes d,
  picked-torn p at bytes c d all.0 reaches,
  picked_leaves p (content_behind c (Write done at bytes)) (picked_write p at bytes d) xs all.1 (picked-reaches p done at bytes c d all.0 reaches),
)
picked_leaves p c d (Sync ∷ xs) all reaches = picked_leaves p c c xs all.1 (reaches-same p c)

-- what a pick names is one of the images
pub picked_is_image : (p : Pick) (r : Recorded) → StartWithin r.first r.calls → IsImage r (picked p r)
picked_is_image p r all = picked_leaves p r.first r.first r.calls all (reaches-same p r.first)

-- ---- where writes begin is a fact with one proof

StartsWithin-prop : (c : Bytes) (x : DeviceCall) → IsProp (StartsWithin c x)
StartsWithin-prop c Idle = hlevel
StartsWithin-prop c (Write done at bytes) = le_prop
StartsWithin-prop c Sync = hlevel

pub StartWithin-prop : (c : Bytes) (xs : List DeviceCall) → IsProp (StartWithin c xs)
StartWithin-prop c [] = hlevel
StartWithin-prop c (x ∷ xs) = hlevel (StartsWithin-prop c x, StartWithin-prop (content_behind c x) xs)

-- ---- moments

pub counts_image_now : (r : Recorded) (t : ℕ) (i : Bytes) → t ≤ moment_of r → IsImage r i → WasImage r t i
counts_image_now r t i le now = (
  length r.calls,
  le,
  omega arith,
  subst (λ (xs : List DeviceCall). Leave r.first r.first xs i) (sym (take_all (length r.calls) r.calls (omega arith))) now,
)

pub only_image_now : (r : Recorded) (i : Bytes) → WasImage r (moment_of r) i → IsImage r i
only_image_now r i (n, least, most, was) = subst (λ (xs : List DeviceCall). Leave r.first r.first xs i) (take_all n r.calls least) was
