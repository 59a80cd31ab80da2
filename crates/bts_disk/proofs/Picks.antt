-- The image that a pick names, call by call.
use Rattle.std.proofs.Common.{◌≡◌, ◌⊎◌, inl, inr, subst, get_or, ℕ, ◌+◌, ◌≤◌, ◌<◌, List, [], ◌∷◌, ◌++◌, length, take, drop, refl, ap, sym, ◌∙◌, arith, length-append}
use Rattle.std.proofs.lemmas.List.{take_all, drop_all, take-append-le, drop-append-le, length-take-le}
use Rattle.std.proofs.lemmas.Grind.{take_at_read}
use Rattle.bts_names.specs.Names.{Bytes}
use Rattle.bts_disk.specs.Memory.{content_after, content_behind, IsQuiet, picked_from, picked_call, picked_calls, IsBehindSyncs}
use Rattle.bts_disk.specs.MemoryLaws.{content-last}
use Rattle.bts_disk.specs.declared.device_call.DeviceCall.{DeviceCall}
use Rattle.bts_disk.specs.declared.device_call.DeviceCall.TheVariants.{Idle, Write, Sync}
use Rattle.bts_disk.specs.declared.pick.Pick.{Pick}

-- a call that isn't a write leaves the content
pub quiet_last : (c : Bytes) (xs : List DeviceCall) (x : DeviceCall) → IsQuiet x → content_after c (xs ++ x ∷ []) ≡ content_after c xs
quiet_last c xs Idle quiet = content-last c xs Idle
quiet_last c xs (Write done at bytes) quiet = absurd quiet
quiet_last c xs Sync quiet = content-last c xs Sync

picked-last : (p : Pick) (c d : Bytes) (xs : List DeviceCall) (x : DeviceCall) → (x ≡ Sync → ⊥) → picked_from p c d (xs ++ x ∷ []) ≡ picked_call p (picked_from p c d xs) x
picked-last p c d [] Idle other = refl
picked-last p c d [] (Write done at bytes) other = refl
picked-last p c d [] Sync other = absurd (other refl)
picked-last p c d (Idle ∷ xs) x other = picked-last p c d xs x other
picked-last p c d (Write done at bytes ∷ xs) x other = picked-last p (content_behind c (Write done at bytes)) (picked_call p d (Write done at bytes)) xs x other
picked-last p c d (Sync ∷ xs) x other = picked-last p c c xs x other

picked-sync : (p : Pick) (c d : Bytes) (xs : List DeviceCall) → picked_from p c d (xs ++ Sync ∷ []) ≡ content_after c xs
picked-sync p c d [] = refl
picked-sync p c d (Idle ∷ xs) = picked-sync p c d xs
picked-sync p c d (Write done at bytes ∷ xs) = picked-sync p (content_behind c (Write done at bytes)) (picked_call p d (Write done at bytes)) xs
picked-sync p c d (Sync ∷ xs) = picked-sync p c c xs

calls-last : (p : Pick) (d : Bytes) (xs : List DeviceCall) (x : DeviceCall) → picked_calls p d (xs ++ x ∷ []) ≡ picked_call p (picked_calls p d xs) x
calls-last p d [] x = refl
calls-last p d (y ∷ xs) x = calls-last p (picked_call p d y) xs x

-- another call behind the syncs, which is none
pub behind-other : (xs : List DeviceCall) (n : ℕ) (x : DeviceCall) → n ≤ length xs → (x ≡ Sync → ⊥) → IsBehindSyncs xs n → IsBehindSyncs (xs ++ x ∷ []) n
behind-other xs n x within other is p c =
    let front : take n (xs ++ x ∷ []) ≡ take n xs = take-append-le n xs (x ∷ []) within in
    let rest : drop n (xs ++ x ∷ []) ≡ drop n xs ++ x ∷ [] = drop-append-le n xs (x ∷ []) within in
    picked-last p c c xs x other
    ∙ ap (λ (d : Bytes). picked_call p d x) (is p c)
    ∙ sym (calls-last p (content_after c (take n xs)) (drop n xs) x)
    ∙ ap (λ (ys : List DeviceCall). picked_calls p (content_after c (take n xs)) ys) (sym rest)
    ∙ ap (λ (ys : List DeviceCall). picked_calls p (content_after c ys) (drop n (xs ++ x ∷ []))) (sym front)

-- a sync
pub behind-sync : (xs : List DeviceCall) → IsBehindSyncs (xs ++ Sync ∷ []) (length xs + 1)
behind-sync xs p c =
    let long : length (xs ++ Sync ∷ []) ≡ length xs + 1 = omega (arith, length-append xs (Sync ∷ [])) in
    let front : take (length xs + 1) (xs ++ Sync ∷ []) ≡ xs ++ Sync ∷ [] = take_all (length xs + 1) (xs ++ Sync ∷ []) (omega (arith, long)) in
    let rest : drop (length xs + 1) (xs ++ Sync ∷ []) ≡ [] = drop_all (length xs + 1) (xs ++ Sync ∷ []) (omega (arith, long)) in
    picked-sync p c c xs
    ∙ sym (quiet_last c xs Sync tt)
    ∙ ap (λ (ys : List DeviceCall). picked_calls p (content_after c (xs ++ Sync ∷ [])) ys) (sym rest)
    ∙ ap (λ (ys : List DeviceCall). picked_calls p (content_after c ys) (drop (length xs + 1) (xs ++ Sync ∷ []))) (sym front)

-- the content behind one call more, where the first bytes stay
pub after_more : (first first' old new : Bytes) (xs ys : List DeviceCall) (x : DeviceCall)
    → first' ≡ first → ys ≡ xs ++ x ∷ [] → new ≡ content_behind old x → old ≡ content_after first xs → new ≡ content_after first' ys
after_more first first' old new xs ys x same more now before =
    now
    ∙ ap (λ (c : Bytes). content_behind c x) before
    ∙ sym (content-last first xs x)
    ∙ ap (λ (l : List DeviceCall). content_after first l) (sym more)
    ∙ ap (λ (c : Bytes). content_after c ys) (sym same)

-- how many calls there are up to the last sync, with the next call
pub syncs-step : (xs : List DeviceCall) (i n m : ℕ) (x : DeviceCall) → i < length xs → x ≡ get_or xs i x → n ≤ i
    → IsBehindSyncs (take i xs) n → ((x ≡ Sync) × (m ≡ i + 1)) ⊎ ((x ≡ Sync → ⊥) × (m ≡ n))
    → (m ≤ i + 1) × IsBehindSyncs (take (i + 1) xs) m
syncs-step xs i n m x inside is within behind (inl sync) =
    let long : length (take i xs) ≡ i = length-take-le i xs (omega arith) in
    let more : take (i + 1) xs ≡ take i xs ++ Sync ∷ [] = (take_at_read xs i x inside).1 ∙ ap (λ (y : DeviceCall). take i xs ++ y ∷ []) (sym is ∙ sync.0) in
    let place : length (take i xs) + 1 ≡ m = omega (arith, long, sync.1) in (
      omega (arith, sync.1),
      subst (λ (k : ℕ). IsBehindSyncs (take (i + 1) xs) k) place (subst (λ (l : List DeviceCall). IsBehindSyncs l (length (take i xs) + 1)) (sym more) (behind-sync (take i xs))),
    )
syncs-step xs i n m x inside is within behind (inr other) =
    let long : length (take i xs) ≡ i = length-take-le i xs (omega arith) in
    let more : take (i + 1) xs ≡ take i xs ++ x ∷ [] = (take_at_read xs i x inside).1 ∙ ap (λ (y : DeviceCall). take i xs ++ y ∷ []) (sym is) in (
      omega (arith, other.1),
      subst (λ (k : ℕ). IsBehindSyncs (take (i + 1) xs) k) (sym other.1) (subst (λ (l : List DeviceCall). IsBehindSyncs l n) (sym more) (behind-other (take i xs) n x (omega arith) other.0 behind)),
    )
