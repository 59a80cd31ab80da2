-- What the index keeps where room is made, a process is put, and a key is given up.
use Rattle.std.proofs.Common.{OnOk, Result, Ok, Err, ◌≡◌, Bool, true, false, not, ◌||◌, refl, sym, ap, ◌∙◌}
use Rattle.std.proofs.lemmas.Bool.{and_parts}
use Rattle.bts_tree.specs.Indexes.{has_key, is_awake, is_still_kept}
use Rattle.bts_tree.proofs.Keys.{has_only}
use Rattle.bts_names.specs.declared.key.Key.{Key}
use Rattle.bts_names.proofs.Sameness.{keys_exact}
use Rattle.bts_region.specs.Awake.{AreAwake, AreOthersAwake}
use Rattle.bts_rows.proofs.Repositories.{put_other}
use Rattle.bts_tree.specs.Activities.{is_ready}
use Rattle.bts_tree.specs.Processes.{Process, activities}
use Rattle.bts_tree.specs.Repositories.{Stored, chosen_at, put, same_key, with_room}
use Rattle.bts_tree.specs.Scopes.{is_empty}

-- room for one key more
pub others_awake : (key : Key) (r : Stored) → AreAwake r → AreOthersAwake key (with_room key r)
others_awake key r awake k h other = awake k (second (same_key key k) (has_key k r.room) other (has_only k key r.room h))
  where
    second : (b c : Bool) → b ≡ false → (b || c) ≡ true → c ≡ true
    second true c e g = cc
    second false c e g = g

-- another process under that key
pub others_still : (s : Process) (r : Stored) → AreOthersAwake s.key r → AreOthersAwake s.key (record { processes = put s r.processes; room = r.room })
others_still s r awake k h other =
    ap (λ (t : Process). not (is_empty (chosen_at is_ready k (activities t)))) (put_other k s (turned (same_key s.key k) (same_key k s.key) refl refl other) r.processes) ∙ awake k h other
  where
    turned : (b c : Bool) → same_key s.key k ≡ b → same_key k s.key ≡ c → b ≡ false → c ≡ false
    turned b true e f g = let same = keys_exact k s.key f in let no : b ≡ true = sym e ∙ ap (λ z. same_key s.key z) same ∙ ap (λ z. same_key z s.key) (sym same) ∙ f in cc
    turned b false e f g = refl

-- and that key given up, where its process has no activation to run
pub all_awake : (key : Key) (r left : Stored) → AreOthersAwake key r → left.processes ≡ r.processes → ((k : Key) → has_key k left.room ≡ is_still_kept key r k) → AreAwake left
all_awake key r left awake same kept k h =
    let both = and_parts (has_key k r.room) (not (same_key key k) || is_awake k r.processes) (sym (kept k) ∙ h) in
    ap (is_awake k) same ∙ by (same_key key k) refl both.1
  where
    by : (b : Bool) → same_key key k ≡ b → (not b || is_awake k r.processes) ≡ true → is_awake k r.processes ≡ true
    by true e g = g
    by false e g = awake k (and_parts (has_key k r.room) (not (same_key key k) || is_awake k r.processes) (sym (kept k) ∙ h)).0 e

pub on_ok : {T E : Type 0} (r : Result T E) {P Q : Type 0} → (P → Q) → OnOk r P → OnOk r Q
on_ok (Ok v) f h = f h
on_ok (Err e) f h = tt
