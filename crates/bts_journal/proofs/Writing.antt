-- What the writes of an append and of a new file leave, call by call.
use Rattle.std.proofs.Common.{◌≡◌, inl, inr, ℕ, ◌+◌, length, Option, Some, ap, sym, ◌∙◌, subst, IfSome}
use Rattle.std.specs.Option.{option_map}
use Rattle.bts_names.specs.Names.{Bytes}
use Rattle.bts_disk.specs.Disks.{written, Torn, Follows, Only, Elapses, LeavesOnly}
use Rattle.bts_disk.specs.MemoryLaws.{Torn-none}
use Rattle.bts_journal.specs.Gates.{fresh}
use Rattle.bts_journal.specs.Crashes.{staged, IsCut, IsBegun}
use Rattle.bts_journal.proofs.Leaves.{leaves_first, leaves_next}

module _ {D : Type 0} (content : D → Option Bytes) (may_leave : D → Bytes → Type 0) (moment : D → ℕ) (left_since : D → ℕ → Bytes → Type 0) where
  abbrev Passes : D → D → Type 0
  Passes old new = Elapses (moment old) (moment new) (left_since old) (left_since new) (may_leave old) (may_leave new)

  abbrev Fewer : D → D → Type 0
  Fewer old new = (i : Bytes) → may_leave new i → may_leave old i

  -- ---- an append

  -- behind a write that was done and a sync there is one image
  pub staged_only : (end : ℕ) (bytes c : Bytes) (d0 d1 d2 : D) → content d0 ≡ Some c → content d1 ≡ option_map (written (end + 1) bytes) (content d0) → IfSome (content d1) (λ x. Only x (may_leave d2)) → Only (staged end bytes c) (may_leave d2)
  staged_only end bytes c d0 d1 d2 told done durable =
      subst (λ (o : Option Bytes). IfSome o (λ x. Only x (may_leave d2))) (done ∙ ap (λ (o : Option Bytes). option_map (written (end + 1) bytes) o) told) durable

  module _ (end : ℕ) (bytes c : Bytes) (d0 d1 d2 d3 : D) where
    abbrev pub CutOnly : D → D → Type 0
    CutOnly old new = LeavesOnly moment left_since old new (IsCut end bytes c)

    at-first : Only c (may_leave d0) → (i : Bytes) → may_leave d0 i → IsCut end bytes c i
    at-first only i left = inl (subst (λ (x : Bytes). Torn (end + 1) (length bytes) c x) (sym (only i left)) (Torn-none (end + 1) (length bytes) c))

    staging : Only c (may_leave d0) → Follows (Torn (end + 1) (length bytes)) (may_leave d0) (may_leave d1) → (i : Bytes) → may_leave d1 i → IsCut end bytes c i
    staging only follows i left =
        let before = follows i left in
        inl (subst (λ (x : Bytes). Torn (end + 1) (length bytes) x i) (only before.0 before.1) before.2)

    opening : (gate : Bytes) → length gate ≡ 1 → Only (staged end bytes c) (may_leave d2) → Follows (Torn end (length gate)) (may_leave d2) (may_leave d3) → (i : Bytes) → may_leave d3 i → IsCut end bytes c i
    opening gate one only follows i left =
        let before = follows i left in
        inr (subst (λ (x : Bytes). Torn end 1 x i) (only before.0 before.1) (subst (λ (n : ℕ). Torn end n before.0 i) one before.2))

    module _ (only : Only c (may_leave d0)) (first : Follows (Torn (end + 1) (length bytes)) (may_leave d0) (may_leave d1)) (synced : Fewer d1 d2)
        (durable : Only (staged end bytes c) (may_leave d2)) (gate : Bytes) (one : length gate ≡ 1) (second : Follows (Torn end (length gate)) (may_leave d2) (may_leave d3)) where
      -- up to the write of the gate
      pub cut_three : Passes d0 d1 → Passes d1 d2 → Passes d2 d3 → CutOnly d0 d3
      cut_three p q r =
          let P = IsCut end bytes c in
          let first-call = leaves_first content may_leave moment left_since d0 d1 P p (at-first only) (staging only first) in
          let two = leaves_next content may_leave moment left_since d0 d1 d2 P first-call q (staging only first) (λ i left. staging only first i (synced i left)) in
          leaves_next content may_leave moment left_since d0 d2 d3 P two r (λ i left. staging only first i (synced i left)) (opening gate one durable second)

      -- and a sync behind it
      pub cut_four : (d4 : D) → Passes d0 d1 → Passes d1 d2 → Passes d2 d3 → Passes d3 d4 → Fewer d3 d4 → CutOnly d0 d4
      cut_four d4 p q r s fewer =
          leaves_next content may_leave moment left_since d0 d3 d4 (IsCut end bytes c) (cut_three p q r) s (opening gate one durable second) (λ i left. opening gate one durable second i (fewer i left))

  -- ---- a new file

  module _ (d0 d1 d2 : D) (bytes : Bytes) (is : bytes ≡ fresh) (looked : Fewer d0 d1) (follows : Follows (Torn 0 (length bytes)) (may_leave d1) (may_leave d2)) where
    abbrev Begun : Bytes → Type 0
    Begun = IsBegun (may_leave d0)

    before : (i : Bytes) → may_leave d0 i → Begun i
    before i left = (i, left, Torn-none 0 (length fresh) i)

    after : (i : Bytes) → may_leave d2 i → Begun i
    after i left =
        let then = follows i left in
        (then.0, looked then.0 then.1, subst (λ (x : Bytes). Torn 0 (length x) then.0 i) is then.2)

    pub begun_two : Passes d0 d1 → Passes d1 d2 → LeavesOnly moment left_since d0 d2 (IsBegun (may_leave d0))
    begun_two p q =
        let one = leaves_first content may_leave moment left_since d0 d1 Begun p before (λ i left. before i (looked i left)) in
        leaves_next content may_leave moment left_since d0 d1 d2 Begun one q (λ i left. before i (looked i left)) after

    pub begun_three : (d3 : D) → Passes d0 d1 → Passes d1 d2 → Passes d2 d3 → Fewer d2 d3 → LeavesOnly moment left_since d0 d3 (IsBegun (may_leave d0))
    begun_three d3 p q r fewer = leaves_next content may_leave moment left_since d0 d2 d3 Begun (begun_two p q) r after (λ i left. after i (fewer i left))
