-- What the commands on a family leave of a sound process is sound, and so is what a notice leaves.
use Rattle.std.proofs.Common.{◌≡◌, ℕ, Bool, true, false, cond, not, ◌&&◌, ◌||◌, nat_eq, List, [], Some, unwrap_or, refl, sym, ap, subst, ◌∙◌, true≢false}
use Rattle.std.specs.List.{list_any}
use Rattle.std.proofs.lemmas.Bool.{eq-eqb}
use Rattle.bts_names.specs.Names.{Name, ActivityPath, same}
use Rattle.bts_names.specs.Named.{lookup}
use Rattle.bts_event.specs.declared.event.Trigger.TheVariants.{Completion}
use Rattle.bts_event.specs.Events.{completion_of, is_fired_atomic}
use Rattle.bts_event.specs.Pool.{Pool}
use Rattle.bts_event.proofs.Same.{same_refl, same_sym}
use Rattle.bts_tree.proofs.Paths.{parent_of_child}
use Rattle.bts_tree.specs.declared.activity.Activity.{Activity}
use Rattle.bts_tree.specs.Activities.{changed_at, is_complete, is_untold, stays_without, without_below}
use Rattle.bts_tree.specs.Paths.{leads_to, number_of, parent_of}
use Rattle.bts_tree.specs.Processes.{Process, activity_at, edited, on_tree, purged, removed, with_pool}
use Rattle.bts_tree.specs.Soundness.{IsSoundInFrames, needs_event}
use Rattle.bts_rows.specs.Timing.{fired_if, removed_if}
use Rattle.bts_rows.specs.Completions.{without_completion}
use Rattle.bts_rows.proofs.Local.{on_tree_twice}
use Rattle.bts_rows.proofs.Order.{leads_own}
use Rattle.bts_rows.proofs.TimerEvents.{trigger_at}
use Rattle.bts_rows.proofs.Changes.{all, all_stay, old_waits, only}
use Rattle.bts_rows.proofs.ChildEvents.{Touches, fired_event, one_event, told_replaces, touched, without_event}
use Rattle.bts_rows.proofs.Cutting.{StandsAt, cut_sound, edited_sound, read_edited, stands_at}
use Rattle.bts_rows.proofs.Paths.{below, not_own, not_root, number_below, one_number, path_case, not_to_parent}
use Rattle.bts_rows.proofs.Gone.{child_goes, gone_below, last_step}

-- a child is told
abbrev pub as_told : Activity → Activity
as_told a = record a { told = true }

-- ---- the pool of a parent

module _ (frames : List ActivityPath) where
  abbrev Sound : Process → Type 0
  Sound = IsSoundInFrames frames

  pub parent_sound : (s : Process) (q : ActivityPath) (k : ℕ) (change : Pool → Pool) (a : Activity) → Sound s → (w : StandsAt s q a)
      → Touches w.tree all q a k (change a.pool) → Sound (with_pool q change s)
  parent_sound s q k change a sound w touches =
      edited_sound q (λ x. record x { pool = change x.pool }) frames s a refl sound w
      (touched w.tree w.family q a w.found all k (λ j e. all_stay (below q j)) (change a.pool) touches)

  -- ---- CHECK, and notices

  module _ (s : Process) (q : ActivityPath) (k : ℕ) (c : Activity) (sound : Sound s) (child : activity_at (below q k) s ≡ Some c) where
    abbrev in_child : StandsAt s (below q k) c
    in_child = stands_at frames s (below q k) c sound child

    pub told_keeps : Sound (edited (below q k) as_told s)
    told_keeps =
        edited_sound (below q k) as_told frames s c refl sound in_child
        (told_replaces in_child.tree in_child.family (below q k) c in_child.found)

    abbrev behind : Process
    behind = edited (below q k) as_told s

    record Parent : Type 0 where
      activity : Activity
      was : lookup q in_child.tree ≡ Some activity
      still : activity_at q behind ≡ Some activity

    parent : Parent
    parent =
        let p = in_child.family.parents q k c in_child.found in
        let stands : activity_at q s ≡ Some p.parent = ap (λ o. lookup q (unwrap_or o [])) in_child.is_tree ∙ p.found in
        record {
          activity = p.parent;
          was = p.found;
          still =
              read_edited (below q k) as_told s c child q
              ∙ ap (λ b. cond b (Some (as_told c)) (activity_at q s)) (same_sym (below q k) q ∙ not_own q k) ∙ stands;
        }

    -- the child that is told needs no event
    module _ (complete : is_complete c ≡ true) where
      needs_none : (b d : Bool) → b ≡ true → (not b || not true) ≡ false
      needs_none true d h = refl
      needs_none false d h = cc

      abbrev in_parent : StandsAt behind q parent.activity
      in_parent = stands_at frames behind q parent.activity told_keeps parent.still

      told_child : activity_at (below q k) behind ≡ Some (as_told c)
      told_child =
          read_edited (below q k) as_told s c child (below q k)
          ∙ ap (λ b. cond b (Some (as_told c)) (activity_at (below q k) s)) (same_refl (below q k))

      free : (d : Activity) → all (below q k) ≡ true → lookup (below q k) in_parent.tree ≡ Some d → needs_event d ≡ false
      free d l h =
          let e : as_told c ≡ d = only in_parent.tree (below q k) (as_told c) d
          (sym (ap (λ o. lookup (below q k) (unwrap_or o [])) in_parent.is_tree) ∙ told_child) h in
          ap needs_event (sym e) ∙ needs_none (is_complete c) true complete

      pub checked_sound : Sound (without_completion (below q k) behind)
      checked_sound =
          subst Sound
          (λ i.
          with_pool (sym (parent_of_child q k) i) (λ pool. removed_if (completion_of (sym (number_below q k) i) pool.events) pool) behind)
          (parent_sound behind q k (λ pool. removed_if (completion_of k pool.events) pool) parent.activity told_keeps in_parent
          (without_event in_parent.tree in_parent.family q parent.activity in_parent.found k all free))

      -- a notice fires the event, which isn't fired before
      module _ (untold : c.told ≡ false) where
        needs_one : (b d : Bool) → d ≡ false → (not b || not d) ≡ true
        needs_one true d h = ap not h
        needs_one false d h = refl

        not_fired : (n : Name) → trigger_at (lookup n parent.activity.pool.events) ≡ Some (Completion k)
            → is_fired_atomic (lookup n parent.activity.pool.events) ≡ false
        not_fired n h =
            let f = in_child.family in
            let w = old_waits in_child.tree f q k parent.activity c parent.was in_child.found (needs_one (is_complete c) c.told untold) in
            ap (λ m. is_fired_atomic (lookup m parent.activity.pool.events))
            (one_event in_child.tree f q parent.activity parent.was k n w.name h w.fires)
            ∙ w.unfired

        pub noticed_child : Sound (with_pool (parent_of (below q k)) (λ pool. fired_if (completion_of (number_of (below q k)) pool.events) pool) behind)
        noticed_child =
            subst Sound
            (λ i.
            with_pool (sym (parent_of_child q k) i) (λ pool. fired_if (completion_of (sym (number_below q k) i) pool.events) pool) behind)
            (parent_sound behind q k (λ pool. fired_if (completion_of k pool.events) pool) parent.activity told_keeps in_parent
            (fired_event in_parent.tree in_parent.family q parent.activity in_parent.found k free not_fired))

  untold_parts : (c d : Bool) → (c && not d) ≡ true → (c ≡ true) × (d ≡ false)
  untold_parts true true h = cc
  untold_parts true false h = (refl, refl)
  untold_parts false d h = cc

  -- the activity of a notice is COMPLETE and not told: it is told, and its event fires in its parent
  pub notice_sound : (s : Process) (p : ActivityPath) (c : Activity) → Sound s → activity_at p s ≡ Some c → is_untold c ≡ true
      → Sound (with_pool (parent_of p) (λ pool. fired_if (completion_of (number_of p) pool.events) pool) (edited p as_told s))
  notice_sound s p c sound there untold =
      let parts = untold_parts (is_complete c) c.told untold in
      path_case
      (λ z.
      activity_at z s ≡ Some c → Sound
      (with_pool (parent_of z) (λ pool. fired_if (completion_of (number_of z) pool.events) pool) (edited z as_told s)))
      (λ h. let w = stands_at frames s [] c sound h in absurd (true≢false (sym (w.family.first c w.found).told ∙ parts.1)))
      (λ q k h. noticed_child s q k c sound h parts.0 parts.1) p there

  -- ---- DELETE ACTIVITY

  module _ (s : Process) (p : ActivityPath) (k : ℕ) (a : Activity) (sound : Sound s) (there : activity_at p s ≡ Some a)
      (closed : (q : ActivityPath) → leads_to (below p k) q ≡ true → list_any (same q) frames ≡ false) where
    abbrev stays : ActivityPath → Bool
    stays = stays_without (below p k) true

    abbrev without_child : Activity → Activity
    without_child x = record x { pool = removed_if (completion_of k x.pool.events) x.pool }

    sibling_stays : (j : ℕ) → nat_eq j k ≡ false → stays (below p j) ≡ true
    sibling_stays j e = by (leads_to (below p k) (below p j)) refl
      where
        by : (b : Bool) → leads_to (below p k) (below p j) ≡ b → (not b || false) ≡ true
        by true l =
            let q : k ≡ j = one_number p k j (last_step (below p k) p j l (not_to_parent p k)) in
            absurd (true≢false (sym (eq-eqb j k (sym q)) ∙ e))
        by false l = refl

    gone_child : (d : Activity) → stays (below p k) ≡ true → ⊥
    gone_child d h = true≢false (sym h ∙ ap (λ b. not b || false) (leads_own (below p k)))

    pub deleted_sound : Sound (without_completion (below p k) (removed (below p k) true s))
    deleted_sound =
        let w = stands_at frames s p a sound there in
        let touches = without_event w.tree w.family p a w.found k stays (λ d h l. absurd (gone_child d h)) in
        let cutting = cut_sound stays p without_child (child_goes p k) a frames
        (λ q h. closed q (gone_below (below p k) q true h)) refl s sound w
        (touched w.tree w.family p a w.found stays k sibling_stays (removed_if (completion_of k a.pool.events) a.pool) touches) in
        let once : Sound (edited p without_child (on_tree (without_below (below p k) true) s)) = subst Sound
        (sym (on_tree_twice (changed_at p without_child) (without_below (below p k) true) s)) cutting in
        let removal : removed (below p k) true s ≡ on_tree (without_below (below p k) true) s = ap
        (λ b. cond b (purged s) (on_tree (without_below (below p k) true) s)) (not_root p k) in
        subst (λ z. Sound (without_completion (below p k) z)) (sym removal)
        (subst Sound (λ i. with_pool (sym (parent_of_child p k) i) (λ pool. removed_if (completion_of (sym (number_below p k) i) pool.events) pool) (on_tree (without_below (below p k) true) s)) once)
