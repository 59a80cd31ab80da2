-- Changes at a path and below it, which leave what stands before and behind: made on the part at the path and joined, they are made on the whole.
use Rattle.std.proofs.Common.{◌≡◌, ℕ, Bool, true, false, cond, List, [], ◌∷◌, ◌++◌, map, Option, Some, None, option_map, unwrap_or, Ordering, Less, Equal, Greater, refl, sym, ap, ◌∙◌, true≢false}
use Rattle.std.specs.List.{filter}
use Rattle.std.specs.Ordering.{match_ordering, ordering_reverse}
use Rattle.std.proofs.lemmas.Cmp.{nat_list_cmp_total}
use Rattle.std.proofs.lemmas.List.{map-append}
use Rattle.std.proofs.lemmas.List.Elements.{filter-append}
use Rattle.bts_names.specs.Names.{Name, ActivityPath, same, same_exact}
use Rattle.bts_names.specs.Named.{in_order}
use Rattle.bts_names.specs.declared.state.Status.{Status}
use Rattle.bts_tree.specs.declared.activity.Activity.{Activity}
use Rattle.bts_tree.specs.Activities.{Activities, changed_at, completed_at, completed_one, forced, completed, stays_without, within, without_below}
use Rattle.bts_tree.specs.Paths.{leads_to}
use Rattle.bts_tree.specs.Processes.{Process, added, before, behind, complete, edited, join, on_tree, part, removed}
use Rattle.bts_rows.proofs.Parts.{kept_all}
use Rattle.bts_rows.proofs.Order.{is_before, is_behind, leads_on, leads_own, less_from, path_cmp, split_tree, within_not_before, within_not_behind, before_below, behind_parts}
use Rattle.bts_rows.proofs.Edits.{HasOrder, changed_back, changed_front, missing}
use Rattle.bts_rows.proofs.OrderKept.{within_behind}

-- what a change of the process does to its activities, and that it leaves those before a path and behind it
pub record IsLocal (p : ActivityPath) (f : Process → Process) : Type 0 where
  pub change : Activities → Activities
  pub is_change : (s : Process) → f s ≡ on_tree change s
  pub stays : (t u : Activities) → change (before p t ++ u ++ behind p t) ≡ before p t ++ change u ++ behind p t

-- ---- one change behind another

pub on_tree_twice : (f g : Activities → Activities) (s : Process) → on_tree f (on_tree g s) ≡ on_tree (λ t. f (g t)) s
on_tree_twice f g s = ap (λ t. record s { tree = t }) (by s.tree)
  where
    by : (t : Option Activities) → option_map f (option_map g t) ≡ option_map (λ u. f (g u)) t
    by None = refl
    by (Some t) = refl

pub local_both : (p : ActivityPath) (f g : Process → Process) → IsLocal p f → IsLocal p g → IsLocal p (λ s. f (g s))
local_both p f g a b = record {
  change = λ t. a.change (b.change t);
  is_change = λ s. a.is_change (g s) ∙ ap (on_tree a.change) (b.is_change s) ∙ on_tree_twice a.change b.change s;
  stays = λ t u. ap a.change (b.stays t u) ∙ a.stays t (b.change u);
}

pub local_none : (p : ActivityPath) → IsLocal p (λ s. s)
local_none p = record {
  change = λ t. t;
  is_change = λ s. ap (λ t. record s { tree = t }) (by s.tree);
  stays = λ t u. refl;
}
  where
    by : (t : Option Activities) → t ≡ option_map (λ u. u) t
    by None = refl
    by (Some t) = refl

-- ---- joined

pub join_local : (n : ℕ) (p : ActivityPath) (f : Process → Process) → IsLocal (n ∷ p) f → (s : Process) → HasOrder s.tree → join (n ∷ p) s (f (part (n ∷ p) s)) ≡ f s
join_local n p f l s order =
    ap (join (n ∷ p) s) (l.is_change (part (n ∷ p) s)) ∙ ap (λ t. record s { tree = t }) (by s.tree order) ∙ sym (l.is_change s)
  where
    by : (t : Option Activities) → HasOrder t → option_map (λ u. before (n ∷ p) u ++ unwrap_or (option_map l.change (option_map (within (n ∷ p)) t)) [] ++ behind (n ∷ p) u) t ≡ option_map l.change t
    by None r = refl
    by (Some t) r = ap Some (sym (l.stays t (within (n ∷ p) t)) ∙ ap l.change (split_tree (n ∷ p) t r))

-- ---- lists

map_kept : {X : Type 0} (f : X → X) (g : X → Bool) → ((x : X) → g x ≡ true → f x ≡ x) → (xs : List X) → map f (filter g xs) ≡ filter g xs
map_kept f g h [] = refl
map_kept {X} f g h (x ∷ xs) = by (g x) refl (map_kept f g h xs)
  where
    by : (b : Bool) → g x ≡ b → map f (filter g xs) ≡ filter g xs → map f (cond b (x ∷ filter g xs) (filter g xs)) ≡ cond b (x ∷ filter g xs) (filter g xs)
    by true e i = ap (λ y. y ∷ map f (filter g xs)) (h x e) ∙ ap (λ ys. x ∷ ys) i
    by false e i = i

-- ---- at a path and below it

module _ (p q : ActivityPath) (l : leads_to p q ≡ true) where
  led_case : (x : ActivityPath) (b : Bool) → leads_to q x ≡ b → leads_to p x ≡ false → b ≡ false
  led_case x true e n = absurd (true≢false (sym (leads_on p q x l e) ∙ n))
  led_case x false e n = refl

  not_led_before : (x : ActivityPath) → is_before x p ≡ true → leads_to q x ≡ false
  not_led_before x h = led_case x (leads_to q x) refl (by (leads_to p x) refl)
    where
      by : (b : Bool) → leads_to p x ≡ b → b ≡ false
      by true e = absurd (true≢false (sym h ∙ within_not_before p x e))
      by false e = refl

  not_led_behind : (x : ActivityPath) → is_behind x p ≡ true → leads_to q x ≡ false
  not_led_behind x h = led_case x (leads_to q x) refl (behind_parts x p h).1

  -- one activity is changed
  pub local_edited : (f : Activity → Activity) → IsLocal p (edited q f)
  local_edited f = record {
    change = changed_at q f;
    is_change = λ s. refl;
    stays = λ t u.
        changed_back q f (before p t ++ u) (behind p t) (missing (λ x. is_behind x p) q t (within_not_behind p q l))
        ∙ ap (λ z. z ++ behind p t) (changed_front q f (before p t) u (missing (λ x. is_before x p) q t (within_not_before p q l)));
  }

  -- ---- one activity more

  module _ (a : Activity) where
    greater : (x : ActivityPath) → is_before x p ≡ true → path_cmp q x ≡ Greater
    greater x h = nat_list_cmp_total.antisymm q x ∙ ap ordering_reverse (less_from _ (before_below x p q h l))

    in_front : (t u : Activities) → in_order q a (before p t ++ u) ≡ before p t ++ in_order q a u
    in_front [] u = refl
    in_front (x ∷ t) u = by (is_before x.0 p) refl (in_front t u)
      where
        by : (b : Bool) → is_before x.0 p ≡ b → in_order q a (before p t ++ u) ≡ before p t ++ in_order q a u
            → in_order q a (cond b (x ∷ before p t) (before p t) ++ u) ≡ cond b (x ∷ before p t) (before p t) ++ in_order q a u
        by true e i =
            ap (λ o. match_ordering o ((q, a) ∷ x ∷ (before p t ++ u)) ((x.0, a) ∷ (before p t ++ u)) (x ∷ in_order q a (before p t ++ u))) (greater x.0 e) ∙ ap (λ z. x ∷ z) i
        by false e i = i

    at_end : (t : Activities) → in_order q a (behind p t) ≡ (q, a) ∷ behind p t
    at_end [] = refl
    at_end (x ∷ t) = by (is_behind x.0 p) refl (at_end t)
      where
        by : (b : Bool) → is_behind x.0 p ≡ b → in_order q a (behind p t) ≡ (q, a) ∷ behind p t → in_order q a (cond b (x ∷ behind p t) (behind p t)) ≡ (q, a) ∷ cond b (x ∷ behind p t) (behind p t)
        by true e i = ap (λ o. match_ordering o ((q, a) ∷ x ∷ behind p t) ((x.0, a) ∷ behind p t) (x ∷ in_order q a (behind p t))) (within_behind p q x.0 l e)
        by false e i = i

    in_back : (t u : Activities) → in_order q a (u ++ behind p t) ≡ in_order q a u ++ behind p t
    in_back t [] = at_end t
    in_back t (x ∷ u) = by (path_cmp q x.0) (in_back t u)
      where
        by : (o : Ordering) → in_order q a (u ++ behind p t) ≡ in_order q a u ++ behind p t
            → match_ordering o ((q, a) ∷ x ∷ (u ++ behind p t)) ((x.0, a) ∷ (u ++ behind p t)) (x ∷ in_order q a (u ++ behind p t))
            ≡ match_ordering o ((q, a) ∷ x ∷ u) ((x.0, a) ∷ u) (x ∷ in_order q a u) ++ behind p t
        by Less i = refl
        by Equal i = refl
        by Greater i = ap (λ z. x ∷ z) i

    pub local_added : IsLocal p (added q a)
    local_added = record {
      change = in_order q a;
      is_change = λ s. refl;
      stays = λ t u. in_back t (before p t ++ u) ∙ ap (λ z. z ++ behind p t) (in_front t u);
    }

  -- ---- activities go

  stays_led : (itself : Bool) (x : ActivityPath) → leads_to q x ≡ false → stays_without q itself x ≡ true
  stays_led itself x h = rw h

  stays_removed : (itself : Bool) (t u : Activities) → without_below q itself (before p t ++ u ++ behind p t) ≡ before p t ++ without_below q itself u ++ behind p t
  stays_removed itself t u =
      let f : ActivityPath × Activity → Bool = λ x. stays_without q itself x.0 in
      let first : filter f (before p t) ≡ before p t = kept_all f (λ x. is_before x.0 p) (λ x h. stays_led itself x.0 (not_led_before x.0 h)) t in
      let last : filter f (behind p t) ≡ behind p t = kept_all f (λ x. is_behind x.0 p) (λ x h. stays_led itself x.0 (not_led_behind x.0 h)) t in
      filter-append f (before p t ++ u) (behind p t) ∙ ap (λ z. z ++ filter f (behind p t)) (filter-append f (before p t) u)
      ∙ ap (λ z. (z ++ filter f u) ++ filter f (behind p t)) first ∙ ap (λ z. (before p t ++ filter f u) ++ z) last

  -- ---- activities become COMPLETE

  module _ (status : Status) (code : Option Name) where
    pub completes_none : (x : ActivityPath × Activity) → leads_to q x.0 ≡ false → completed_one q status code x ≡ x.1
    completes_none x h = by (same q x.0) refl
      where
        by : (b : Bool) → same q x.0 ≡ b → cond b (completed status code (same q []) x.1) (cond (leads_to q x.0) (forced x.1) x.1) ≡ x.1
        by true e = absurd (true≢false (sym (leads_own q) ∙ ap (leads_to q) (same_exact q x.0 e) ∙ h))
        by false e = ap (λ b. cond b (forced x.1) x.1) h

    pub local_complete : IsLocal p (complete q status code)
    local_complete = record {
      change = completed_at q status code;
      is_change = λ s. refl;
      stays = λ t u.
          let f : ActivityPath × Activity → ActivityPath × Activity = λ x. (x.0, completed_one q status code x) in
          let first : map f (before p t) ≡ before p t = map_kept f (λ x. is_before x.0 p) (λ x h. ap (λ a. (x.0, a)) (completes_none x (not_led_before x.0 h))) t in
          let last : map f (behind p t) ≡ behind p t = map_kept f (λ x. is_behind x.0 p) (λ x h. ap (λ a. (x.0, a)) (completes_none x (not_led_behind x.0 h))) t in
          map-append f (before p t ++ u) (behind p t) ∙ ap (λ z. z ++ map f (behind p t)) (map-append f (before p t) u)
          ∙ ap (λ z. (z ++ map f u) ++ map f (behind p t)) first ∙ ap (λ z. (before p t ++ map f u) ++ z) last;
    }

-- the activities below a path that isn't the root's go, and perhaps its own
pub local_removed : (p : ActivityPath) (m : ℕ) (q : ActivityPath) → leads_to p (m ∷ q) ≡ true → (itself : Bool) → IsLocal p (removed (m ∷ q) itself)
local_removed p m q l itself = record {
  change = without_below (m ∷ q) itself;
  is_change = by itself;
  stays = stays_removed p (m ∷ q) l itself;
}
  where
    by : (b : Bool) (s : Process) → removed (m ∷ q) b s ≡ on_tree (without_below (m ∷ q) b) s
    by true s = refl
    by false s = refl
