-- A process stays sound where an activity is changed so that it still fits in its place.
use Rattle.std.proofs.Common.{◌≡◌, Bool, true, false, not, ◌||◌, List, Some, refl, sym, ap, ◌∙◌}
use Rattle.bts_names.specs.Names.{ActivityPath}
use Rattle.bts_names.specs.Named.{lookup}
use Rattle.bts_event.specs.declared.event.Trigger.{Trigger}
use Rattle.bts_event.specs.declared.event.Trigger.TheVariants.{Input, Completion, Timer}
use Rattle.bts_tree.specs.declared.activity.Activity.{Activity}
use Rattle.bts_tree.specs.Activities.{Activities, is_complete}
use Rattle.bts_tree.specs.Modes.{is_mode_active, is_mode_complete}
use Rattle.bts_tree.specs.Processes.{Process, activity_at, edited}
use Rattle.bts_tree.specs.Soundness.{IsSoundActivity, IsSoundInFrames, needs_event}
use Rattle.bts_rows.proofs.Changes.{Replaces, all, all_stay, old_waits, own_as_before}
use Rattle.bts_rows.proofs.Cutting.{edited_sound, stands_at}
use Rattle.bts_rows.proofs.Keeps.{Keeps}
use Rattle.bts_rows.proofs.Paths.{below}
use Rattle.bts_rows.proofs.TimerCalls.{kept_trigger, kept_unfired, old_trigger}
use Rattle.bts_rows.proofs.Trees.{IsFamily}

-- the completion events of children
abbrev pub is_childs : Trigger → Bool
is_childs tr = elim tr [ Input ↦ false | Completion n ↦ true | Timer t ↦ false ]

-- an activity may stand in the place of another: it is sound itself, and is the same to its parent and its children
pub record StandsFor (a b : Activity) : Type 0 where
  pub sound : IsSoundActivity b
  pub name : b.name ≡ a.name
  pub completion : b.completion ≡ a.completion
  pub complete : is_complete b ≡ is_complete a
  pub told : b.told ≡ a.told
  pub made : b.made ≡ a.made
  pub format : b.containers.format ≡ a.containers.format
  pub events : Keeps is_childs a.pool.events b.pool.events

-- the same, in the same mode
pub record FitsIn (a b : Activity) : Type 0 where
  pub sound : IsSoundActivity b
  pub name : b.name ≡ a.name
  pub completion : b.completion ≡ a.completion
  pub mode : b.mode ≡ a.mode
  pub told : b.told ≡ a.told
  pub made : b.made ≡ a.made
  pub format : b.containers.format ≡ a.containers.format
  pub events : Keeps is_childs a.pool.events b.pool.events

stands_for : (a b : Activity) → FitsIn a b → StandsFor a b
stands_for a b f =
    record {
      sound = f.sound;
      name = f.name;
      completion = f.completion;
      complete = ap is_mode_complete f.mode;
      told = f.told;
      made = f.made;
      format = f.format;
      events = f.events;
    }

-- ---- in the tree

needs_same : (a b : Activity) → StandsFor a b → needs_event b ≡ needs_event a
needs_same a b fits = ap (λ c. not c || not b.told) fits.complete ∙ ap (λ d. not (is_complete a) || not d) fits.told

pub stands_replaces : (t : Activities) (f : IsFamily t) (p : ActivityPath) (a b : Activity) → lookup p t ≡ Some a → StandsFor a b
    → Replaces t all p a b
stands_replaces t f p a b found fits = record {
  sound = fits.sound;
  name = fits.name;
  completion = fits.completion;
  made = fits.made;
  format = fits.format;
  told = λ r h. fits.told ∙ h;
  own = own_as_before t f p a b found fits.completion (λ n. sym (needs_same a b fits) ∙ n);
  waits = λ k c l h n.
      let w = old_waits t f p k a c found h n in
      record {
        name = w.name;
        named = w.named;
        fires = kept_trigger is_childs a.pool.events b.pool.events fits.events w.name (Completion k) refl w.fires;
        unfired = kept_unfired is_childs a.pool.events b.pool.events fits.events w.name (Completion k) refl w.fires w.unfired;
      };
  events = λ n k h. f.events p a n k found (old_trigger is_childs a.pool.events b.pool.events fits.events n (Completion k) refl h);
  stay = λ n k h. all_stay (below p k);
}

-- ---- in a process

pub own_sound : (frames : List ActivityPath) (s : Process) → IsSoundInFrames frames s → (p : ActivityPath) (a : Activity)
    → activity_at p s ≡ Some a → IsSoundActivity a
own_sound frames s sound p a h = let at = stands_at frames s p a sound h in at.family.sound p a at.found

-- a change of one activity keeps soundness where what it makes fits in
pub edited_keeps_soundness : (frames : List ActivityPath) (s : Process) (q : ActivityPath) (f : Activity → Activity) (a : Activity)
    → IsSoundInFrames frames s → activity_at q s ≡ Some a → FitsIn a (f a) → IsSoundInFrames frames (edited q f s)
edited_keeps_soundness frames s q f a sound h fits =
    let at = stands_at frames s q a sound h in
    edited_sound q f frames s a (ap is_mode_active fits.mode) sound at
    (stands_replaces at.tree at.family q a (f a) at.found (stands_for a (f a) fits))
