-- What contracts see of a repository, behind each change of its map and its kept keys.
use Rattle.std.proofs.Common.{◌≡◌, true, false, cond, List, is_some, sym, ap, ◌∙◌}
use Rattle.std.specs.BTreeSet.{insert_key}
use Rattle.std.specs.Map.{lookup, set_value}
use Rattle.std.specs.Set.{remove_key}
use Rattle.bts_container.specs.declared.format.Format.{Format}
use Rattle.bts_container.specs.declared.format.Format.TheVariants as format
use Rattle.bts_names.specs.Keys.{key_cmp}
use Rattle.bts_names.specs.declared.key.Key.{Key}
use Rattle.bts_tree.proofs.Slots.{IsRising, all_raised, processes_of_slots, put_slots, slots_roomed}
use Rattle.bts_tree.specs.Indexes.{forgotten, is_awake}
use Rattle.bts_tree.specs.Keeping.{Slots, all_of, processes_of, raised_slots, slot_of, slots_of, stored_in, with_slot}
use Rattle.bts_tree.specs.Processes.{Process}
use Rattle.bts_tree.specs.Repositories.{put_held, raised_all, same_key, with_room}
use Rattle.bts_tree.specs.Scopes.{HeldProcess}

module _ (f : Format) (keys : List Key) (es new : Slots) where
  pub seen_put : (h : HeldProcess) → IsRising es → is_some (lookup (same_key h.process.key) es) ≡ true → new ≡ set_value (same_key h.process.key) es (slot_of h.process)
      → stored_in f keys new ≡ put_held h (stored_in f keys es)
  seen_put h s there e =
      let items = ap processes_of e ∙ put_slots h.process es s there in
      λ i. record { processes = record { format = f; items = items i }; room = keys }

  pub seen_roomed : (key : Key) (now : List Key) → new ≡ with_slot key es → now ≡ insert_key key_cmp keys key → stored_in f now new ≡ with_room key (stored_in f keys es)
  seen_roomed key now e k =
      let items = ap processes_of e ∙ slots_roomed key es in
      λ i. record { processes = record { format = f; items = items i }; room = k i }

  -- a slot without its key isn't seen
  pub seen_same : (key : Key) (now : List Key) → new ≡ with_slot key es → now ≡ keys → stored_in f now new ≡ stored_in f keys es
  seen_same key now e k =
      let items = ap processes_of e ∙ slots_roomed key es in
      λ i. record { processes = record { format = f; items = items i }; room = k i }

  pub seen_raised : new ≡ raised_slots es → stored_in format.Two keys new ≡ record (stored_in f keys es) { processes = raised_all (all_of f es) }
  seen_raised e =
      let processes = ap (all_of format.Two) e ∙ all_raised f es in
      λ i. record { processes = processes i; room = keys }

-- a key is given up, where its process has nothing to run, and else kept
module _ (f : Format) (key : Key) (keys : List Key) (es : Slots) where
  pub seen_forgotten : (now : List Key) → is_awake key (all_of f es) ≡ false → now ≡ remove_key (same_key key) keys → stored_in f now es ≡ forgotten key (stored_in f keys es)
  seen_forgotten now idle e =
      let room = e ∙ sym (ap (λ b. cond b keys (remove_key (same_key key) keys)) idle) in
      λ i. record { processes = all_of f es; room = room i }

  pub seen_kept : is_awake key (all_of f es) ≡ true → stored_in f keys es ≡ forgotten key (stored_in f keys es)
  seen_kept awake =
      let room = sym (ap (λ b. cond b keys (remove_key (same_key key) keys)) awake) in
      λ i. record { processes = all_of f es; room = room i }

pub seen_made : (f : Format) (ss : List Process) (es : Slots) → es ≡ slots_of ss → all_of f es ≡ record { format = f; items = ss }
seen_made f ss es e =
    let items = ap processes_of e ∙ processes_of_slots ss in
    λ i. record { format = f; items = items i }
