-- Where no process has a child or a timer, no notice and no expiry is to come.
use Rattle.std.proofs.Common.{◌≡◌, true, List, [], ◌∷◌, ◌++◌, length, refl, ap, ◌∙◌, arith}
use Rattle.std.specs.List.{flat_map, list_all}
use Rattle.std.proofs.lemmas.Bool.{and_parts}
use Rattle.bts_names.specs.Names.{ActivityPath}
use Rattle.bts_names.specs.declared.key.Key.{Key}
use Rattle.bts_region.specs.Owed.{owed, unexpired_among, unexpired_at, unexpired_of}
use Rattle.bts_rows.specs.Bounds.{is_bare_root, is_lone}
use Rattle.bts_rows.proofs.Repositories.{lone_untold}
use Rattle.bts_timer.specs.Timers.{Timers}
use Rattle.bts_tree.specs.Activities.{Activities}
use Rattle.bts_tree.specs.Processes.{Process, activities}
use Rattle.bts_tree.specs.Repositories.{Processes}
use Rattle.bts_tree.specs.Scopes.{is_empty}
use Rattle.bts_tree.specs.Soundness.{AreSound, is_root}

no_timer : (key : Key) (p : ActivityPath) (timers : Timers) → is_empty timers ≡ true → unexpired_at key p timers ≡ []
no_timer key p [] h = refl
no_timer key p (t ∷ timers) h = cc

none_among : (key : Key) (tree : Activities) → list_all is_bare_root tree ≡ true → unexpired_among key tree ≡ []
none_among key [] h = refl
none_among key (x ∷ tree) h =
    let a = and_parts (is_bare_root x) (list_all is_bare_root tree) h in
    ap (λ places. places ++ unexpired_among key tree) (no_timer key x.0 x.1.timers (and_parts (is_root x.0) (is_empty x.1.timers) a.0).1) ∙ none_among key tree a.1

none_unexpired : (ss : List Process) → list_all is_lone ss ≡ true → flat_map unexpired_of ss ≡ []
none_unexpired [] h = refl
none_unexpired (s ∷ ss) h =
    let a = and_parts (is_lone s) (list_all is_lone ss) h in
    ap (λ places. places ++ flat_map unexpired_of ss) (none_among s.key (activities s) a.0) ∙ none_unexpired ss a.1

pub nothing_owed : (repo : Processes) → AreSound repo → list_all is_lone repo.items ≡ true → owed repo ≡ 0
nothing_owed repo sound lone =
    let untold = ap length (lone_untold repo sound.each lone) in
    let unexpired = ap length (none_unexpired repo.items lone) in omega (arith, untold, unexpired)
