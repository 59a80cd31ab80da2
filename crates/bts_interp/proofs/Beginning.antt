-- A unit before its first call can go on, and is under way.
use Rattle.std.proofs.Common.{◌≡◌, ℕ, ◌+◌, ◌≤◌, [], ◌∷◌, length, Option, refl, sym, ap, ◌∙◌, subst, lit≤}
use Rattle.std.specs.Option.{option_and_then}
use Rattle.std.proofs.Math.Nat.{add-zero}
use Rattle.bts_names.specs.Names.{ActivityPath, Name}
use Rattle.bts_command.specs.declared.ended.UnitKind.{UnitKind}
use Rattle.bts_unit.specs.Frames.{UnitOfWork, first_frame, path_of, program_at, top_frame}
use Rattle.bts_unit.specs.Calls.{run, unit_behind}
use Rattle.bts_unit.specs.Soundness.{IsSoundWithin}
use Rattle.bts_command.specs.Sizes.{data_bytes}
use Rattle.bts_interp.specs.Budgets.{statements_to, statements_with}
use Rattle.bts_interp.specs.NextCalls.{own_calls}
use Rattle.bts_interp.specs.Ready.{AreExecutable, IsExecutable, MayBeExecuted, number_limit}
use Rattle.bts_interp.specs.Running.{CanGoOn, FollowsFirst, HasFrame, IsBegun, IsUnderWay, first_point}
use Rattle.bts_interp.specs.Steps.{Script, place_behind}
use Rattle.bts_interp.specs.Talks.{Follows}
use Rattle.bts_interp.specs.Texts.{Texts, no_program, script_in}
use Rattle.bts_interp.proofs.Following.{nothing_follows}
use Rattle.bts_interp.proofs.Leads.{script_all}

-- ---- the texts are executable

missing_may : IsExecutable no_program
missing_may = (record { given = record { names = refl; few_subs = lit≤ tt }; in_request = refl; in_activity = refl; makes_none = refl }, tt)

pub script_may : (texts : Texts) (at : Option ActivityPath) (program : Option Name) → AreExecutable texts → IsExecutable (script_in texts at program)
script_may texts at program h = script_all MayBeExecuted missing_may texts at program h.programs h.block

-- ---- a unit that has begun

module _ (kind : UnitKind) (moment : ℕ) (texts : Texts) (u : UnitOfWork) (b : IsBegun kind moment texts u) (script : Script) (program : Option Name)
    (program_is : program ≡ option_and_then (λ f. f.program) (top_frame u.frames)) (script_is : script ≡ script_in texts (path_of kind) program) where
  frames_are : u.frames ≡ first_frame (path_of kind) u.base ∷ []
  frames_are = ap (λ v. v.frames) b.begun

  no_calls : u.calls ≡ []
  no_calls = ap (λ v. v.calls) b.begun

  executable : IsExecutable script
  executable = subst IsExecutable (sym script_is) (script_may texts (path_of kind) program b.runnable.texts)

  pub can_begin : CanGoOn script script u
  can_begin = record {
    script_may = executable;
    place_may = executable;
    frame = subst (λ fs. HasFrame (λ f. Unit {0}) fs u.end) (sym frames_are) tt;
    few_calls = subst (λ cs. length cs ≤ 500) (sym no_calls) (lit≤ tt);
    sound = b.sound;
    within = subst (λ cs. IsSoundWithin number_limit (number_limit + length cs) u) (sym no_calls) (subst (λ n. IsSoundWithin number_limit n u) (sym (add-zero number_limit)) b.within);
  }

  follows_script : script_in texts (path_of kind) (program_at (path_of kind) u.base) ≡ script
  follows_script = ap (script_in texts (path_of kind)) (sym (program_is ∙ ap (λ fs. option_and_then (λ f. f.program) (top_frame fs)) frames_are)) ∙ sym script_is

  pub first_under_way : (steps : ℕ) → IsUnderWay texts script u steps u (first_point script steps)
  unfolding unit_behind run own_calls place_behind statements_with
  first_under_way steps = record {
    open_first = ap (λ v. v.end) b.begun;
    unit = ap (unit_behind u) (sym no_calls);
    frames = subst (λ fs. HasFrame (FollowsFirst texts script) fs u.end) (sym frames_are) (refl, follows_script);
    follows = subst (λ cs. Follows texts u cs) (sym no_calls) (nothing_follows texts u);
    own = subst (λ cs. own_calls 0 u cs ≡ cs) (sym no_calls) refl;
    place_is = ap (λ cs. place_behind script [] cs script) (sym no_calls);
    used_is = ap (statements_to texts u) (sym no_calls);
    bytes_are = ap data_bytes (sym no_calls);
    steps_are = sym (add-zero steps);
  }
