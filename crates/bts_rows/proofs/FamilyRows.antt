-- What the rows on a family leave where they aren't refused: one lemma for each property of the changes.
use Rattle.std.proofs.Common.{◌≡◌, ◌+◌, true, false, cond, not, nat_le, [], ◌∷◌, ◌++◌, length, Option, Some, None, is_some, is_none, unwrap_or, refl}
use Rattle.bts_names.specs.Names.{ActivityPath, Name}
use Rattle.bts_names.specs.declared.reply.Resp.TheVariants as resp
use Rattle.bts_names.specs.declared.reply.Reason.TheVariants as reason
use Rattle.bts_names.specs.declared.state.Status.TheVariants as status
use Rattle.bts_command.specs.Sizes.{got_bytes}
use Rattle.bts_command.specs.declared.command.Command.{Command}
use Rattle.bts_command.specs.declared.command.Command.TheVariants as command
use Rattle.bts_command.specs.declared.command.Target.{Target}
use Rattle.bts_event.specs.Refusals.{define_refusal}
use Rattle.bts_tree.specs.declared.activity.Activity.{Activity}
use Rattle.bts_tree.specs.Activities.{child_limit, ended_by, is_at_rest, is_complete, new_activity, path_limit}
use Rattle.bts_tree.specs.Modes.{is_reset}
use Rattle.bts_tree.specs.Paths.{number_of, parent_of}
use Rattle.bts_tree.specs.Processes.{Process, activity_at, added, child_of, complete, edited, removed, format_of}
use Rattle.bts_rows.specs.Completions.{completion_refusal, pool_of, with_child, with_completion, without_completion}
use Rattle.bts_rows.specs.OnFamily.{Change, on_family, told}
use Rattle.bts_rows.proofs.Allowed.{not_missing}
use Rattle.bts_rows.proofs.Reasons.{reasons_completion, reasons_define}
use Rattle.bts_rows.proofs.Telling.{Tells, TellsWith, tells_for, tells_more, tells_some, tells_when}

-- a change has a property behind each of these commands
pub record Families (P : Command → Change → Type 0) (p : ActivityPath) (a : Activity) (s : Process) : Type 0 where
  pub defined : (name : Name) (e : Option Name) (transid program : Name) → child_of p name s ≡ None
      → define_refusal (unwrap_or e name) a.pool.events ≡ None → nat_le path_limit (length p) ≡ false → nat_le child_limit a.made ≡ false
      → P (command.DefineActivity name e transid program)
      (λ t. added (p ++ (a.made + 1) ∷ []) (new_activity (format_of s) name transid program (Some (unwrap_or e name)))
      (edited p (with_child (unwrap_or e name) (a.made + 1)) t))
  pub deleted : (name : Name) (x : ActivityPath × Activity) → child_of p name s ≡ Some x
      → P (command.DeleteActivity name) (λ t. without_completion x.0 (removed x.0 true t))
  pub checked : (target : Target) → P (command.Check target) (λ t. cond (is_complete a) (told p t) t)
  pub cancelled : (target : Target) → is_complete a ≡ false → P (command.Cancel target) (complete p status.Forced None)
  pub reset : (target : Target) → is_at_rest a ≡ true
      → completion_refusal (number_of p) a.completion (pool_of (activity_at (parent_of p) s)).events ≡ None
      → P (command.Reset target)
      (λ t. edited p (ended_by is_reset None (is_none a.completion)) (removed p false (with_completion p a.completion t)))

none_of : {A : Type 0} (o : Option A) → is_some o ≡ false → o ≡ None
none_of None h = refl
none_of (Some x) h = cc

module _ (P : Command → Change → Type 0) (p : ActivityPath) (a : Activity) (s : Process) (l : Families P p a s) where
  family_gives : (c : Command) → TellsWith (λ v change. (got_bytes v ≡ 0) × P c change) (on_family c p a s)
  unfolding on_family
  family_gives (command.DefineActivity name e transid program) =
      tells_when _ resp.Activityerr reason.Taken (is_some (child_of p name s)) _ refl refl λ t.
      tells_for _ resp.Eventerr (define_refusal (unwrap_or e name) a.pool.events) _ refl
      (reasons_define (unwrap_or e name) a.pool.events) λ r.
      tells_when _ resp.Activityerr reason.Depth (nat_le path_limit (length p)) _ refl refl λ d.
      tells_when _ resp.Activityerr reason.Limit (nat_le child_limit a.made) _ refl refl λ m.
      (refl, l.defined name e transid program (none_of (child_of p name s) t) r d m)
  family_gives (command.DeleteActivity name) =
      tells_some _ resp.Activityerr reason.Missing (child_of p name s) _ refl refl λ x e.
      tells_when _ resp.Activityerr reason.Mode (not (is_at_rest x.1)) _ refl refl λ m.
      (refl, l.deleted name x e)
  family_gives (command.Check target) = (refl, l.checked target)
  family_gives (command.Cancel target) =
      tells_when _ resp.Activityerr reason.Mode (is_complete a) _ refl refl λ m.
      (refl, l.cancelled target m)
  family_gives (command.Reset target) =
      tells_when _ resp.Activityerr reason.Mode (not (is_at_rest a)) _ refl refl λ m.
      tells_for _ resp.Eventerr (completion_refusal (number_of p) a.completion (pool_of (activity_at (parent_of p) s)).events) _ refl
      (reasons_completion (number_of p) a.completion (pool_of (activity_at (parent_of p) s)).events) λ r.
      (refl, l.reset target (not_missing (is_at_rest a) m) r)
  family_gives _ = (refl, refl)

  pub family_tells : (c : Command) → Tells (P c) (on_family c p a s)
  family_tells c =
      tells_more (λ v change. (got_bytes v ≡ 0) × P c change) (λ v. P c) (on_family c p a s) (λ v change k. k.1) (family_gives c)

-- none answers bytes
pub family_silent : (c : Command) (p : ActivityPath) (a : Activity) (s : Process)
    → TellsWith (λ v change. got_bytes v ≡ 0) (on_family c p a s)
family_silent c p a s =
    tells_more (λ v change. (got_bytes v ≡ 0) × Unit {0}) (λ v change. got_bytes v ≡ 0) (on_family c p a s) (λ v change k. k.0)
    (family_gives (λ c change. Unit {0}) p a s (record {
      defined = λ name e transid program no_child free shallow few. tt;
      deleted = λ name x e. tt;
      checked = λ target. tt;
      cancelled = λ target m. tt;
      reset = λ target rest r. tt;
    }) c)
