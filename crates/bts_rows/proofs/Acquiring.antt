-- What the commands leave by which a request acquires a process: one lemma for each property of it.
use Rattle.std.proofs.Common.{◌≡◌, ◌≤◌, ◌+◌, ℕ, Bool, true, false, cond, not, [], Some, None, is_some, refl, arith}
use Rattle.bts_names.specs.Names.{Name, ActivityPath, same, initial_name}
use Rattle.bts_names.specs.declared.reply.Resp.TheVariants as resp
use Rattle.bts_names.specs.declared.reply.Reason.TheVariants as reason
use Rattle.bts_names.specs.declared.reply.Value.{Value}
use Rattle.bts_command.specs.Sizes.{got_bytes}
use Rattle.bts_command.specs.declared.command.Command.{Command}
use Rattle.bts_command.specs.declared.command.Command.TheVariants as command
use Rattle.bts_tree.specs.declared.activity.Activity.{Activity}
use Rattle.bts_tree.specs.Activities.{is_at_rest, new_root}
use Rattle.bts_tree.specs.Processes.{Process, activity_at, has_tree, planted, purged, format_of}
use Rattle.bts_tree.specs.Soundness.{IsSoundInFrames}
use Rattle.bts_tree.proofs.New.{new_process_is_sound, nothing_kept}
use Rattle.bts_rows.specs.declared.places.Held.{Held}
use Rattle.bts_rows.specs.declared.places.Held.TheVariants as holds
use Rattle.bts_rows.specs.Bounds.{raised_by}
use Rattle.bts_rows.specs.Families.{AreUsual}
use Rattle.bts_rows.specs.RequestRows.{acquire_activity_row, acquire_process_row, define_process_row, has_acquired, holds_process, purge_row, request_row}
use Rattle.bts_rows.proofs.Grows.{Grows, grows_planted, grows_purged, grows_same}
use Rattle.bts_rows.proofs.Telling.{Tells, TellsWith, tells_more, tells_some, tells_when}

-- a process and what is held have a property behind each of these commands
pub record Acquires (P : Process × Held → Type 0) (h : Held) (s : Process) : Type 0 where
  pub planted : (transid program : Name) → has_acquired h ≡ false → P (planted (new_root (format_of s) transid program) s, holds.Process)
  pub acquired : (g : Held) → has_acquired h ≡ false → P (s, g)
  pub purged : P (purged s, holds.Purged)

module _ (P : Process × Held → Type 0) (h : Held) (s : Process) (l : Acquires P h s) where
  abbrev Gives : Value → Process × Held → Type 0
  Gives v x = (got_bytes v ≡ 0) × P x

  define_tells : (transid program : Name) → TellsWith Gives (define_process_row h s transid program)
  define_tells transid program =
      tells_when Gives resp.Invreq reason.Acquired (has_acquired h) _ refl refl λ a.
      tells_when Gives resp.Processerr reason.Taken (has_tree s) _ refl refl λ t.
      (refl, l.planted transid program a)

  acquire_tells : TellsWith Gives (acquire_process_row h s)
  acquire_tells =
      tells_when Gives resp.Invreq reason.Acquired (has_acquired h) _ refl refl λ a.
      tells_when Gives resp.Processerr reason.Missing (not (has_tree s)) _ refl refl λ t.
      (refl, l.acquired holds.Process a)

  acquire_activity_tells : (path : ActivityPath) → TellsWith Gives (acquire_activity_row h s path)
  acquire_activity_tells path =
      tells_when Gives resp.Invreq reason.Acquired (has_acquired h) _ refl refl λ a.
      tells_when Gives resp.Processerr reason.Missing (not (has_tree s)) _ refl refl λ t.
      tells_when Gives resp.Activityerr reason.Missing (not (is_some (activity_at path s))) _ refl refl λ m.
      (refl, l.acquired (holds.Activity path) a)

  purge_tells : TellsWith Gives (purge_row h s)
  purge_tells =
      tells_when Gives resp.Invreq reason.NotAcquired (not (holds_process h)) _ refl refl λ a.
      tells_some Gives resp.Processerr reason.Missing (activity_at [] s) _ refl refl λ root e.
      tells_when Gives resp.Processerr reason.Mode (not (is_at_rest root)) _ refl refl λ m.
      (refl, l.purged)

  -- each of commands 1 to 4
  pub acquiring_gives : (c : Command) → TellsWith Gives (request_row h s c)
  unfolding request_row
  acquiring_gives (command.DefineProcess transid program) = define_tells transid program
  acquiring_gives command.AcquireProcess = acquire_tells
  acquiring_gives (command.AcquireActivity path) = acquire_activity_tells path
  acquiring_gives command.PurgeProcess = purge_tells
  acquiring_gives _ = (refl, refl)

  pub acquiring_tells : (c : Command) → Tells P (request_row h s c)
  acquiring_tells c = tells_more Gives (λ v. P) (request_row h s c) (λ v x k. k.1) (acquiring_gives c)

-- ---- soundness

one_more : (n : ℕ) → 1 ≤ n + 1
one_more n = omega arith

pub acquires_sound : (h : Held) (s : Process) → IsSoundInFrames [] s → Acquires (λ x. IsSoundInFrames [] x.0) h s
acquires_sound h s sound = record {
  planted = λ transid program a.
      let new = new_process_is_sound (format_of s) s.key transid program in
      record { tree = (new.tree.0, one_more s.generation); containers = sound.containers; formats = new.formats; active = new.active };
  acquired = λ g a. sound;
  purged = record { tree = refl; containers = nothing_kept (format_of s); formats = tt; active = refl };
}

-- ---- numbers

pub raised_once : (held : Held) (g : ℕ) → raised_by held g ≤ g + 1
raised_once holds.Never g = omega arith
raised_once holds.Process g = omega arith
raised_once (holds.Activity p) g = omega arith
raised_once holds.Purged g = omega arith

raised_least : (held : Held) (g : ℕ) → g ≤ raised_by held g
raised_least holds.Never g = omega arith
raised_least holds.Process g = omega arith
raised_least (holds.Activity p) g = omega arith
raised_least holds.Purged g = omega arith

never_raised : (held : Held) → has_acquired held ≡ false → (g : ℕ) → raised_by held g ≡ g
never_raised holds.Never e g = refl
never_raised holds.Process e g = cc
never_raised (holds.Activity p) e g = cc
never_raised holds.Purged e g = cc

-- the generation rises once at most, and only where the first thing is acquired; what was acquired stays acquired
pub record GrowsHolding (more : Bool) (s : Process) (held : Held) (x : Process × Held) : Type 0 where
  pub process : Grows 1 1 more s x.0
  pub once : (g : ℕ) → s.generation ≤ raised_by held g → x.0.generation ≤ raised_by x.1 g
  pub raised : (g : ℕ) → raised_by held g ≤ raised_by x.1 g

-- so it does where its generation stays, and as much is acquired as before
pub holding : (more : Bool) (s : Process) (held : Held) (t : Process) (h : Held) → Grows 0 1 more s t
    → ((g : ℕ) → raised_by held g ≤ raised_by h g) → GrowsHolding more s held (t, h)
holding more s held t h f more_held = record {
  process = record { key = f.key; generation = let a = f.generation in omega (arith, a); numbers = f.numbers; lone = f.lone };
  once = λ g l. let a = more_held g in let b = f.generation in omega (arith, a, b, l);
  raised = more_held;
}

pub acquires_grows : (more : Bool) (h : Held) (s : Process) → Acquires (GrowsHolding more s h) h s
acquires_grows more h s = record {
  planted = λ transid program a. record {
    process = grows_planted 1 more transid program s;
    once = λ g l. let e = never_raised h a g in omega (arith, e, l);
    raised = raised_once h;
  };
  acquired = λ g a. holding more s h s g (grows_same 1 more s) (λ n. let e = never_raised h a n in let l = raised_least g n in omega (arith, e, l));
  purged = holding more s h (purged s) holds.Purged (grows_purged 1 more s) (raised_once h);
}

-- ---- names

pub acquires_usual : (h : Held) (s : Process) → AreUsual s → Acquires (λ x. AreUsual x.0) h s
acquires_usual h s usual = record {
  planted = λ transid program a p b n e i. planted_usual transid program p b n e i;
  acquired = λ g a. usual;
  purged = λ p b n e. cc;
}
  where
    planted_usual : (transid program : Name) (p : ActivityPath) (b : Activity) (n : Name)
        → activity_at p (planted (new_root (format_of s) transid program) s) ≡ Some b → b.completion ≡ Some n → same n initial_name ≡ false
    planted_usual transid program p b n e i = by (same p []) e
      where
        by : (t : Bool) → cond t (Some (new_root (format_of s) transid program)) None ≡ Some b → same n initial_name ≡ false
        by true e = let q : new_root (format_of s) transid program ≡ b = cc in cc
        by false e = cc
