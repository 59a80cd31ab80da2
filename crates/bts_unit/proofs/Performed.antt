-- One command in the frame of a unit, on its work.
use Rattle.std.proofs.Common.{◌≡◌, Bool, true, false, Option, Some, None, Result, Ok, Err, IfOk, OnErr, is_some, is_none, refl, sym, ap, ◌∙◌, subst}
use Rattle.bts_names.specs.Answer.{Answer}
use Rattle.bts_names.specs.Names.{Name, ActivityPath}
use Rattle.bts_names.specs.declared.memory.NoMemory.{NoMemory}
use Rattle.bts_names.specs.declared.reply.Leaving.{Leaving}
use Rattle.bts_names.specs.declared.reply.Leaving.TheVariants as leaving
use Rattle.bts_names.specs.declared.reply.Reply.{Reply}
use Rattle.bts_names.specs.declared.reply.Value.TheVariants as value
use Rattle.bts_command.specs.declared.command.Command.{Command}
use Rattle.bts_command.specs.declared.command.Command.TheVariants as command
use Rattle.bts_tree.specs.declared.activity.Activity.{Activity}
use Rattle.bts_tree.specs.Processes.{Process, activity_at}
use Rattle.bts_tree.specs.Scopes.{HeldProcess, LeavesMarks}
use Rattle.bts_rows.specs.declared.places.Held.{Held}
use Rattle.bts_rows.specs.Rows.{answer}
use Rattle.bts_act.specs.Does.{Does}
use Rattle.bts_act.specs.Replies.{normal}
use Rattle.bts_unit.specs.Calls.{called_on_top}
use Rattle.bts_unit.specs.Ends.{leaving_of}
use Rattle.bts_unit.specs.Frames.{here}
use Rattle.bts_unit.specs.OneFrame.{ends_frame, is_of_one_frame}
use Rattle.bts_unit.specs.OnWork.{GoesOn, IsAsBefore, IsMarked, IsOpenOrEnded, Steps, at_of, stepped, with_scope}
use Rattle.bts_unit.specs.OnWork as on
use Rattle.bts_unit.specs.declared.work.FirstFrame.{FirstFrame}
use Rattle.bts_unit.specs.declared.work.Work.{Work}
use Rattle.bts_unit.proofs.FirstMark.{still_marked}
use Rattle.bts_unit.proofs.Shown as shown

module _ (w : Work) where
  abbrev with_frame : Option FirstFrame → Work
  with_frame o = record w { frame = o }

  -- ---- what the unit shows

  returns_case : (x : Bool) (o : Option FirstFrame) → is_some o ≡ true → Steps (with_frame o) (on.returned x (with_frame o)).1 (on.returned x (with_frame o)).0 (called_on_top (command.Return x))
  returns_case x None h = cc
  returns_case x (Some f) h = shown.returns w.moment w.base w.scope w.held w.end f x

  pub returns : (x : Bool) → is_some w.frame ≡ true → Steps w (on.returned x w).1 (on.returned x w).0 (called_on_top (command.Return x))
  returns x h = returns_case x w.frame h

  abends_case : (code : Name) (o : Option FirstFrame) → is_some o ≡ true → Steps (with_frame o) (on.abended code (with_frame o)) (normal value.Nothing) (called_on_top (command.Abend code))
  abends_case code None h = cc
  abends_case code (Some f) h = shown.abends_by_command w.moment w.base w.scope w.held w.end f code

  pub abends : (code : Name) → is_some w.frame ≡ true → Steps w (on.abended code w) (normal value.Nothing) (called_on_top (command.Abend code))
  abends code h = abends_case code w.frame h

  rolls_case : (o : Option FirstFrame) → is_some o ≡ true → Steps (with_frame o) (on.rolled_back (with_frame o)).1 (on.rolled_back (with_frame o)).0 (called_on_top command.Rollback)
  rolls_case None h = cc
  rolls_case (Some f) h = shown.rolls w.moment w.base w.scope w.held w.end f

  pub rolls : is_some w.frame ≡ true → Steps w (on.rolled_back w).1 (on.rolled_back w).0 (called_on_top command.Rollback)
  rolls h = rolls_case w.frame h

  rows_case : (c : Command) (reply : Reply) (t : HeldProcess) (g : Held) (o : Option FirstFrame) → is_some o ≡ true → ends_frame c ≡ false → is_of_one_frame (at_of o) c ≡ true
      → t.marks ≡ w.scope.marks
      → Does (Ok reply) (w.scope.process, w.held) (t.process, g) (answer (here w.held (at_of o)) w.held 1 w.moment w.scope.process c)
      → Steps (with_frame o) (stepped c reply t g (with_frame o)) reply (called_on_top c)
  rows_case c reply t g None h n one m d = cc
  rows_case c reply t g (Some f) h n one m d = shown.rows w.moment w.base w.scope w.held w.end f c reply t g n one m d

  pub steps : (c : Command) (new : Work) (r : Result Reply NoMemory) → is_some w.frame ≡ true → ends_frame c ≡ false → is_of_one_frame (at_of w.frame) c ≡ true
      → LeavesMarks w.scope new.scope
      → Does r (w.scope.process, w.held) (new.scope.process, new.held) (answer (here w.held (at_of w.frame)) w.held 1 w.moment w.scope.process c)
      → IfOk r (λ reply. new ≡ stepped c reply new.scope new.held w)
      → IfOk r (λ reply. Steps w new reply (called_on_top c))
  steps c new (Ok reply) h n one l d e = subst (λ v. Steps w v reply (called_on_top c)) (sym e)
      (rows_case c reply new.scope new.held w.frame h n one l.marks d)
  steps c new (Err x) h n one l d e = tt

  pub steps_back : (new : Work) (r : Result Reply NoMemory) (x : Answer (Process × Held)) → LeavesMarks w.scope new.scope
      → Does r (w.scope.process, w.held) (new.scope.process, new.held) x
      → OnErr r (new ≡ with_scope new.scope w) → OnErr r (IsAsBefore w new)
  steps_back new (Ok reply) x l d e = tt
  steps_back new (Err none) x l d e = record { work = e; process = ap (λ y. y.0) d.1; marks = l.marks }

  -- ---- the mark, and the end

  flagged_marked : (b : Bool) (o : Option FirstFrame) (s : HeldProcess) → IsMarked o s → IsMarked (on.retrieving b o) s
  flagged_marked true None s m = m
  flagged_marked true (Some f) s m = m
  flagged_marked false o s m = m

  left_marked : (o : Option FirstFrame) (s : HeldProcess) → is_some o ≡ true → LeavesMarks w.scope s → IsMarked o w.scope → IsMarked o s
  left_marked None s h l m = cc
  left_marked (Some f) s h l m = still_marked f.at w.scope s l m

  fits_marked : (b : Bool) (o : Option FirstFrame) → is_some (on.retrieving b o) ≡ is_some o
  fits_marked true None = refl
  fits_marked true (Some f) = refl
  fits_marked false o = refl

  pub steps_marked : (c : Command) (new : Work) (r : Result Reply NoMemory) → is_some w.frame ≡ true → IsMarked w.frame w.scope
      → LeavesMarks w.scope new.scope → IfOk r (λ reply. new ≡ stepped c reply new.scope new.held w) → OnErr r (new ≡ with_scope new.scope w) → IsMarked new.frame new.scope
  steps_marked c new (Ok reply) h m l e f =
      subst (λ v. IsMarked v.frame new.scope) (sym e)
      (flagged_marked (on.was_retrieved c reply) w.frame new.scope (left_marked w.frame new.scope h l m))
  steps_marked c new (Err x) h m l e f = subst (λ v. IsMarked v.frame new.scope) (sym f) (left_marked w.frame new.scope h l m)

  pub steps_go_on : (c : Command) (new : Work) (r : Result Reply NoMemory) → IsOpenOrEnded w
      → IfOk r (λ reply. new ≡ stepped c reply new.scope new.held w) → OnErr r (new ≡ with_scope new.scope w) → GoesOn w new
  steps_go_on c new (Ok reply) k e f =
      record {
        open_or_ended = ap (λ v. is_none v.end) e ∙ k ∙ sym (ap (λ v. is_some v.frame) e ∙ fits_marked (on.was_retrieved c reply) w.frame);
        moment = ap (λ v. v.moment) e;
        base = ap (λ v. v.base) e;
      }
  steps_go_on c new (Err x) k e f = subst (GoesOn w) (sym f) (record { open_or_ended = k; moment = refl; base = refl })

  -- the unit's frame is this one
  abbrev On : Option FirstFrame → Work → Type 0
  On o new = IsOpenOrEnded (with_frame o) → GoesOn w new

  keeps : (o : Option FirstFrame) → On o (with_frame o)
  keeps o k = record { open_or_ended = k; moment = refl; base = refl }

  abended_goes_on : (code : Name) (o : Option FirstFrame) → On o (on.abended code (with_frame o))
  abended_goes_on code None k = keeps None k
  abended_goes_on code (Some f) k = record { open_or_ended = refl; moment = refl; base = refl }

  left_goes_on : (p : ActivityPath) (how : Leaving) (o : Option FirstFrame) → On o (on.left p how (with_frame o))
  left_goes_on p leaving.Dormant o k = record { open_or_ended = refl; moment = refl; base = refl }
  left_goes_on p leaving.Complete o k = record { open_or_ended = refl; moment = refl; base = refl }
  left_goes_on p (leaving.Abended code) o k = abended_goes_on code o k

  returned_at_goes_on : (x g : Bool) (p : ActivityPath) (a : Option Activity) (o : Option FirstFrame) → On o (on.returned_at x g p a (with_frame o)).1
  returned_at_goes_on x g p None o k = keeps o k
  returned_at_goes_on x g p (Some a) o k = left_goes_on p (leaving_of x g a.pool) o k

  returned_in_goes_on : (x g : Bool) (at : Option ActivityPath) (o : Option FirstFrame) → On o (on.returned_in x g at (with_frame o)).1
  returned_in_goes_on true g None o k = keeps o k
  returned_in_goes_on false g None o k = record { open_or_ended = refl; moment = refl; base = refl }
  returned_in_goes_on true g (Some p) o k = returned_at_goes_on true g p (activity_at p w.scope.process) o k
  returned_in_goes_on false g (Some p) o k = returned_at_goes_on false g p (activity_at p w.scope.process) o k

  returned_goes_on : (x : Bool) (o : Option FirstFrame) → On o (on.returned x (with_frame o)).1
  returned_goes_on x None k = keeps None k
  returned_goes_on x (Some f) k = returned_in_goes_on x f.retrieved f.at (Some f) k

  pub returns_go_on : (x : Bool) → IsOpenOrEnded w → GoesOn w (on.returned x w).1
  returns_go_on x k = returned_goes_on x w.frame k

  -- the unit's frame is this one, and its scope is marked so
  abbrev Marked : Option FirstFrame → Work → Type 0
  Marked o new = IsMarked o w.scope → IsMarked new.frame new.scope

  abended_marked : (code : Name) (o : Option FirstFrame) → Marked o (on.abended code (with_frame o))
  abended_marked code None m = m
  abended_marked code (Some f) m = refl

  left_so_marked : (p : ActivityPath) (how : Leaving) (o : Option FirstFrame) → Marked o (on.left p how (with_frame o))
  left_so_marked p leaving.Dormant o m = refl
  left_so_marked p leaving.Complete o m = refl
  left_so_marked p (leaving.Abended code) o m = abended_marked code o m

  returned_at_marked : (x g : Bool) (p : ActivityPath) (a : Option Activity) (o : Option FirstFrame)
      → Marked o (on.returned_at x g p a (with_frame o)).1
  returned_at_marked x g p None o m = m
  returned_at_marked x g p (Some a) o m = left_so_marked p (leaving_of x g a.pool) o m

  returned_in_marked : (x g : Bool) (at : Option ActivityPath) (o : Option FirstFrame) → Marked o (on.returned_in x g at (with_frame o)).1
  returned_in_marked true g None o m = m
  returned_in_marked false g None o m = refl
  returned_in_marked true g (Some p) o m = returned_at_marked true g p (activity_at p w.scope.process) o m
  returned_in_marked false g (Some p) o m = returned_at_marked false g p (activity_at p w.scope.process) o m

  returned_marked : (x : Bool) (o : Option FirstFrame) → Marked o (on.returned x (with_frame o)).1
  returned_marked x None m = m
  returned_marked x (Some f) m = returned_in_marked x f.retrieved f.at (Some f) m

  pub returns_marked : (x : Bool) → IsMarked w.frame w.scope → IsMarked (on.returned x w).1.frame (on.returned x w).1.scope
  returns_marked x m = returned_marked x w.frame m

  pub abends_marked : (code : Name) → IsMarked w.frame w.scope → IsMarked (on.abended code w).frame (on.abended code w).scope
  abends_marked code m = abended_marked code w.frame m

  rolled_in_marked : (f : FirstFrame) (at : Option ActivityPath) → Marked (Some f) (on.rolled_back_in f at (with_frame (Some f))).1
  rolled_in_marked f None m = refl
  rolled_in_marked f (Some p) m = m

  rolled_marked : (o : Option FirstFrame) → Marked o (on.rolled_back (with_frame o)).1
  rolled_marked None m = m
  rolled_marked (Some f) m = rolled_in_marked f f.at m

  pub rolls_marked : IsMarked w.frame w.scope → IsMarked (on.rolled_back w).1.frame (on.rolled_back w).1.scope
  rolls_marked m = rolled_marked w.frame m

  pub abends_go_on : (code : Name) → IsOpenOrEnded w → GoesOn w (on.abended code w)
  abends_go_on code k = abended_goes_on code w.frame k

  rolled_in_goes_on : (f : FirstFrame) (at : Option ActivityPath) → On (Some f) (on.rolled_back_in f at (with_frame (Some f))).1
  rolled_in_goes_on f None k = record { open_or_ended = refl; moment = refl; base = refl }
  rolled_in_goes_on f (Some p) k = keeps (Some f) k

  rolled_goes_on : (o : Option FirstFrame) → On o (on.rolled_back (with_frame o)).1
  rolled_goes_on None k = keeps None k
  rolled_goes_on (Some f) k = rolled_in_goes_on f f.at k

  pub rolls_go_on : IsOpenOrEnded w → GoesOn w (on.rolled_back w).1
  rolls_go_on k = rolled_goes_on w.frame k

-- the commands that end no frame
pub ends_none : (c : Command) → ((x : Bool) → c ≡ command.Return x → ⊥) → ((code : Name) → c ≡ command.Abend code → ⊥) → (c ≡ command.Rollback → ⊥) → ends_frame c ≡ false
ends_none (command.Return x) r a b = absurd (r x refl)
ends_none (command.Abend code) r a b = absurd (a code refl)
ends_none command.Rollback r a b = absurd (b refl)
ends_none _ r a b = refl
