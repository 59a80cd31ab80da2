-- At a position one unit of a kind and a moment may stand next.
use Rattle.std.proofs.Common.{◌≡◌, ℕ, ◌+◌, ◌&&◌, not, cond, List, [], Some, unwrap_or, refl, sym, ap, ◌∙◌, subst}
use Rattle.bts_names.specs.declared.row.Row.{Row}
use Rattle.bts_command.specs.declared.command.Call.{Call}
use Rattle.bts_command.specs.declared.command.Command.{Command}
use Rattle.bts_command.specs.declared.ended.End.{End}
use Rattle.bts_command.specs.declared.ended.End.TheVariants.{Commit, Rollback, Abend}
use Rattle.bts_command.specs.declared.ended.Ended.{Ended}
use Rattle.bts_command.specs.declared.ended.UnitKind.{UnitKind}
use Rattle.bts_command.specs.declared.ended.UnitKind.TheVariants as unit
use Rattle.bts_tree.specs.Processes.{Process}
use Rattle.bts_unit.specs.Calls.{commands_of, run, unit_behind}
use Rattle.bts_unit.specs.Frames.{UnitOfWork}
use Rattle.bts_unit.specs.Playing.{budgeted}
use Rattle.bts_unit.specs.Systems.{system}
use Rattle.bts_unit.proofs.OneByOne.{ended_stays}
use Rattle.bts_interp.proofs.OneTalk.{talks_agree}
use Rattle.bts_region.specs.Histories.{IsNext}
use Rattle.bts_interp.specs.Items.{texts_of}
use Rattle.bts_command.specs.Kinds.{is_kept, is_rollback}
use Rattle.bts_region.specs.Positions.{Position}
use Rattle.bts_session.specs.declared.session.Session.{Session}
use Rattle.bts_tree.specs.Repositories.{process_at}
use Rattle.bts_unit.specs.Playing.{begun}

abbrev ended : UnitKind → ℕ → End → List Call → List Row → ℕ → Ended
ended kind moment end calls rows seq = record { unit = kind; moment = moment; end = end; calls = calls; rows = rows; seq = seq }

-- ---- units that follow no text

budget_leaves : (e g : End) (u : UnitOfWork) → u.end ≡ Some g → (budgeted e u).end ≡ u.end
budget_leaves Commit g u h = refl
budget_leaves Rollback g u h = refl
budget_leaves (Abend code) g u h = rw h refl

module _ (kind : UnitKind) (moment : ℕ) (s : Process) where
  system_stays : (ks : List Command) → run (system kind moment s) ks ≡ system kind moment s
  system_stays ks =
      let u : UnitOfWork = system kind moment s in
      ended_stays u.moment u.base u.held u.now u.calls u.end ks

  no_calls : (calls : List Call) → (run (system kind moment s) (commands_of calls)).calls ≡ calls → calls ≡ []
  no_calls calls e = sym e ∙ ap (λ u. u.calls) (system_stays (commands_of calls))

  commits : (e : End) (ks : List Command) → (budgeted e (run (system kind moment s) ks)).end ≡ Some e → e ≡ Commit
  commits e ks h =
      let left : (run (system kind moment s) ks).end ≡ Some Commit = ap (λ u. u.end) (system_stays ks) in
      ap (λ o. unwrap_or o e) (sym h ∙ budget_leaves e Commit (run (system kind moment s) ks) left ∙ left)

-- ---- the calls and the end

module _ (session : Session) (at : Position) where
  same_talk : (kind : UnitKind) (moment : ℕ) (e f : End) (a b : List Call) (r t : List Row) (n m : ℕ)
      → IsNext session at (ended kind moment e a r n) → IsNext session at (ended kind moment f b t m) → (a ≡ b) × (e ≡ f)
  unfolding unit_behind
  same_talk (unit.Request item key) moment e f a b r t n m x y =
      talks_agree (texts_of session (unit.Request item key)) (begun (unit.Request item key) moment (process_at key at.processes)) refl refl e f a b x.text y.text x.plays.given.calls y.plays.given.calls
  same_talk (unit.Activation key path) moment e f a b r t n m x y =
      talks_agree (texts_of session (unit.Activation key path)) (begun (unit.Activation key path) moment (process_at key at.processes)) refl refl e f a b x.text y.text x.plays.given.calls y.plays.given.calls
  same_talk (unit.Notice key path) moment e f a b r t n m x y =
      let s : Process = process_at key at.processes in
      let k : UnitKind = unit.Notice key path in (
        no_calls k moment s a x.plays.given.calls ∙ sym (no_calls k moment s b y.plays.given.calls),
        commits k moment s e (commands_of a) x.plays.given.end ∙ sym (commits k moment s f (commands_of b) y.plays.given.end),
      )
  same_talk (unit.Expiry key path timer) moment e f a b r t n m x y =
      let s : Process = process_at key at.processes in
      let k : UnitKind = unit.Expiry key path timer in (
        no_calls k moment s a x.plays.given.calls ∙ sym (no_calls k moment s b y.plays.given.calls),
        commits k moment s e (commands_of a) x.plays.given.end ∙ sym (commits k moment s f (commands_of b) y.plays.given.end),
      )
  same_talk (unit.Clock item) moment e f a b r t n m x y = (x.plays.given.calls ∙ sym y.plays.given.calls, x.plays.given.end ∙ sym y.plays.given.end)
  same_talk (unit.Settle item) moment e f a b r t n m x y = (x.plays.given.calls ∙ sym y.plays.given.calls, x.plays.given.end ∙ sym y.plays.given.end)
  same_talk (unit.Browse item) moment e f a b r t n m x y = (x.plays.given.calls ∙ sym y.plays.given.calls, x.plays.given.end ∙ sym y.plays.given.end)

  same_ended : (kind : UnitKind) (moment : ℕ) (e f : End) (a b : List Call) (r t : List Row) (n m : ℕ)
      → IsNext session at (ended kind moment e a r n) → IsNext session at (ended kind moment f b t m) → ended kind moment e a r n ≡ ended kind moment f b t m
  same_ended kind moment e f a b r t n m x y =
      let k : (a ≡ b) × (e ≡ f) = same_talk kind moment e f a b r t n m x y in
      let rows : r ≡ t = x.rows ∙ sym y.rows in
      let seq : n ≡ m = x.number ∙ ap (λ g. cond (is_kept kind && not (is_rollback g)) (at.units + 1) 0) k.1 ∙ sym y.number in
      ap (λ z. ended kind moment e z r n) k.0
      ∙ ap (λ z. ended kind moment z b r n) k.1
      ∙ ap (λ z. ended kind moment f b z n) rows
      ∙ ap (λ z. ended kind moment f b t z) seq

  pub one_unit : (x y : Ended) → x.unit ≡ y.unit → x.moment ≡ y.moment → IsNext session at x → IsNext session at y → x ≡ y
  one_unit x y u m nx ny =
      same_ended x.unit x.moment x.end y.end x.calls y.calls x.rows y.rows x.seq y.seq nx
      (subst (λ k. IsNext session at (ended k x.moment y.end y.calls y.rows y.seq)) (sym u) (subst (λ k. IsNext session at (ended y.unit k y.end y.calls y.rows y.seq)) (sym m) ny))
      ∙ ap (λ k. ended k x.moment y.end y.calls y.rows y.seq) u
      ∙ ap (λ k. ended y.unit k y.end y.calls y.rows y.seq) m
