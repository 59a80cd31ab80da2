-- One turn of a unit: the end that is due, or one call more.
use Rattle.std.proofs.Common.{◌≡◌, ℕ, ◌+◌, ◌-◌, ◌<◌, ◌≤◌, true, cond, nat_eq, [], ◌∷◌, ◌++◌, length, Option, None, Some, is_some, IfSome, codes, refl, sym, ap, ◌∙◌, subst, arith}
use Rattle.std.proofs.Math.Nat.{add_assoc, zero-add}
use Rattle.std.proofs.lemmas.List.Sums.{sum_by-append}
use Rattle.bts_names.specs.Names.{Name}
use Rattle.bts_command.specs.declared.command.Call.{Call}
use Rattle.bts_command.specs.declared.ended.End.{End}
use Rattle.bts_command.specs.declared.ended.End.TheVariants.{Abend, Commit, Rollback}
use Rattle.bts_unit.specs.Calls.{call, run, unit_behind}
use Rattle.bts_unit.specs.Ends.{abended_whole}
use Rattle.bts_unit.specs.Frames.{OpenFrame, UnitOfWork}
use Rattle.bts_unit.specs.OneFrame.{is_of_one_frame}
use Rattle.bts_unit.specs.Playing.{budgeted, budgeted_by, is_budget}
use Rattle.bts_unit.specs.Replays.{top_path}
use Rattle.bts_command.specs.Sizes.{call_bytes, data_bytes}
use Rattle.bts_interp.specs.Budgets.{call_limit, count_of, data_limit, statements_of, statements_to}
use Rattle.bts_interp.specs.NextCalls.{is_on_top, next_call, next_in, own_calls, with_own}
use Rattle.bts_interp.specs.Running.{FollowsFirst, GoesOn, HasFrame, IsPlayed, IsRun, IsRunBy, IsUnderWay, MayCall, Point, Stops}
use Rattle.bts_interp.specs.Steps.{Reached, Script, next, next_of, place_behind, place_of, statement_limit}
use Rattle.bts_interp.specs.Talks.{Follows, IsTalk}
use Rattle.bts_interp.specs.Texts.{Texts}
use Rattle.bts_interp.proofs.Alone.{Framed, IsStopped, call_by, calls_behind, framed, framed_behind, stopped}
use Rattle.bts_unit.proofs.OneByOne.{first_call, unit_behind_more}
use Rattle.bts_interp.proofs.Behind.{one_more_statements, own_calls_more, place_behind_more}
use Rattle.bts_interp.proofs.Ending.{IsEnd, its_own, too_many_calls, too_many_statements, too_much_data}
use Rattle.bts_interp.proofs.Following.{HasRoom, one_more_follows}
use Rattle.bts_interp.proofs.OneTalk.{not_due_at}
use Rattle.bts_unit.specs.Replays.{IsFit}
use Rattle.bts_unit.proofs.Opening.{none_fits}
use Rattle.bts_interp.proofs.Places.{Cut, cut}

-- ---- a unit behind its calls, open or ended

same_by : (e : End) (v : UnitOfWork) → v.end ≡ Some e → budgeted e v ≡ v
same_by Commit v h = refl
same_by Rollback v h = refl
same_by (Abend code) v h = ap (λ o. budgeted_by code o v) h

module _ (texts : Texts) (script : Script) (begun : UnitOfWork) (before : ℕ) (x : UnitOfWork) (at : Point) (w : IsUnderWay texts script begun before x at) where
  pub run_by : (o : Option End) → x.end ≡ o → IsRunBy texts script begun before x at o
  run_by None h = w
  run_by (Some e) h =
      let end : (unit_behind begun x.calls).end ≡ Some e = ap (λ v. v.end) (sym w.unit) ∙ h in
      let own : IsEnd texts begun x.calls e (statements_to texts begun x.calls) = its_own texts begun x.calls e end in
      record {
        talk = record { follows = w.follows; end = own.due };
        unit = w.unit ∙ sym (same_by e (unit_behind begun x.calls) end);
        steps_are = w.steps_are ∙ ap (λ n. before + n) (w.used_is ∙ sym own.executed_then);
      }

-- one that has ended was played
pub played_by : (texts : Texts) (script : Script) (begun : UnitOfWork) (before : ℕ) (x : UnitOfWork) (at : Point) (o : Option End) → IsRunBy texts script begun before x at o
    → IfSome o (λ e. IsPlayed texts begun x before at.steps e)
played_by texts script begun before x at None h = tt
played_by texts script begun before x at (Some e) h = h

-- ---- where a unit is under way

module _ (texts : Texts) (script : Script) (begun : UnitOfWork) (before : ℕ) (u : UnitOfWork) (at : Point)
    (w : IsUnderWay texts script begun before u at) (is_open : u.end ≡ None) where
  pub still_open : (unit_behind begun u.calls).end ≡ None
  still_open = ap (λ v. v.end) (sym w.unit) ∙ is_open

  in_frame : Framed (FollowsFirst texts script) u
  in_frame = framed (FollowsFirst texts script) (λ f b h. h) u is_open w.frames

  -- what comes next is reached from the place
  next_here : next_call texts begun u.calls ≡ next statement_limit script u.calls at.place
  unfolding next_call
  next_here =
      let f : OpenFrame = in_frame.frame in
      ap (next_in texts begun u.calls) (ap (λ v. v.frames) (sym w.unit) ∙ in_frame.frames_are)
      ∙ ap (λ s. next_of s (own_calls f.opened begun u.calls)) in_frame.holds.1
      ∙ ap (λ k. next_of script (own_calls k begun u.calls)) in_frame.holds.0
      ∙ ap (next_of script) w.own
      ∙ ap (next statement_limit script u.calls) (sym w.place_is)

  -- and fewer statements reach it, or don't reach as far
  cut_here : (left : ℕ) → left ≤ statement_limit → Cut left (next left script u.calls at.place) (next_call texts begun u.calls)
  cut_here left h = subst (Cut left (next left script u.calls at.place)) (sym next_here) (cut script u.calls left statement_limit at.place h)

  fits : IsFit begun
  fits = none_fits begun.frames begun.end w.open_first

  -- ---- an end that is due

  pub stopped_so : (code : Name) (executed later : ℕ) → is_budget code ≡ true → IsEnd texts begun u.calls (Abend code) executed → later ≡ before + executed
      → (x : UnitOfWork) → x ≡ abended_whole code u → IsRun texts script begun before x (record at { steps = later })
  stopped_so code executed later budget ends counted x e =
      let s : IsStopped code u (abended_whole code u) = stopped (FollowsFirst texts script) (λ f b h. h) u is_open w.frames code in
      let end : x.end ≡ Some (Abend code) = ap (λ v. v.end) e ∙ s.end_is in
      let calls : u.calls ≡ x.calls = sym (ap (λ v. v.calls) e ∙ s.calls_are) in
      let whole : abended_whole code u ≡ budgeted (Abend code) u = sym (ap (λ o. budgeted_by code o u) is_open ∙ ap (λ t. cond t (abended_whole code u) u) budget) in
      let played : IsPlayed texts begun x before later (Abend code) = record {
        talk = subst (λ k. IsTalk texts begun k (Abend code)) calls (record { follows = w.follows; end = ends.due });
        unit = e ∙ whole ∙ ap (budgeted (Abend code)) (w.unit ∙ ap (unit_behind begun) calls);
        steps_are = counted ∙ ap (λ n. before + n) (sym ends.executed_then ∙ ap (statements_of texts begun) calls);
      } in
      subst (IsRunBy texts script begun before x (record at { steps = later })) (sym end) played

  -- ---- one call more

  module _ (r : Reached) (m : MayCall script u at r) (used_fits : at.used ≤ statement_limit) (one : is_of_one_frame (top_path u.frames) r.command ≡ true) where
    abbrev made : Call
    made = call_by u r.command

    abbrev x : UnitOfWork
    x = (call u r.command).1

    abbrev behind_call : ℕ → ℕ → Point
    behind_call bytes steps = record { place = r.place; used = at.used + r.count; bytes = bytes; steps = steps }

    calls_are : x.calls ≡ u.calls ++ made ∷ []
    calls_are = calls_behind (FollowsFirst texts script) (λ f b h. h) u is_open w.frames r.command

    reached : Cut (statement_limit - at.used) (Some r) (next_call texts begun u.calls)
    reached = subst (λ few. Cut (statement_limit - at.used) few (next_call texts begun u.calls)) m.next_is (cut_here (statement_limit - at.used) (omega arith))

    room_left : HasRoom (statements_to texts begun u.calls) (length u.calls) (data_bytes u.calls) r.count
    room_left = record {
      bytes_left = subst (λ n. n ≤ data_limit) w.bytes_are m.bytes_fit;
      calls_left = m.calls_left;
      statements_left = let l : r.count ≤ statement_limit - at.used = reached.1 in subst (λ n. n + r.count ≤ statement_limit) w.used_is (omega arith);
    }

    unit_then : x ≡ unit_behind begun (u.calls ++ made ∷ [])
    unfolding unit_behind run
    unit_then = sym (first_call u r.command []) ∙ ap (λ v. unit_behind v (made ∷ [])) w.unit ∙ sym (unit_behind_more begun u.calls (made ∷ []))

    follows_then : Follows texts begun (u.calls ++ made ∷ [])
    follows_then = one_more_follows texts begun u.calls made r w.follows (not_due_at texts begun fits u.calls r reached.0 room_left) reached.0 refl

    own_top : is_on_top 0 u.frames ≡ true
    own_top = ap (is_on_top 0) in_frame.frames_are ∙ ap (λ k. nat_eq k 0) in_frame.holds.0

    own_then : own_calls 0 begun (u.calls ++ made ∷ []) ≡ u.calls ++ made ∷ []
    unfolding own_calls
    own_then =
        own_calls_more 0 begun u.calls (made ∷ [])
        ∙ ap (λ l. l ++ own_calls 0 (unit_behind begun u.calls) (made ∷ [])) w.own
        ∙ ap (λ v. u.calls ++ own_calls 0 v (made ∷ [])) (sym w.unit)
        ∙ ap (λ t. u.calls ++ with_own t made []) own_top

    place_then : r.place ≡ place_behind script [] (u.calls ++ made ∷ []) script
    unfolding place_behind
    place_then = sym (
        place_behind_more script [] u.calls (made ∷ []) script
        ∙ ap (λ p. place_of (next statement_limit script u.calls p)) (sym w.place_is)
        ∙ ap place_of (sym next_here ∙ reached.0)
        )

    used_then : at.used + r.count ≡ statements_to texts begun (u.calls ++ made ∷ [])
    used_then = ap (λ n. n + r.count) w.used_is ∙ ap (λ o. statements_to texts begun u.calls + count_of o) (sym reached.0) ∙ sym (one_more_statements texts begun u.calls made)

    bytes_then : at.bytes + call_bytes made ≡ data_bytes (u.calls ++ made ∷ [])
    bytes_then = ap (λ n. n + call_bytes made) w.bytes_are ∙ sym (sum_by-append call_bytes u.calls (made ∷ []) ∙ ap (λ n. data_bytes u.calls + n) (zero-add (call_bytes made)))

    under_way : (bytes2 steps2 : ℕ) → bytes2 ≡ at.bytes + call_bytes made → steps2 ≡ at.steps + r.count
        → IsUnderWay texts script begun before x (behind_call bytes2 steps2)
    under_way bytes2 steps2 b s = record {
      open_first = w.open_first;
      unit = unit_then ∙ ap (unit_behind begun) (sym calls_are);
      frames = framed_behind (FollowsFirst texts script) (λ f c h. h) u is_open w.frames r.command one;
      follows = subst (Follows texts begun) (sym calls_are) follows_then;
      own = subst (λ k. own_calls 0 begun k ≡ k) (sym calls_are) own_then;
      place_is = place_then ∙ ap (λ k. place_behind script [] k script) (sym calls_are);
      used_is = used_then ∙ ap (statements_to texts begun) (sym calls_are);
      bytes_are = b ∙ bytes_then ∙ ap data_bytes (sym calls_are);
      steps_are = s ∙ ap (λ n. n + r.count) w.steps_are ∙ add_assoc before at.used r.count;
    }

    pub called_so : (bytes2 steps2 : ℕ) → bytes2 ≡ at.bytes + call_bytes made → steps2 ≡ at.steps + r.count
        → IsRun texts script begun before x (behind_call bytes2 steps2)
    called_so bytes2 steps2 b s = run_by texts script begun before x (behind_call bytes2 steps2) (under_way bytes2 steps2 b s) x.end refl

-- ---- of a unit, whatever texts it follows

-- an end with as many statements as were counted
pub record EndsSo (texts : Texts) (begun u : UnitOfWork) (code : Name) (before later : ℕ) : Type 0 where
  pub executed : ℕ
  pub end : IsEnd texts begun u.calls (Abend code) executed
  pub counted : later ≡ before + executed

module _ (script : Script) (u : UnitOfWork) (at : Point) (is_open : u.end ≡ None) (has : HasFrame (λ f. Unit {0}) u.frames u.end) (x : UnitOfWork) where
  stops : (code : Name) → is_budget code ≡ true → (later : ℕ) → x ≡ abended_whole code u
      → ((texts : Texts) (begun : UnitOfWork) (before : ℕ) → IsUnderWay texts script begun before u at → EndsSo texts begun u code before later)
      → Stops script u at x later
  stops code budget later e ends =
      let s : IsStopped code u (abended_whole code u) = stopped (λ f. Unit {0}) (λ f b h. tt) u is_open has code in
      record {
        goes_on = λ texts begun before w. let so : EndsSo texts begun u code before later = ends texts begun before w in stopped_so texts script begun before u at w is_open code so.executed later budget so.end so.counted x e;
        ended = ap (λ v. is_some v.end) e ∙ ap is_some s.end_is;
        base = ap (λ v. v.base) e ∙ s.base_is;
      }

  pub by_data : data_limit < at.bytes → x ≡ abended_whole (codes "SIZE") u → Stops script u at x at.steps
  by_data much e = stops (codes "SIZE") refl at.steps e (λ texts begun before w. record {
    executed = statements_to texts begun u.calls;
    end = too_much_data texts begun u.calls (still_open texts script begun before u at w is_open) (subst (λ n. data_limit < n) w.bytes_are much);
    counted = w.steps_are ∙ ap (λ n. before + n) w.used_is;
  })

  module _ (used_fits : at.used ≤ statement_limit) (bytes_fit : at.bytes ≤ data_limit) where
    pub by_statements : (later : ℕ) → None ≡ next (statement_limit - at.used) script u.calls at.place → later ≡ at.steps + (statement_limit - at.used) → x ≡ abended_whole (codes "STEP") u
        → Stops script u at x later
    by_statements later n l e = stops (codes "STEP") refl later e (λ texts begun before w. record {
      executed = statement_limit;
      end = too_many_statements texts begun u.calls (still_open texts script begun before u at w is_open) (subst (λ k. k ≤ data_limit) w.bytes_are bytes_fit) (statement_limit - at.used)
          (ap (λ k. k + (statement_limit - at.used)) (sym w.used_is) ∙ omega arith)
          (subst (λ few. Cut (statement_limit - at.used) few (next_call texts begun u.calls)) (sym n) (cut_here texts script begun before u at w is_open (statement_limit - at.used) (omega arith)));
      counted = let k : at.steps ≡ before + at.used = w.steps_are in omega arith;
    })

    pub by_calls : (later : ℕ) (r : Reached) → Some r ≡ next (statement_limit - at.used) script u.calls at.place → later ≡ at.steps + (r.count - 1) → call_limit ≤ length u.calls → x ≡ abended_whole (codes "CMDS") u
        → Stops script u at x later
    by_calls later r n l many e = stops (codes "CMDS") refl later e (λ texts begun before w.
        let c : Cut (statement_limit - at.used) (Some r) (next_call texts begun u.calls) = subst (λ few. Cut (statement_limit - at.used) few (next_call texts begun u.calls)) (sym n) (cut_here texts script begun before u at w is_open (statement_limit - at.used) (omega arith)) in
        let most : r.count ≤ statement_limit - at.used = c.1 in
        let within : at.used + r.count ≤ statement_limit = omega arith in
        let k : at.steps ≡ before + at.used = w.steps_are in
        let all : later ≡ before + (at.used + (r.count - 1)) = omega arith in
        record {
          executed = statements_to texts begun u.calls + (r.count - 1);
          end = too_many_calls texts begun u.calls (still_open texts script begun before u at w is_open) (subst (λ k. k ≤ data_limit) w.bytes_are bytes_fit) r c.0 c.2 (subst (λ k. k + r.count ≤ statement_limit) w.used_is within) many;
          counted = all ∙ ap (λ k. before + (k + (r.count - 1))) w.used_is;
        })

  -- behind the call of the command that comes next
  pub by_call : (r : Reached) → MayCall script u at r → at.used ≤ statement_limit → is_of_one_frame (top_path u.frames) r.command ≡ true → x ≡ (call u r.command).1
      → (bytes2 steps2 : ℕ) → bytes2 ≡ at.bytes + call_bytes (call_by u r.command) → steps2 ≡ at.steps + r.count
      → GoesOn script u at x (record { place = r.place; used = at.used + r.count; bytes = bytes2; steps = steps2 })
  by_call r m fit one e bytes2 steps2 b s texts begun before w =
      subst (λ v. IsRun texts script begun before v (record { place = r.place; used = at.used + r.count; bytes = bytes2; steps = steps2 })) (sym e) (called_so texts script begun before u at w is_open r m fit one bytes2 steps2 b s)
