-- The texts allow one list of calls and one end.
use borrow.Author.Tests.{tests}
use Rattle.std.proofs.Common.{rules, ◌≡◌, ℕ, ◌+◌, ◌≤◌, false, cond, nat_lt, nat_le, List, [], ◌∷◌, ◌++◌, length, length-append, Option, None, Some, codes, unwrap_or, refl, sym, ap, ◌∙◌, subst, arith}
use Rattle.std.specs.Option.{option_map}
use Rattle.std.proofs.lemmas.List.{append-nil, append_assoc}
use Rattle.std.proofs.lemmas.Option.{none-some}
use Rattle.bts_names.specs.declared.reply.Reply.{Reply}
use Rattle.bts_command.specs.declared.command.Call.{Call}
use Rattle.bts_command.specs.declared.command.Command.{Command}
use Rattle.bts_command.specs.declared.ended.End.{End}
use Rattle.bts_command.specs.declared.ended.End.TheVariants.{Abend}
use Rattle.bts_unit.specs.Calls.{call, commands_of, unit_behind}
use Rattle.bts_unit.specs.Frames.{OpenFrame, UnitOfWork}
use Rattle.bts_command.specs.Sizes.{data_bytes}
use Rattle.bts_interp.specs.Budgets.{call_limit, count_of, data_limit, due_end, end_before, end_by, end_of_open, statements_to, statements_with}
use Rattle.bts_interp.specs.NextCalls.{next_call, next_in}
use Rattle.bts_interp.specs.Steps.{Reached, statement_limit}
use Rattle.bts_interp.specs.Talks.{Follows, IsTalk, next_command}
use Rattle.bts_interp.specs.Texts.{Texts}
use Rattle.bts_interp.proofs.Behind.{statements_to_more}
use Rattle.bts_interp.proofs.Following.{HasRoom, each_at}
use Rattle.bts_unit.specs.Replays.{Fits, IsFit}
use Rattle.bts_unit.proofs.Opening.{fit_behind_all, reply_given}

-- ---- where there is room for one more, no end is due

none_due : (used made bytes count : ℕ) → HasRoom used made bytes count
    → cond (nat_lt data_limit bytes) (Some (Abend (codes "SIZE"))) (cond (nat_lt statement_limit (used + count)) (Some (Abend (codes "STEP"))) (cond (nat_le call_limit made) (Some (Abend (codes "CMDS"))) None)) ≡ None
none_due used made bytes count room =
    let much : nat_lt data_limit bytes ≡ false = search (rules, tests, room.bytes_left) in
    let over : nat_lt statement_limit (used + count) ≡ false = search (rules, tests, room.statements_left) in
    let many : nat_le call_limit made ≡ false = search (rules, tests, room.calls_left) in
    rw (much, over, many) refl

module _ (texts : Texts) (u : UnitOfWork) (fit : IsFit u) where
  open_in : (p : List Call) (now : UnitOfWork) (r : Reached) (fs : List OpenFrame) → Fits fs now.end → next_in texts u p fs ≡ Some r → now.end ≡ None
  open_in p now r [] f n = absurd (none-some r n)
  open_in p now r (g ∷ gs) f n = f

  is_open : (p : List Call) (r : Reached) → next_call texts u p ≡ Some r → (unit_behind u p).end ≡ None
  unfolding next_call unit_behind
  is_open p r n = open_in p (unit_behind u p) r (unit_behind u p).frames (fit_behind_all u (commands_of p) fit) n

  room_where : (p : List Call) (d : Call) (ds : List Call) (r : Reached) → Follows texts u (p ++ d ∷ ds) → next_call texts u p ≡ Some r
      → HasRoom (statements_to texts u p) (length p) (data_bytes p) r.count
  unfolding statements_with
  room_where p d ds r f n =
      let used : statements_to texts u (p ++ d ∷ ds) ≡ statements_to texts u p + (count_of (next_call texts u p) + statements_with texts u (p ++ d ∷ []) ds) = statements_to_more texts u p (d ∷ ds) in
      let count : count_of (next_call texts u p) ≡ r.count = ap count_of n in
      let many : length (p ++ d ∷ ds) ≡ length p + length (d ∷ ds) = length-append p (d ∷ ds) in
      record {
        bytes_left = each_at (λ q o. data_bytes q ≤ data_limit) p d ds f.bytes;
        calls_left = omega (arith, many, f.count);
        statements_left = omega (arith, used, count, f.statements);
      }

  pub not_due_at : (p : List Call) (r : Reached) → next_call texts u p ≡ Some r → HasRoom (statements_to texts u p) (length p) (data_bytes p) r.count → due_end texts u p ≡ None
  unfolding due_end
  not_due_at p r n room =
      ap (λ e. end_by e (end_of_open texts u p)) (is_open p r n)
      ∙ ap (λ o. cond (nat_lt data_limit (data_bytes p)) (Some (Abend (codes "SIZE"))) (end_before (statements_to texts u p) (length p) o)) n
      ∙ none_due (statements_to texts u p) (length p) (data_bytes p) r.count room

  not_due_by : (p : List Call) (d : Call) (ds : List Call) (o : Option Reached) → Follows texts u (p ++ d ∷ ds) → next_call texts u p ≡ o → option_map (λ r. r.command) o ≡ Some d.command → due_end texts u p ≡ None
  not_due_by p d ds None f n c = absurd (none-some _ c)
  not_due_by p d ds (Some r) f n c = not_due_at p r n (room_where p d ds r f n)

  next_is : (p : List Call) (d : Call) (ds : List Call) → Follows texts u (p ++ d ∷ ds) → next_command texts u p ≡ Some d.command
  next_is p d ds f = each_at (λ q o. next_command texts u q ≡ option_map (λ y. y.command) o) p d ds f.commands

  -- where a call follows, no end was due
  not_due : (p : List Call) (d : Call) (ds : List Call) → Follows texts u (p ++ d ∷ ds) → due_end texts u p ≡ None
  not_due p d ds f = not_due_by p d ds (next_call texts u p) f refl (next_is p d ds f)

-- ---- two talks are one

abbrev with_reply : Reply → Command → Call
with_reply x y = record { command = y; reply = x }

same_call : (c d : Call) → c.command ≡ d.command → c.reply ≡ d.reply → c ≡ d
same_call c d k r = ap (with_reply c.reply) k ∙ ap (λ x. with_reply x d.command) r

module _ (texts : Texts) (u : UnitOfWork) (fit : IsFit u) (fresh : u.calls ≡ []) (e f : End) where
  -- the calls are those that the unit made
  abbrev IsReplayed : List Call → Type 0
  IsReplayed calls = (unit_behind u calls).calls ≡ calls

  -- no call follows behind the end
  ends_there : (p : List Call) (c : Call) (cs : List Call) (a b : List Call) → a ≡ p ++ c ∷ cs → b ≡ p ++ [] → Follows texts u a → due_end texts u b ≡ Some f → ⊥
  ends_there p c cs a b g h s t =
      none-some f (sym (not_due texts u fit p c cs (subst (Follows texts u) g s)) ∙ ap (due_end texts u) (sym (h ∙ append-nil p)) ∙ t)

  same_next : (p : List Call) (c d : Call) (cs ds : List Call) (a b : List Call) → a ≡ p ++ c ∷ cs → b ≡ p ++ d ∷ ds
      → Follows texts u a → Follows texts u b → IsReplayed a → IsReplayed b → c ≡ d
  same_next p c d cs ds a b g h s t x y =
      let k : c.command ≡ d.command = ap (λ o. unwrap_or o c.command) (sym (next_is texts u fit p c cs (subst (Follows texts u) g s)) ∙ next_is texts u fit p d ds (subst (Follows texts u) h t)) in
      let q : c.reply ≡ (call (unit_behind u p) c.command).0 = reply_given u p c cs fit fresh (subst IsReplayed g x) in
      let r : d.reply ≡ (call (unit_behind u p) d.command).0 = reply_given u p d ds fit fresh (subst IsReplayed h y) in
      same_call c d k (q ∙ ap (λ z. (call (unit_behind u p) z).0) k ∙ sym r)

  agree_behind : (cs ds p a b : List Call) → a ≡ p ++ cs → b ≡ p ++ ds → IsTalk texts u a e → IsTalk texts u b f → IsReplayed a → IsReplayed b → a ≡ b
  agree_behind [] [] p a b g h s t x y = g ∙ sym h
  agree_behind (c ∷ cs) [] p a b g h s t x y = absurd (ends_there p c cs a b g h s.follows t.end)
  agree_behind [] (d ∷ ds) p a b g h s t x y = absurd (none-some e (sym (not_due texts u fit p d ds (subst (Follows texts u) h t.follows)) ∙ ap (due_end texts u) (sym (g ∙ append-nil p)) ∙ s.end))
  agree_behind (c ∷ cs) (d ∷ ds) p a b g h s t x y =
      let k : c ≡ d = same_next p c d cs ds a b g h s.follows t.follows x y in
      agree_behind cs ds (p ++ c ∷ []) a b
      (g ∙ sym (append_assoc p (c ∷ []) cs))
      (h ∙ ap (λ z. p ++ z ∷ ds) (sym k) ∙ sym (append_assoc p (c ∷ []) ds))
      s t x y

  pub talks_agree : (a b : List Call) → IsTalk texts u a e → IsTalk texts u b f → IsReplayed a → IsReplayed b → (a ≡ b) × (e ≡ f)
  talks_agree a b s t x y =
      let k : a ≡ b = agree_behind a b [] a b refl refl s t x y in
      (k, ap (λ o. unwrap_or o e) (sym s.end ∙ ap (due_end texts u) k ∙ t.end))
