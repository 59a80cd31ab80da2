-- Histories of small sessions: the serial one, one that is legal in another order, and one that leaves a command out.
use Rattle.std.proofs.Common.{◌≡◌, ℕ, zero, suc, ◌<◌, false, List, [], ◌∷◌, Some, None, codes, refl, lit≤, arith}
use Rattle.bts_names.specs.Names.{Name}
use Rattle.bts_names.specs.declared.key.Key.{Key}
use Rattle.bts_names.specs.declared.reply.Reply.{Reply}
use Rattle.bts_command.specs.declared.command.Call.{Call}
use Rattle.bts_command.specs.declared.command.Command.{Command}
use Rattle.bts_command.specs.declared.command.Command.TheVariants as command
use Rattle.bts_command.specs.declared.command.Target.TheVariants as target
use Rattle.bts_command.specs.declared.ended.End.TheVariants.{Commit, Abend}
use Rattle.bts_command.specs.declared.ended.Ended.{Ended}
use Rattle.bts_command.specs.declared.ended.UnitKind.TheVariants as unit
use Rattle.bts_event.specs.Pool.{settled}
use Rattle.bts_rows.specs.RequestRows.{request_row}
use Rattle.bts_rows.specs.Rows.{answer, thing_row}
use Rattle.bts_rows.specs.OnActivity.{on_activity}
use Rattle.bts_rows.specs.OnContainers.{on_containers, on_shown}
use Rattle.bts_rows.specs.OnFamily.{on_family}
use Rattle.bts_forms.specs.declared.statement.Statement.TheVariants as statement
use Rattle.bts_session.specs.declared.session.Item.TheVariants as item
use Rattle.bts_session.specs.declared.session.Session.{Session}
use Rattle.bts_unit.specs.Calls as calls
use Rattle.bts_unit.specs.Calls.{call, called_in, unit_behind}
use Rattle.bts_unit.specs.Standings.{moved, retrieving}
use Rattle.bts_interp.specs.Budgets.{due_end, statements_with}
use Rattle.bts_interp.specs.NextCalls.{next_call, own_calls}
use Rattle.bts_interp.specs.Steps.{next, place_behind}
use Rattle.bts_region.specs.Enabled.{works}
use Rattle.bts_region.specs.Histories.{IsLegal, IsNext}
use Rattle.bts_region.specs.Positions.{origin}
use Rattle.bts_region.specs.Serial.{IsLeast, IsSerial}
use Rattle.bts_worked.proofs.Tables.{ok}

-- ---- what holds of each number below another

abbrev AllBelow : ℕ → (ℕ → Type 0) → Type 0
AllBelow zero P = Unit {0}
AllBelow (suc n) P = P 0 × AllBelow n (λ i. P (suc i))

each : (n : ℕ) (P : ℕ → Type 0) → AllBelow n P → (i : ℕ) → i < n → P i
each zero P all i h = absurd (omega arith)
each (suc n) P all zero h = all.0
each (suc n) P all (suc i) h = each n (λ j. P (suc j)) all.1 i (omega arith)

-- ---- the serial history

abbrev pub p19 : Key
p19 = record { ptype = codes "ORDERS"; pname = codes "P19" }

abbrev define : Command
define = command.DefineProcess (codes "ORD1") (codes "NONE")

abbrev run : Command
run = command.Run target.AcqProcess false None

abbrev pub return : Command
return = command.Return false

infix 6 ◌gives◌
abbrev pub ◌gives◌ : Command → Reply → Call
c gives r = record { command = c; reply = r }

-- a request
abbrev pub lacking : Session
lacking = record { programs = []; items = item.Request p19 (statement.Command define ∷ statement.Command run ∷ []) ∷ [] }

-- and what comes of it, since the session lacks the program of its activity
abbrev pub request : Ended
request = record { unit = unit.Request 1 p19; moment = 0; end = Commit; calls = (define gives ok) ∷ (run gives ok) ∷ (return gives ok) ∷ []; rows = []; seq = 1 }

abbrev pub activation : Ended
activation = record { unit = unit.Activation p19 []; moment = 0; end = Abend (codes "NOPG"); calls = (command.Abend (codes "NOPG") gives ok) ∷ []; rows = []; seq = 2 }

serial : IsSerial lacking origin 1 (request ∷ activation ∷ [])
unfolding next place_behind answer thing_row request_row on_activity on_containers on_shown on_family settled called_in call calls.run moved retrieving works own_calls next_call statements_with due_end unit_behind
serial =
    record {
      in_order = record {
        legal = (
          record {
            enabled = refl;
            item = refl;
            plays = record { enabled = refl; given = record { calls = refl; end = refl } };
            text = record { follows = record { commands = each 3 _ (refl, (refl, (refl, tt))); statements = lit≤ tt; count = lit≤ tt; bytes = each 3 _ (lit≤ tt, (lit≤ tt, (lit≤ tt, tt))) }; end = refl };
            number = refl;
            later = lit≤ tt;
            clock = lit≤ tt;
            rows = refl;
          },
          (
            record {
              enabled = refl;
              item = refl;
              plays = record { enabled = refl; given = record { calls = refl; end = refl } };
              text = record { follows = record { commands = each 1 _ (refl, tt); statements = lit≤ tt; count = lit≤ tt; bytes = each 1 _ (lit≤ tt, tt) }; end = refl };
              number = refl;
              later = lit≤ tt;
              clock = lit≤ tt;
              rows = refl;
            },
            tt,
          ),
        );
        clocked = (refl, (refl, tt));
        least = (refl, (refl, tt));
        limited = lit≤ tt;
      };
      over = refl;
    }

-- ---- another order

abbrev pub key_of : Name → Key
key_of name = record { ptype = codes "ORDERS"; pname = name }

-- two requests of different keys, each without a command
abbrev pub two : Session
two = record { programs = []; items = item.Request (key_of (codes "P1")) [] ∷ item.Request (key_of (codes "P2")) [] ∷ [] }

abbrev pub empty_request : ℕ → Key → ℕ → Ended
empty_request n key seq = record { unit = unit.Request n key; moment = 0; end = Commit; calls = (return gives ok) ∷ []; rows = []; seq = seq }

abbrev pub second_first : List Ended
second_first = empty_request 2 (key_of (codes "P2")) 1 ∷ empty_request 1 (key_of (codes "P1")) 2 ∷ []

second_is_next : IsNext two origin (empty_request 2 (key_of (codes "P2")) 1)
unfolding next place_behind answer thing_row request_row on_activity on_containers on_shown on_family settled called_in call calls.run moved retrieving works own_calls next_call statements_with due_end unit_behind
second_is_next =
    record {
      enabled = refl;
      item = refl;
      plays = record { enabled = refl; given = record { calls = refl; end = refl } };
      text = record { follows = record { commands = each 1 _ (refl, tt); statements = lit≤ tt; count = lit≤ tt; bytes = each 1 _ (lit≤ tt, tt) }; end = refl };
      number = refl;
      later = lit≤ tt;
      clock = lit≤ tt;
      rows = refl;
    }

-- the second one may come first
legal : IsLegal two origin second_first
unfolding next place_behind answer thing_row request_row on_activity on_containers on_shown on_family settled called_in call calls.run moved retrieving works own_calls next_call statements_with due_end unit_behind
legal = (
  second_is_next,
  (
    record {
      enabled = refl;
      item = refl;
      plays = record { enabled = refl; given = record { calls = refl; end = refl } };
      text = record { follows = record { commands = each 1 _ (refl, tt); statements = lit≤ tt; count = lit≤ tt; bytes = each 1 _ (lit≤ tt, tt) }; end = refl };
      number = refl;
      later = lit≤ tt;
      clock = lit≤ tt;
      rows = refl;
    },
    tt,
  ),
)

-- but not in the serial history
not_least : IsLeast two origin second_first → ⊥
unfolding next place_behind answer thing_row request_row on_activity on_containers on_shown on_family settled called_in call calls.run moved retrieving works own_calls next_call statements_with due_end unit_behind
not_least l = let e : Some (unit.Request 1 (key_of (codes "P1"))) ≡ Some (unit.Request 2 (key_of (codes "P2"))) = l.0 in cc

-- ---- a command that is left out

-- a RETURN in place of the rest of a block, with the right reply
abbrev cut_short : Ended
cut_short = record request { calls = (return gives ok) ∷ [] }

not_the_text : IsNext lacking origin cut_short → ⊥
unfolding next place_behind answer thing_row request_row on_activity on_containers on_shown on_family settled called_in call calls.run moved retrieving works own_calls next_call statements_with due_end unit_behind
not_the_text n = let e : Some define ≡ Some return = n.text.follows.commands 0 (lit≤ tt) in cc
