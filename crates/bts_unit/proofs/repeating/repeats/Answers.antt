use Rattle.std.proofs.Common.{◌≡◌, Bool, true, false, not, List, [], Option, is_some, sym, ap, ◌∙◌}
use Rattle.bts_unit.specs.Calls.{call}
use Rattle.bts_unit.specs.Frames.{OpenFrame, top_frame}
use Rattle.bts_unit.specs.declared.frame.Frame.{Frame}
use Rattle.bts_unit.proofs.Callable.{IsCallable}
use Rattle.bts_unit.proofs.Repeated.{asked, ended_call, made_where_same, no_frames, one_behind, one_reply, same_where_made, some_calls}
use Rattle.bts_unit.proofs.repeating.repeats.Goals as goal

pub returns-then-is_none-clause-behind : goal.returns-then-is_none-clause-behind
returns-then-is_none-clause-behind c =
    sym (one_behind c.args.unit.now c.args.call.now ∙ ended_call c.args.unit.now c.args.call.now.command (no_frames c.args.unit.now.frames (sym (ap is_some c.frame.ensures.top) ∙ c.is_none.ensures ∙ ap not c.if-is_none.true)))

-- the frame is open
open_by : (fs : List OpenFrame) (top : Option Frame) (none : Bool) → top ≡ top_frame fs → is_some top ≡ not none → none ≡ false → is_some (top_frame fs) ≡ true
open_by fs top none is some none_is = sym (ap is_some is) ∙ some ∙ ap not none_is

callable : (c : goal.After-call-arg-1) → IsCallable c.args.unit.now c.args.call.now.command
callable c =
    asked c.args.unit.now c.args.call.now [] c.requires (open_by c.args.unit.now.frames c.frame.result c.is_none.result c.frame.ensures.top c.is_none.ensures c.if-is_none.false)
    (sym c.frame.ensures.open ∙ c.is_none.ensures ∙ ap not c.if-is_none.false)

pub call-requires-clause-there : goal.call-requires-clause-there
call-requires-clause-there c = (callable c).there

pub call-requires-clause-late : goal.call-requires-clause-late
call-requires-clause-late c = (callable c).late

pub call-requires-clause-numbers : goal.call-requires-clause-numbers
call-requires-clause-numbers c = (callable c).numbers

pub last_reply-requires : goal.last_reply-requires
last_reply-requires c = some_calls c.args.unit.now c.args.call.now (open_by c.args.unit.now.frames c.frame.result c.is_none.result c.frame.ensures.top c.is_none.ensures c.if-is_none.false) c.call.new.self c.in_ok-command.command c.in_ok-command.ensures c.requires.fits c.in_ok-call.ensures.ok

pub returns-clause-behind : goal.returns-clause-behind
returns-clause-behind c = c.in_ok-call.ensures.ok ∙ ap (λ k. (call c.args.unit.now k).1) c.in_ok-command.ensures ∙ sym (one_behind c.args.unit.now c.args.call.now)

pub returns-clause-same : goal.returns-clause-same
returns-clause-same c =
    let reply = one_reply c.args.unit.now c.args.call.now (open_by c.args.unit.now.frames c.frame.result c.is_none.result c.frame.ensures.top c.is_none.ensures c.if-is_none.false) c.call.new.self c.in_ok-command.command c.in_ok-command.ensures c.requires.fits c.in_ok-call.ensures.ok c.last_reply.result.now c.last_reply.ensures in (
      λ h. made_where_same c.args.unit.now c.args.call.now (open_by c.args.unit.now.frames c.frame.result c.is_none.result c.frame.ensures.top c.is_none.ensures c.if-is_none.false) (sym reply ∙ c.is_same.ensures.0 h),
      λ h. c.is_same.ensures.1 (reply ∙ same_where_made c.args.unit.now c.args.call.now (open_by c.args.unit.now.frames c.frame.result c.is_none.result c.frame.ensures.top c.is_none.ensures c.if-is_none.false) h),
    )
