use Rattle.std.proofs.Common.{sym, subst, Err}
use Rattle.bts_tool.specs.declared.cause.Cause.{Cause}
use Rattle.bts_tool.specs.Causes.{Tells, tail_line}
use Rattle.bts_tool.proofs.top_call.tell_cause.Goals as goal

pub returns-in-WordsRefused-clause-told : goal.returns-in-WordsRefused-clause-told
unfolding tail_line
returns-in-WordsRefused-clause-told g c =
    subst (λ (why : Cause). Tells (Err why) c.tell.result.status c.tell.result.history (g.K.Sink.held c.args.sink.now) (g.K.Sink.held c.tell.new.sink)) (sym c.in-WordsRefused.is)
    (record { history = c.tell.ensures.history; text = c.tell.ensures.told })

pub returns-in-SourceFault-clause-told : goal.returns-in-SourceFault-clause-told
unfolding tail_line
returns-in-SourceFault-clause-told g c =
    subst (λ (why : Cause). Tells (Err why) c.tell-in-SourceFault.result.status c.tell-in-SourceFault.result.history (g.K.Sink.held c.args.sink.now) (g.K.Sink.held c.tell-in-SourceFault.new.sink)) (sym c.in-SourceFault.is)
    (record { history = c.tell-in-SourceFault.ensures.history; text = c.tell-in-SourceFault.ensures.told })
