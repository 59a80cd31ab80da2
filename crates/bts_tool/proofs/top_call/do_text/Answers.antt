use Rattle.std.proofs.Common.{rules, ◌≡◌, ◌<◌, ◌^◌, length, Ok, arith}
use Rattle.bts_session.specs.Sessions.{session_of}
use Rattle.bts_tool.proofs.Counted.{items_fit}
use Rattle.bts_tool.proofs.top_call.do_text.Goals as goal

pub do_session-requires-clause-small : goal.do_session-requires-clause-small
do_session-requires-clause-small c =
    let said : session_of c.args.text.now ≡ Ok c.in-Ok.session = search rules in
    let few : length c.in-Ok.session.items < 2 ^ 31 = items_fit c.args.text.now c.in-Ok.session said in
    record { units = omega (arith, c.requires); items = omega arith }
