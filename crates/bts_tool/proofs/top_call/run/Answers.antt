use Rattle.std.proofs.Common.{◌≡◌, rules, subst, Some, map, string_bytes}
use Rattle.bts_names.specs.Names.{Bytes}
use Rattle.bts_tool.specs.Causes.{MeetsText}
use Rattle.bts_tool.specs.Words.{limit_of}
use Rattle.bts_tool.proofs.Told.{Reads, meets}
use Rattle.bts_tool.proofs.top_call.run.Goals as goal

pub returns-in-Ok-clause-met : goal.returns-in-Ok-clause-met
returns-in-Ok-clause-met g c =
    let left = g.S.Source.left in
    let reads : Reads (left c.args.source.now) (left c.read_all.new.source) c.in-Ok.text
    = record { most = c.in-Ok.ensures.bound; taken = c.in-Ok.ensures.ok; end = c.in-Ok.ensures.end } in
    let met : MeetsText c.in-Ok.text c.in-Some.limit c.do_text.result = subst (λ (b : Bytes). MeetsText b c.in-Some.limit c.do_text.result) c.as_slice.ensures c.do_text.ensures in
    let allowed : limit_of (map string_bytes c.args.words.now) ≡ Some c.in-Some.limit = search rules in
    meets _ c.in-Some.limit _ _ c.in-Ok.text _ _ c.do_text.result allowed reads met
