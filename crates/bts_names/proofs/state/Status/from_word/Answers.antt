use Rattle.std.proofs.Common.{◌∙◌, rules, tests}
use Rattle.std.proofs.lemmas.Iterator.{YieldsList-from_slice}
use Rattle.std.proofs.lemmas.Iterator.Search.{find_from_yields_List}
use Rattle.std.specs.Str.{bytes_eq}
use Rattle.bts_names.specs.Vocabulary.{status_word, statuses}
use Rattle.bts_names.proofs.state.Status.from_word.Goals as goal

pub returns : goal.returns
returns c =
    c.copied.ensures
    ∙ find_from_yields_List (λ x. bytes_eq (status_word x) c.args.bytes.now) _ _ _ c.find.ensures.ran (YieldsList-from_slice statuses cc) (λ x b q k. search (rules, tests))
