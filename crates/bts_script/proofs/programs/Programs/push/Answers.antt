use Rattle.std.proofs.Common.{◌≡◌, ◌∙◌, ◌∷◌, ◌++◌, [], false, Option, Some, None, refl}
use Rattle.std.specs.Prelude.{is_some}
use Rattle.indexmap.proofs.CallerLemmas.{insert_entry-new}
use Rattle.bts_names.specs.Names.{same}
use Rattle.bts_names.specs.Named.{is_there, lookup}
use Rattle.bts_script.proofs.programs.Programs.push.Goals as goal

none_there : {X : Type 0} (found : Option X) → is_some found ≡ false → found ≡ None
none_there None h = refl
none_there (Some x) h = cc

pub returns-clause-ok : goal.returns-clause-ok
returns-clause-ok c =
    let map = c.self.inside.map in
    let new : is_there c.args.name map.entries ≡ false = rw c.self.view_is c.requires in
    let last : c.insert.new.self.entries ≡ map.entries ++ (c.args.name, c.args.script) ∷ [] =
    c.in_ok-insert.ensures.entries ∙ insert_entry-new same map c.args.name c.args.script (none_there (lookup c.args.name map.entries) new) in
    rw (← c.self.view_is) last
