-- What lines and blocks say holds statements of today alone.
use Rattle.std.proofs.Common.{◌≡◌, List, [], ◌∷◌, subst, sym, Option, Result}
use Rattle.std.specs.Prelude.{IfOk}
use Rattle.std.specs.List.{AllByRecursion}
use Rattle.bts_names.specs.Names.{Bytes}
use Rattle.bts_forms.specs.declared.line.Line.{Line}
use Rattle.bts_forms.specs.declared.line.Word.{Word}
use Rattle.bts_forms.specs.declared.line.Place.{Place}
use Rattle.bts_forms.specs.Texts.{without_spaces}
use Rattle.bts_forms.specs.Today.{IsLineOfToday, IsOfToday}
use Rattle.bts_forms.proofs.AllForms.{all_of_today}
use Rattle.bts_script.specs.Blocks.{Numbered, by_table, line_in, script_of}
use Rattle.bts_script.proofs.Kept.{SaysSuch, line_holds, script_holds}

pub line_today : (at : Option Place) (text : Bytes) → IfOk (line_in by_table at text) IsLineOfToday
line_today at text = line_holds IsLineOfToday at text (all_of_today (without_spaces text))

pub line_read : (at : Option Place) (text : Bytes) (said : Result Line Word) → said ≡ line_in by_table at text → IfOk said IsLineOfToday
line_read at text said e = let P : Result Line Word → Type 0 = λ r. IfOk r IsLineOfToday in subst P (sym e) (line_today at text)

pub lines_today : (lines : List Numbered) → AllByRecursion (SaysSuch IsLineOfToday) lines
lines_today [] = tt
lines_today (l ∷ ls) = (λ at. line_today at l.1, lines_today ls)

pub script_today : (p : Place) (lines : List Numbered) → IfOk (script_of by_table p lines) (AllByRecursion IsOfToday)
script_today p lines = script_holds IsLineOfToday p lines (lines_today lines)
