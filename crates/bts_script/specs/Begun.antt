-- A block of which some lines were read.
use Rattle.std.specs.Prelude.{◌≡◌, ℕ, cond, List, [], ◌∷◌, ◌++◌, Result, Ok, Err, Option, None}
use Rattle.std.specs.List.{list_any}
use Rattle.bts_names.specs.Names.{Bytes, Name, same}
use Rattle.bts_forms.specs.declared.statement.Statement.{Statement}
use Rattle.bts_forms.specs.declared.line.Place.{Place}
use Rattle.bts_script.specs.declared.blocks.Block.{Block}
use Rattle.bts_script.specs.Blocks.{Numbered, Refusal, is_skipped, statement_in, label_said, labels_by, statements, by_table}

-- whether the same names are in two lists
abbrev pub HaveSame : List Name → List Name → Type 0
HaveSame xs ys = (n : Name) → list_any (same n) xs ≡ list_any (same n) ys

-- a line in front of others, unless it is skipped
abbrev pub line_first : ℕ → Bytes → List Numbered → List Numbered
line_first n text others = cond (is_skipped text) others ((n, text) ∷ others)

-- the label that a line is
abbrev pub label_at : Place → Bytes → Option Name
label_at p text = cond (is_skipped text) None (label_said (statement_in by_table p text))

-- statements in front of those of other lines
abbrev pub put_front : List Statement → Result (List Statement) Refusal → Result (List Statement) Refusal
put_front ss (Err r) = Err r
put_front ss (Ok others) = Ok (ss ++ others)

-- what a block says with these lines behind those that were read
abbrev pub said_with : Block → List Numbered → Result (List Statement) Refusal
said_with b lines = put_front b.script (statements by_table b.place b.before.keys b.labels.keys lines)

-- a block with one statement more
pub record IsAdded (old new : Block) (s : Statement) : Type 0 where
  pub place : new.place ≡ old.place
  pub labels : new.labels.keys ≡ old.labels.keys
  pub before : HaveSame new.before.keys (old.before.keys ++ labels_by s)
  pub script : new.script ≡ old.script ++ s ∷ []
