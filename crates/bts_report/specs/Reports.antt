-- The texts of reports and lists, line by line.
use Rattle.std.specs.Prelude.{ℕ, List, [], ◌∷◌, ◌++◌}
use Rattle.std.specs.List.{flat_map, enumerate_from, join_with_byte}
use Rattle.std.specs.Fmt.{decimal}
use Rattle.bts_names.specs.Names.{Bytes}
use Rattle.bts_names.specs.declared.row.Row.{Row}
use Rattle.bts_command.specs.declared.command.Call.{Call}
use Rattle.bts_command.specs.declared.ended.Ended.{Ended}
use Rattle.bts_timer.specs.Moments.{moment_text}
use Rattle.bts_report.specs.Words.{command_words, reply_words, unit_words, end_words, row_words}

-- words divided by single spaces
abbrev pub divided : List Bytes → Bytes
divided = join_with_byte 32

-- words, each behind a space
abbrev pub spaced : List Bytes → Bytes
spaced words = flat_map (λ word. 32 ∷ word) words

-- words as a line, and the same behind two spaces
abbrev pub line : List Bytes → Bytes
line words = divided words ++ 10 ∷ []

abbrev pub inner_line : List Bytes → Bytes
inner_line words = 32 ∷ 32 ∷ line words

unfoldable pub call_line : Call → Bytes
call_line c = inner_line (command_words c.command ++ reply_words c.reply)

-- the unit at a place, from 1
unfoldable pub unit_line : ℕ → Ended → Bytes
unit_line n e = line (decimal n ∷ unit_words e.unit ++ moment_text e.moment ∷ end_words e.end)

-- a row that a unit found, and one of a list
unfoldable pub row_line : Row → Bytes
row_line r = inner_line (row_words r)

unfoldable pub list_line : Row → Bytes
list_line r = line (row_words r)

-- a line for the unit, and behind it one for each call and row
unfoldable pub unit_text : ℕ × Ended → Bytes
unit_text x = unit_line x.0 x.1 ++ flat_map call_line x.1.calls ++ flat_map row_line x.1.rows

-- the units of a history at their places
abbrev pub report : List Ended → Bytes
report history = flat_map unit_text (enumerate_from 1 history)

-- a line for each row
abbrev pub list_text : List Row → Bytes
list_text rows = flat_map list_line rows
