-- The format of a process stays, whatever commands are made.
use Rattle.std.proofs.Common.{◌≡◌, ◌&&◌, ℕ, Bool, true, false, cond, List, [], ◌∷◌, Option, Some, None, refl, ◌∙◌}
use Rattle.bts_names.specs.Answer.{left_by}
use Rattle.bts_names.specs.Names.{Name, ActivityPath, same}
use Rattle.bts_command.specs.declared.command.Command.{Command}
use Rattle.bts_tree.specs.declared.activity.Activity.{Activity}
use Rattle.bts_tree.specs.Activities.{is_complete, without_below}
use Rattle.bts_tree.specs.Processes.{Process, format_of, join, on_tree, part, purged, removed}
use Rattle.bts_rows.specs.declared.places.Held.{Held}
use Rattle.bts_rows.specs.declared.places.Here.{Here}
use Rattle.bts_rows.specs.declared.places.Here.TheVariants as here
use Rattle.bts_rows.specs.Along.{PlacedCommand, left_along, left_behind}
use Rattle.bts_rows.specs.Completions.{with_completion}
use Rattle.bts_rows.specs.OnFamily.{on_family, told}
use Rattle.bts_rows.specs.Rows.{act_at, answer, request_in, thing_row}
use Rattle.bts_rows.proofs.FamilyRows.{family_tells}
use Rattle.bts_rows.proofs.Lifting.{row_tells}
use Rattle.bts_rows.proofs.Tables.{request_tells}
use Rattle.bts_rows.proofs.Telling.{Tells, left_so, tells_mapped, tells_more}

abbrev HasFormatOf : Process → Process → Type 0
HasFormatOf s t = format_of t ≡ format_of s

-- ---- what rows leave

removed_keeps : (p : ActivityPath) (itself : Bool) (s : Process) → HasFormatOf s (removed p itself s)
removed_keeps p itself s = by (itself && same p [])
  where
    by : (b : Bool) → HasFormatOf s (cond b (purged s) (on_tree (without_below p itself) s))
    by true = refl
    by false = refl

completion_keeps : (p : ActivityPath) (o : Option Name) (s : Process) → HasFormatOf s (with_completion p o s)
completion_keeps p None s = refl
completion_keeps p (Some name) s = refl

told_keeps : (p : ActivityPath) (b : Bool) (s : Process) → HasFormatOf s (cond b (told p s) s)
told_keeps p true s = refl
told_keeps p false s = refl

family_keeps : (c : Command) (p : ActivityPath) (a : Activity) (s : Process) → Tells (λ change. HasFormatOf s (change s)) (on_family c p a s)
family_keeps c p a s =
    family_tells (λ c change. HasFormatOf s (change s)) p a s
    (record {
      defined = λ name e transid program no_child free shallow few. refl;
      deleted = λ name x e. removed_keeps x.0 true s;
      checked = λ target. told_keeps p (is_complete a) s;
      cancelled = λ target running. refl;
      reset = λ target rest r. removed_keeps p false (with_completion p a.completion s) ∙ completion_keeps p a.completion s;
    })
    c

row_keeps : (h : Here) (depth now : ℕ) (s : Process) (c : Command) → Tells (HasFormatOf s) (thing_row h depth now s c)
row_keeps h depth now s c =
    row_tells (HasFormatOf s) h s c
    (record { same = refl; activity = λ p a b e k. refl; containers = λ x t k. k.1; family = λ p a f e. family_keeps c p a s }) depth now

joined_keeps : (p : ActivityPath) (s t : Process) → HasFormatOf s t → HasFormatOf s (join p s t)
joined_keeps [] s t e = e
joined_keeps (n ∷ p) s t e = refl

act_keeps : (p : ActivityPath) (depth now : ℕ) (s : Process) (c : Command) → Tells (HasFormatOf s) (act_at p depth now s c)
act_keeps p depth now s c =
    let row = thing_row (here.Activity p) depth now (part p s) c in
    tells_mapped (λ v. HasFormatOf s) (join p s) row
    (tells_more (λ v. HasFormatOf s) (λ v t. HasFormatOf s (join p s t)) row (λ v. joined_keeps p s)
    (row_keeps (here.Activity p) depth now (part p s) c))

request_keeps : (held : Held) (depth now : ℕ) (s : Process) (c : Command) → Tells (λ x. HasFormatOf s x.0) (request_in held depth now s c)
request_keeps held depth now s c =
    request_tells (λ x. HasFormatOf s x.0) s held depth now c
    (record { planted = λ transid program a. refl; acquired = λ g a. refl; purged = refl }) (row_keeps (here.Request held) depth now s c)

answer_keeps : (h : Here) (held : Held) (depth now : ℕ) (s : Process) (c : Command)
    → Tells (λ x. HasFormatOf s x.0) (answer h held depth now s c)
unfolding answer
answer_keeps (here.Request h) held depth now s c = request_keeps h depth now s c
answer_keeps (here.Activity p) held depth now s c =
    tells_mapped (λ v x. HasFormatOf s x.0) (λ t. (t, held)) (act_at p depth now s c) (act_keeps p depth now s c)

-- ---- behind each command

pub row_format : (h : Here) (depth now : ℕ) (s : Process) (c : Command) → format_of (left_by s (thing_row h depth now s c)) ≡ format_of s
row_format h depth now s c = left_so (HasFormatOf s) s (thing_row h depth now s c) refl (row_keeps h depth now s c)

pub act_format : (p : ActivityPath) (depth now : ℕ) (s : Process) (c : Command)
    → format_of (left_by s (act_at p depth now s c)) ≡ format_of s
act_format p depth now s c = left_so (HasFormatOf s) s (act_at p depth now s c) refl (act_keeps p depth now s c)

pub request_format : (held : Held) (depth now : ℕ) (s : Process) (c : Command)
    → format_of (left_by (s, held) (request_in held depth now s c)).0 ≡ format_of s
request_format held depth now s c =
    left_so (λ x. HasFormatOf s x.0) (s, held) (request_in held depth now s c) refl (request_keeps held depth now s c)

pub answer_format : (h : Here) (held : Held) (depth now : ℕ) (s : Process) (c : Command)
    → format_of (left_by (s, held) (answer h held depth now s c)).0 ≡ format_of s
answer_format h held depth now s c =
    left_so (λ x. HasFormatOf s x.0) (s, held) (answer h held depth now s c) refl (answer_keeps h held depth now s c)

pub along_format : (cs : List PlacedCommand) (s : Process) → format_of (left_along cs s) ≡ format_of s
along_format [] s = refl
along_format (c ∷ cs) s = along_format cs (left_behind c s) ∙ answer_format c.here c.held c.depth c.now s c.command
