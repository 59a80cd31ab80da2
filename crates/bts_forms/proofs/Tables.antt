-- Tables of forms, one behind the other.
use Rattle.std.proofs.Common.{◌≡◌, Bool, List, [], ◌∷◌, ◌++◌, refl, ap, ◌∙◌, Option, Some, None, Result}
use Rattle.bts_names.specs.Names.{Bytes}
use Rattle.bts_forms.specs.declared.line.Line.{Line}
use Rattle.bts_forms.specs.declared.line.Setting.{Setting}
use Rattle.bts_forms.specs.declared.line.Word.{Word}
use Rattle.bts_forms.specs.Arguments.{or_else}
use Rattle.bts_forms.specs.Forms.{Form, Saying, forms, form_of, or_next, session_forms, script_forms, process_forms, activity_forms, container_forms, early_event_forms, late_event_forms, timer_forms, ending_forms}

next_of : (at : Setting) (passes : Bool) (said : Option (Result Line Word)) (some others : Option Saying) → or_next at passes (or_else some others) said ≡ or_else (or_next at passes some said) others
next_of at passes None some others = refl
next_of at passes (Some x) some others = refl

pub form_of_both : (first second : List Form) (line : Bytes) → form_of (first ++ second) line ≡ or_else (form_of first line) (form_of second line)
form_of_both [] second line = refl
form_of_both (f ∷ fs) second line = rw (form_of_both fs second line) (next_of f.belongs (f.lets_through line) (f.reads line) (form_of fs line) (form_of second line))

-- the whole table, part by part
pub forms_read : (line : Bytes) → form_of forms line
    ≡ or_else (or_else (or_else (or_else (or_else (or_else (or_else (or_else (form_of session_forms line) (form_of script_forms line)) (form_of process_forms line)) (form_of activity_forms line)) (form_of container_forms line)) (form_of early_event_forms line)) (form_of late_event_forms line)) (form_of timer_forms line)) (form_of ending_forms line)
forms_read line =
    let a : List Form = session_forms ++ script_forms in
    let b : List Form = a ++ process_forms in
    let d : List Form = b ++ activity_forms in
    let e : List Form = d ++ container_forms in
    let f : List Form = e ++ early_event_forms in
    let g : List Form = f ++ late_event_forms in
    let h : List Form = g ++ timer_forms in
    form_of_both h ending_forms line
    ∙ ap (λ x. or_else x (form_of ending_forms line)) (form_of_both g timer_forms line
    ∙ ap (λ x. or_else x (form_of timer_forms line)) (form_of_both f late_event_forms line
    ∙ ap (λ x. or_else x (form_of late_event_forms line)) (form_of_both e early_event_forms line
    ∙ ap (λ x. or_else x (form_of early_event_forms line)) (form_of_both d container_forms line
    ∙ ap (λ x. or_else x (form_of container_forms line)) (form_of_both b activity_forms line
    ∙ ap (λ x. or_else x (form_of activity_forms line)) (form_of_both a process_forms line
    ∙ ap (λ x. or_else x (form_of process_forms line)) (form_of_both session_forms script_forms line)))))))
