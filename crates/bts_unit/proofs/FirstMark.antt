-- The mark at a unit's start stays where a command leaves the marks.
use Rattle.std.proofs.Common.{◌≡◌, List, [], ◌∷◌, length, Option, refl, sym, ap, ◌∙◌, subst}
use Rattle.bts_names.specs.Names.{ActivityPath}
use Rattle.bts_tree.specs.Processes.{Process}
use Rattle.bts_tree.specs.Scopes.{HeldProcess, LeavesMarks, ScopeMark, gone_back, held_whole}
use Rattle.bts_unit.specs.Frames.{is_there_at}
use Rattle.bts_unit.specs.OnWork.{IsMarkedAt}

same_back : (s t : Process) (top : ActivityPath) (a b : Option (List ActivityPath)) (ms : List ScopeMark) → length ms ≡ 1
    → gone_back 0 (record { process = t; top = top; marks = ms; saved = b })
    ≡ gone_back 0 (record { process = s; top = top; marks = ms; saved = a })
same_back s t top a b [] one = cc
same_back s t top a b (m ∷ ms) one = refl

back_from : (h k : HeldProcess) → LeavesMarks h k → length h.marks ≡ 1 → gone_back 0 k ≡ gone_back 0 h
back_from h k l one =
    (λ i. gone_back 0 (record { process = k.process; top = l.top i; marks = l.marks i; saved = k.saved }))
    ∙ same_back h.process k.process h.top h.saved k.saved h.marks one

pub still_marked : (at : Option ActivityPath) (h k : HeldProcess) → LeavesMarks h k → IsMarkedAt at h → IsMarkedAt at k
still_marked at h k l m =
    let back = back_from h k l m.one in
    record {
      one = ap length l.marks ∙ m.one;
      whole = subst (λ g. g ≡ held_whole g.process) (sym back) m.whole;
      there = ap (λ g. is_there_at at g.process) back ∙ m.there;
    }
