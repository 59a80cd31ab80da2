-- What a command leaves is as sound as what its row leaves.
use Rattle.std.proofs.Common.{Option, Some, None, IfSome, Result, Ok, Err, subst, sym}
use Rattle.std.specs.List.Sorted.{IsStrictlySortedBy}
use Rattle.std.specs.Map.{keys_of}
use Rattle.std.specs.Ordering.{nat_cmp}
use Rattle.std.specs.Cmp.Lexicographic.{slice_cmp}
use Rattle.bts_names.specs.Answer.{Answer, left_by}
use Rattle.bts_names.specs.declared.reply.Reply.{Reply}
use Rattle.bts_names.specs.declared.memory.NoMemory.{NoMemory}
use Rattle.bts_tree.specs.Activities.{Activities}
use Rattle.bts_rows.proofs.Edits.{HasOrder}
use Rattle.bts_act.specs.Does.{Does}

pub order_of : (o : Option Activities) → IfSome o (λ t. IsStrictlySortedBy (slice_cmp nat_cmp) (keys_of t)) → HasOrder o
order_of None h = tt
order_of (Some t) h = h

pub keeps : {A : Type 0} (P : A → Type 0) (r : Result Reply NoMemory) (old new : A) (x : Answer A) → Does r old new x → P (left_by old x) → P old → P new
keeps P (Ok reply) old new x d after before = subst P (sym d.1) after
keeps P (Err none) old new x d after before = subst P (sym d.1) before
