-- When bytes, replies and ends are the same.
use Rattle.std.proofs.Common.{◌≡◌, nat_eq, refl, ap}
use Rattle.std.specs.Bool.{Decides, one_answer}
use Rattle.std.specs.Cmp.{booleans_Decides}
use Rattle.std.specs.Cmp.Lexicographic.{pointwise}
use Rattle.std.proofs.lemmas.Bool.Decides.{Decides-and, Decides-eqb, Decides-like}
use Rattle.std.proofs.lemmas.Slice.Eq.{slice_eq-Decides}
use Rattle.bts_names.specs.Names.{Bytes, same}
use Rattle.bts_names.proofs.Sameness.{same_where_equal}
use Rattle.bts_names.specs.contracts.reply.LeavingPartialEq.TheImpl as leaving_eq
use Rattle.bts_names.specs.contracts.reply.ReasonPartialEq.TheImpl as reason_eq
use Rattle.bts_names.specs.contracts.reply.ReplyPartialEq.TheImpl as reply_eq
use Rattle.bts_names.specs.contracts.reply.RespPartialEq.TheImpl as resp_eq
use Rattle.bts_names.specs.contracts.reply.ValuePartialEq.TheImpl as value_eq
use Rattle.bts_names.specs.contracts.state.EventKindPartialEq.TheImpl as kind_eq
use Rattle.bts_names.specs.contracts.state.TimerStatusPartialEq.TheImpl as timer_eq
use Rattle.bts_names.specs.declared.reply.Leaving.{Leaving}
use Rattle.bts_names.specs.declared.reply.Leaving.TheVariants as leaving
use Rattle.bts_names.specs.declared.reply.Reason.{Reason}
use Rattle.bts_names.specs.declared.reply.Reason.TheVariants as reason
use Rattle.bts_names.specs.declared.reply.Reply.{Reply}
use Rattle.bts_names.specs.declared.reply.Resp.{Resp}
use Rattle.bts_names.specs.declared.reply.Resp.TheVariants as resp
use Rattle.bts_names.specs.declared.reply.Value.{Value}
use Rattle.bts_names.specs.declared.reply.Value.TheVariants as value
use Rattle.bts_names.specs.declared.state.EventKind.{EventKind}
use Rattle.bts_names.specs.declared.state.EventKind.TheVariants as kind
use Rattle.bts_names.specs.declared.state.TimerStatus.{TimerStatus}
use Rattle.bts_names.specs.declared.state.TimerStatus.TheVariants as timer
use Rattle.bts_command.specs.contracts.ended.EndPartialEq.TheImpl as end_eq
use Rattle.bts_command.specs.declared.ended.End.{End}
use Rattle.bts_command.specs.declared.ended.End.TheVariants as end
use Rattle.bts_tree.proofs.Alike.{mode-Decides, name_or_none-Decides, status-Decides}

-- bytes are equal where they are the same
pub same_bytes : (a b : Bytes) → pointwise nat_eq a b ≡ same a b
same_bytes a b = one_answer _ _ (slice_eq-Decides Decides-eqb a b _ refl) (same_where_equal a b)

resp-Decides : (a b : Resp) → Decides (resp_eq.ghosts.eq a b) (a ≡ b)
resp-Decides resp.Normal resp.Normal = (λ h. refl, λ h. refl)
resp-Decides resp.Invreq resp.Invreq = (λ h. refl, λ h. refl)
resp-Decides resp.Lengerr resp.Lengerr = (λ h. refl, λ h. refl)
resp-Decides resp.End resp.End = (λ h. refl, λ h. refl)
resp-Decides resp.Processerr resp.Processerr = (λ h. refl, λ h. refl)
resp-Decides resp.Activityerr resp.Activityerr = (λ h. refl, λ h. refl)
resp-Decides resp.Containererr resp.Containererr = (λ h. refl, λ h. refl)
resp-Decides resp.Eventerr resp.Eventerr = (λ h. refl, λ h. refl)
resp-Decides resp.Timererr resp.Timererr = (λ h. refl, λ h. refl)
resp-Decides a b = (λ h. cc, λ e. cc)

reason-Decides : (a b : Reason) → Decides (reason_eq.ghosts.eq a b) (a ≡ b)
reason-Decides reason.None reason.None = (λ h. refl, λ h. refl)
reason-Decides reason.Place reason.Place = (λ h. refl, λ h. refl)
reason-Decides reason.Acquired reason.Acquired = (λ h. refl, λ h. refl)
reason-Decides reason.NotAcquired reason.NotAcquired = (λ h. refl, λ h. refl)
reason-Decides reason.Taken reason.Taken = (λ h. refl, λ h. refl)
reason-Decides reason.Missing reason.Missing = (λ h. refl, λ h. refl)
reason-Decides reason.Mode reason.Mode = (λ h. refl, λ h. refl)
reason-Decides reason.Started reason.Started = (λ h. refl, λ h. refl)
reason-Decides reason.InputGiven reason.InputGiven = (λ h. refl, λ h. refl)
reason-Decides reason.InputMissing reason.InputMissing = (λ h. refl, λ h. refl)
reason-Decides reason.Kind reason.Kind = (λ h. refl, λ h. refl)
reason-Decides reason.Fired reason.Fired = (λ h. refl, λ h. refl)
reason-Decides reason.Depth reason.Depth = (λ h. refl, λ h. refl)
reason-Decides reason.Limit reason.Limit = (λ h. refl, λ h. refl)
reason-Decides reason.ReadOnly reason.ReadOnly = (λ h. refl, λ h. refl)
reason-Decides reason.Long reason.Long = (λ h. refl, λ h. refl)
reason-Decides reason.NotAtomic reason.NotAtomic = (λ h. refl, λ h. refl)
reason-Decides reason.NotComposite reason.NotComposite = (λ h. refl, λ h. refl)
reason-Decides reason.IsSubevent reason.IsSubevent = (λ h. refl, λ h. refl)
reason-Decides reason.NotSubevent reason.NotSubevent = (λ h. refl, λ h. refl)
reason-Decides reason.Empty reason.Empty = (λ h. refl, λ h. refl)
reason-Decides reason.Range reason.Range = (λ h. refl, λ h. refl)
reason-Decides reason.Ended reason.Ended = (λ h. refl, λ h. refl)
reason-Decides a b = (λ h. cc, λ e. cc)

kind-Decides : (a b : EventKind) → Decides (kind_eq.ghosts.eq a b) (a ≡ b)
kind-Decides kind.System kind.System = (λ h. refl, λ h. refl)
kind-Decides kind.Input kind.Input = (λ h. refl, λ h. refl)
kind-Decides kind.Activity kind.Activity = (λ h. refl, λ h. refl)
kind-Decides kind.Timer kind.Timer = (λ h. refl, λ h. refl)
kind-Decides kind.Composite kind.Composite = (λ h. refl, λ h. refl)
kind-Decides a b = (λ h. cc, λ e. cc)

timer-Decides : (a b : TimerStatus) → Decides (timer_eq.ghosts.eq a b) (a ≡ b)
timer-Decides timer.Unexpired timer.Unexpired = (λ h. refl, λ h. refl)
timer-Decides timer.Expired timer.Expired = (λ h. refl, λ h. refl)
timer-Decides timer.Forced timer.Forced = (λ h. refl, λ h. refl)
timer-Decides a b = (λ h. cc, λ e. cc)

leaving-Decides : (a b : Leaving) → Decides (leaving_eq.ghosts.eq a b) (a ≡ b)
leaving-Decides leaving.Dormant leaving.Dormant = (λ h. refl, λ h. refl)
leaving-Decides leaving.Complete leaving.Complete = (λ h. refl, λ h. refl)
leaving-Decides (leaving.Abended c) (leaving.Abended d) = Decides-like _ (λ h. ap leaving.Abended h) (λ e. cc) (same_where_equal c d)
leaving-Decides a b = (λ h. cc, λ e. cc)

value-Decides : (a b : Value) → Decides (value_eq.ghosts.eq a b) (a ≡ b)
value-Decides value.Nothing value.Nothing = (λ h. refl, λ h. refl)
value-Decides (value.Bytes x) (value.Bytes y) = Decides-like _ (λ h. ap value.Bytes h) (λ e. cc) (slice_eq-Decides Decides-eqb x y _ refl)
value-Decides (value.Id p) (value.Id q) = Decides-like _ (λ h. ap value.Id h) (λ e. cc) (same_where_equal p q)
value-Decides (value.Event n k) (value.Event m l) = Decides-like _ (λ h i. value.Event (h.0 i) (h.1 i)) (λ e. (cc, cc)) (Decides-and _ _ (same_where_equal n m) (kind-Decides k l))
value-Decides (value.Fired x) (value.Fired y) = Decides-like _ (λ h. ap value.Fired h) (λ e. cc) (booleans_Decides x y)
value-Decides (value.Activity m s x c) (value.Activity n r y d) =
    Decides-like _ (λ h i. value.Activity (h.0 i) (h.1.0 i) (h.1.1.0 i) (h.1.1.1 i)) (λ e. (cc, (cc, (cc, cc))))
    (Decides-and _ _ (mode-Decides m n) (Decides-and _ _ (status-Decides s r) (Decides-and _ _ (booleans_Decides x y) (name_or_none-Decides c d))))
value-Decides (value.Timer s) (value.Timer r) = Decides-like _ (λ h. ap value.Timer h) (λ e. cc) (timer-Decides s r)
value-Decides (value.Ran x) (value.Ran y) = Decides-like _ (λ h. ap value.Ran h) (λ e. cc) (booleans_Decides x y)
value-Decides (value.Left x) (value.Left y) = Decides-like _ (λ h. ap value.Left h) (λ e. cc) (leaving-Decides x y)
value-Decides a b = (λ h. cc, λ e. cc)

pub reply-Decides : (a b : Reply) → Decides (reply_eq.ghosts.eq a b) (a ≡ b)
reply-Decides a b =
    Decides-like _ (λ h i. record { resp = h.0 i; reason = h.1.0 i; value = h.1.1 i }) (λ e. (ap (λ r. r.resp) e, (ap (λ r. r.reason) e, ap (λ r. r.value) e)))
    (Decides-and _ _ (resp-Decides a.resp b.resp) (Decides-and _ _ (reason-Decides a.reason b.reason) (value-Decides a.value b.value)))

pub end-Decides : (a b : End) → Decides (end_eq.ghosts.eq a b) (a ≡ b)
end-Decides end.Commit end.Commit = (λ h. refl, λ h. refl)
end-Decides end.Rollback end.Rollback = (λ h. refl, λ h. refl)
end-Decides (end.Abend c) (end.Abend d) = Decides-like _ (λ h. ap end.Abend h) (λ e. cc) (same_where_equal c d)
end-Decides a b = (λ h. cc, λ e. cc)
