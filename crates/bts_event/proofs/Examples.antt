-- Calls on a new pool, and what they leave, computed from the definitions alone.
use Rattle.std.proofs.Common.{◌≡◌, ℕ, false, List, [], ◌∷◌, map, Some, Ok, codes, refl}
use Rattle.bts_names.specs.declared.reply.Reason.TheVariants as reason
use Rattle.bts_names.specs.declared.state.EventKind.TheVariants as kind
use Rattle.bts_names.specs.Names.{Name}
use Rattle.bts_event.specs.declared.event.Trigger.TheVariants.{Input, Timer}
use Rattle.bts_event.specs.Calls.{Call, define, define_composite, fire, retrieve, retrieve_subevent, behind}
use Rattle.bts_event.specs.Pool.{Pool, empty_pool, settled, next_subevent}
use Rattle.bts_event.specs.Refusals.{fire_refusal}

abbrev either : Name
either = codes "EITHER"

-- two inputs, and a composite of any of them
abbrev of_inputs : List Call → Pool
of_inputs calls = behind (define (codes "I1") Input ∷ define (codes "I2") Input ∷ define_composite either false (codes "I1" ∷ codes "I2" ∷ []) ∷ calls) empty_pool

-- the same with timers
abbrev of_timers : List Call → Pool
of_timers calls =
    behind (define (codes "T1") (Timer (codes "T1")) ∷ define (codes "T2") (Timer (codes "T2")) ∷ define_composite either false (codes "T1" ∷ codes "T2" ∷ []) ∷ calls) empty_pool

numbers : Pool → List ℕ
numbers pool = map (λ e. e.number) pool.entries

-- two firings before the entry is retrieved make one entry, and wait in their order
one_entry : numbers (of_inputs (fire (codes "I2") ∷ fire (codes "I1") ∷ [])) ≡ 1 ∷ []
unfolding settled numbers
one_entry = refl

in_order_of_firing : next_subevent either (of_inputs (fire (codes "I2") ∷ fire (codes "I1") ∷ retrieve ∷ retrieve_subevent either ∷ [])) ≡ Ok (codes "I1", kind.Input)
unfolding settled
in_order_of_firing = refl

-- where the sub-event is retrieved between, the composite turns twice, and its first entry stays
two_entries : numbers (of_timers (fire (codes "T1") ∷ retrieve_subevent either ∷ fire (codes "T2") ∷ [])) ≡ 1 ∷ 2 ∷ []
unfolding settled numbers
two_entries = refl

-- an event that is fired fires no more
fired_already : fire_refusal (codes "I2") (of_inputs (fire (codes "I2") ∷ [])).events ≡ Some reason.Fired
unfolding settled
fired_already = refl
