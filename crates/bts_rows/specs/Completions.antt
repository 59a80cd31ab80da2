-- The completion event of a child, in the pool of its parent.
use Rattle.std.specs.Prelude.{ℕ, Bool, false, cond, not, ◌&&◌, Option, Some, None, is_none}
use Rattle.bts_names.specs.Names.{Name, ActivityPath}
use Rattle.bts_names.specs.Named.{lookup}
use Rattle.bts_names.specs.declared.reply.Reason.{Reason}
use Rattle.bts_names.specs.declared.reply.Reason.TheVariants as reason
use Rattle.bts_event.specs.declared.event.Event.{Event}
use Rattle.bts_event.specs.declared.event.Trigger.TheVariants.{Completion}
use Rattle.bts_event.specs.Events.{Events, completion_of, is_completion_of, new_atomic}
use Rattle.bts_event.specs.Pool.{Pool, empty_pool, defined, unfired}
use Rattle.bts_event.specs.Refusals.{is_full}
use Rattle.bts_tree.specs.declared.activity.Activity.{Activity}
use Rattle.bts_tree.specs.Paths.{parent_of, number_of}
use Rattle.bts_tree.specs.Processes.{Process, with_pool}
use Rattle.bts_rows.specs.Timing.{removed_if}

-- one more child was made, and its completion event stands in the pool
abbrev pub with_child : Name → ℕ → Activity → Activity
with_child e n a = record a { pool = defined e (new_atomic (Completion n)) a.pool; made = n }

-- a pool without the completion event of the child of a number, and without that of the activity at a path
abbrev pub without_child : ℕ → Pool → Pool
without_child n pool = removed_if (completion_of n pool.events) pool

abbrev pub without_completion : ActivityPath → Process → Process
without_completion p = with_pool (parent_of p) (without_child (number_of p))

-- whether a name stands for another event than the completion event of a child
abbrev pub is_other : ℕ → Option Event → Bool
is_other n None = false
is_other n (Some e) = not (is_completion_of n e)

abbrev pub pool_of : Option Activity → Pool
pool_of None = empty_pool
pool_of (Some a) = a.pool

-- why the completion event of a child can't stand in the pool of its parent; the root has none
abbrev pub completion_refusal : ℕ → Option Name → Events → Option Reason
completion_refusal n None events = None
completion_refusal n (Some name) events =
    cond (is_other n (lookup name events)) (Some reason.Taken) (cond (is_none (completion_of n events) && is_full events) (Some reason.Limit) None)

-- the completion event of a child stands unfired: as it was, or made again
abbrev pub rearmed_by : Option Name → ℕ → Name → Pool → Pool
rearmed_by (Some e) n name pool = unfired e pool
rearmed_by None n name pool = defined name (new_atomic (Completion n)) pool

abbrev pub rearmed : ℕ → Name → Pool → Pool
rearmed n name pool = rearmed_by (completion_of n pool.events) n name pool

abbrev pub with_completion : ActivityPath → Option Name → Process → Process
with_completion p None s = s
with_completion p (Some name) s = with_pool (parent_of p) (rearmed (number_of p) name) s
