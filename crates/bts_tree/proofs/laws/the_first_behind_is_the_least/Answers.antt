use Rattle.bts_tree.proofs.Least.{place_total, timer_place_total, first_is_least, none_is_behind}
use Rattle.bts_tree.proofs.laws.the_first_behind_is_the_least.Goals as goal
use Rattle.bts_tree.specs.Repositories.{place_cmp, timer_place_cmp}

pub returns-clause-place : goal.returns-clause-place
returns-clause-place c = λ after x xs s f. first_is_least place_cmp place_total after x xs s f

pub returns-clause-no_place : goal.returns-clause-no_place
returns-clause-no_place c = λ after xs f. none_is_behind place_cmp place_total after xs f

pub returns-clause-timer : goal.returns-clause-timer
returns-clause-timer c = λ after x xs s f. first_is_least timer_place_cmp timer_place_total after x xs s f

pub returns-clause-no_timer : goal.returns-clause-no_timer
returns-clause-no_timer c = λ after xs f. none_is_behind timer_place_cmp timer_place_total after xs f
