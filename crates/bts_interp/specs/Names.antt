-- What a region and its jobs are of.
use Rattle.std.specs.Prelude.{ℕ, []}
use Rattle.bts_session.specs.declared.session.Session.{Session}
use Rattle.bts_tree.specs.Repositories.{nothing_stored}
use Rattle.bts_tree.specs.declared.opening.Opening.{Opening}

-- the session, what the history goes on from, and the most activations
pub record Named : Type 0 where
  pub session : Session
  pub opening : Opening
  pub limit : ℕ

-- no process, no unit, and the first moment
abbrev pub nowhere : Opening
nowhere = record { repo = nothing_stored; units = 0; moment = 0 }

abbrev pub nothing : Named
nothing = record { session = record { items = []; programs = [] }; opening = nowhere; limit = 0 }
