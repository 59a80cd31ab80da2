-- What the contracts of public functions mean.
pub mod Facts
pub mod Steps
pub mod Texts
pub mod Items
pub mod NextCalls
pub mod Budgets
pub mod Talks
pub mod Jobs
pub mod Names
pub mod Ready
pub mod Stations
pub mod Short
-- For proofs and inner contracts alone.
pub mod Commands
pub mod Reaching
pub mod Errands
pub mod Running
