-- What the contracts of public functions mean.
pub mod Items
pub mod Positions
pub mod Owed
pub mod Enabled
pub mod Histories
pub mod Serial
pub mod Regions
pub mod Today
pub mod Answers
pub mod AsStation
-- For proofs and inner contracts alone.
pub mod Offered
pub mod Fitting
pub mod Awake
pub mod Keeps
pub mod Widens
