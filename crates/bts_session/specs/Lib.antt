-- What the contracts of public functions mean.
pub mod Sessions
pub mod Today
pub mod Sizes
-- For proofs and inner contracts alone.
pub mod Reading
