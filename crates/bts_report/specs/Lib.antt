-- What the contracts of public functions mean.
pub mod Reports
pub mod Words
-- For proofs and inner contracts alone.
pub mod Writing
