-- What the contracts of public functions mean.
pub mod Blocks
pub mod Lines
-- For proofs and inner contracts alone.
pub mod Begun
