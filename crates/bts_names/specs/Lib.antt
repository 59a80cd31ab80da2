-- What the contracts of public functions mean.
pub mod Answer
pub mod Grammar
pub mod Keys
pub mod Names
pub mod Vocabulary
-- For proofs and inner contracts alone.
pub mod Named
pub mod Padded
