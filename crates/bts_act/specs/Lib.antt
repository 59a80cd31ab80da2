-- What the contracts of public functions mean.
pub mod Does
pub mod Early
pub mod Replies
pub mod Built
-- For proofs and inner contracts alone.
pub mod Children
