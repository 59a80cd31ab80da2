-- What the contracts of public functions mean.
pub mod Activities
pub mod Indexes
pub mod Lending
pub mod Modes
pub mod Leading
pub mod Paths
pub mod Processes
pub mod Repositories
pub mod Scopes
pub mod Slots
pub mod Soundness
-- For proofs and inner contracts alone.
pub mod Fields
pub mod Keeping
pub mod Newest
pub mod Olds
