-- What the contracts of public functions mean.
pub mod Disks
pub mod Memory
-- For proofs and inner contracts alone.
pub mod MemoryLaws
