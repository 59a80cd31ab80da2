-- What the contracts of public functions mean.
pub mod Marks
pub mod Standings
pub mod Frames
pub mod Ends
pub mod Calls
pub mod Systems
pub mod Playing
pub mod OneFrame
pub mod Replays
pub mod Soundness
pub mod Refusals
-- For proofs and inner contracts alone.
pub mod OnWork
