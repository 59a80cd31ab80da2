pub mod Moments
pub mod Picks
pub mod Examples
