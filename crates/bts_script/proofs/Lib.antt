mod Ends
pub mod FirstLines
pub mod Kept
mod Labels
pub mod Short
mod Statements
pub mod Today
