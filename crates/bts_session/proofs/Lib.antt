pub mod Among
pub mod Fronts
pub mod Kept
pub mod Sectioning
pub mod Short
pub mod Steps
pub mod Today
