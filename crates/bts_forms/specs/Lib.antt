-- What the contracts of public functions mean.
pub mod Arguments
pub mod Forms
pub mod Pieces
pub mod Texts
pub mod Today
pub mod Sizes
