-- What the contracts of public functions mean.
pub mod Turns
