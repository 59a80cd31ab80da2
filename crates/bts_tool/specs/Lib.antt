-- What the contracts of public functions mean.
pub mod Causes
pub mod Runs
pub mod Tail
pub mod Words
