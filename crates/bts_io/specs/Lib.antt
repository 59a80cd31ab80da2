-- What the contracts of public functions mean.
pub mod Faults
pub mod Plan
pub mod Streams
