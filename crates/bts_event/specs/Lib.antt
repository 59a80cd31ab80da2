-- What the contracts of public functions mean.
pub mod Calls
pub mod Composites
pub mod Events
pub mod Pool
pub mod Refusals
pub mod Sound
