-- What the contracts of public functions mean.
pub mod Gates
pub mod Journals
pub mod Crashes
pub mod Units
pub mod Scans
