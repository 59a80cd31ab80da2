-- What the contracts of public functions mean.
pub mod Formats
pub mod Laws
pub mod Fields
pub mod Commands
pub mod Replies
pub mod Units
pub mod Answers
pub mod Sizes
