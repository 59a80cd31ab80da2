pub mod Sameness
pub mod Padding
pub mod Made
