mod Digits
mod Divided
pub mod Held
