pub mod Counted
pub mod Told
pub mod Stopped
pub mod Cut
