pub mod OneOut
