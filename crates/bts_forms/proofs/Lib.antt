pub mod AllForms
mod Lists
mod Numbers
mod Pairs
pub mod Saying
pub mod Short
mod ShortCommands
pub mod ShortLines
mod Steps
pub mod Tables
mod Today
