pub mod Behind
pub mod Following
pub mod OneTalk
pub mod OfToday
pub mod Followed
mod Latest
mod Places
mod Ending
mod Alone
pub mod Executable
pub mod Leads
pub mod ShortCalls
mod Turning
mod Calling
mod Numbered
mod Beginning
mod Finished
mod Few
