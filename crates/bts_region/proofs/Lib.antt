mod Counting
mod Counts
mod OneUnit
mod Fronts
mod AllDone
pub mod EachOnce
pub mod Numbered
pub mod Works
pub mod Offers
pub mod NextWork
pub mod Finds
pub mod Appending
pub mod Owing
mod Rousing
pub mod Entering
pub mod Begins
pub mod Left
pub mod FirstReady
pub mod GoesOut
pub mod FewItems
pub mod TakenAs
pub mod Sameness
pub mod Runnable
pub mod Still
pub mod Ending
pub mod Finished
pub mod Settling
pub mod EndedAs
pub mod OfToday
