pub mod InFrames
pub mod OneByOne
pub mod Opening
pub mod Shown
mod FirstMark
pub mod Performed
pub mod Replayed
pub mod Carried
pub mod SoundUnits
pub mod Rising
pub mod BoundedUnits
pub mod Callable
pub mod Repeated
pub mod Applied
pub mod Alike
pub mod AtEnd
pub mod Committed
mod Expired
mod Leading
pub mod ShortReplies
