mod Alike
pub mod Dates
pub mod Days
pub mod Months
pub mod MomentLaws
pub mod Texts
pub mod Years
