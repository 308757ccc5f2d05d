pub mod KitForm
pub mod After
pub mod Passing
pub mod Plain
pub mod PlainRanges
pub mod LineFeed
pub mod Within
pub mod Refused
