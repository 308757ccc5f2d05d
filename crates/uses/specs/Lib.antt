pub mod Faults
pub mod Count
pub mod Counting
pub mod Network
pub mod Sends
