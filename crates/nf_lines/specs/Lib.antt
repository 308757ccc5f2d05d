pub mod Cut
pub mod Alone
pub mod Drives
