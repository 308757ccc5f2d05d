pub mod Change
pub mod Places
pub mod Holds
pub mod Checker
