pub mod Ascii
pub mod Tables
