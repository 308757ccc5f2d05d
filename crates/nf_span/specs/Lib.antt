pub mod Front
pub mod Scan
pub mod Split
pub mod Leads
pub mod Closer
pub mod Window
pub mod Going
