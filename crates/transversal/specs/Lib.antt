pub mod Pairs
pub mod Reading
pub mod Volunteers
