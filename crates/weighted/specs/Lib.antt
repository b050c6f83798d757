pub mod Choice
pub mod Converses
pub mod Examples
pub mod Next
pub mod Steps
