pub mod Accepted
pub mod Completeness
pub mod Faults
pub mod Layout
pub mod Soundness
pub mod Validity
pub mod Writing
