pub mod Bits
pub mod Closure
pub mod Matroid
pub mod Refusals
