pub mod Polynomial
pub mod Basis
pub mod Reduced
pub mod Equivalents
pub mod Shift
pub mod Powers
