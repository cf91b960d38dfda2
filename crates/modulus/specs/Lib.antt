pub mod Congruence
pub mod Moduli
pub mod Bounds
pub mod Quotient
pub mod Refusals
