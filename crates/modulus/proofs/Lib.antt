pub mod Integers
pub mod Congruences
pub mod Primes
pub mod Exponents
pub mod Bounds
pub mod Division
pub mod Exits
