pub mod Rules
pub mod Lanewise
