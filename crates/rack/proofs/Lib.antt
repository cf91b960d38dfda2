pub mod Meant
pub mod Refusing
pub mod Laning
pub mod Leveling
pub mod Running
