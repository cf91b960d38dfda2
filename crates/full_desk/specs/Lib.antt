pub mod Book
pub mod Kinds
pub mod Desk
pub mod Law
