pub mod Book
pub mod Desk
pub mod Law
pub mod Stops
