pub mod Books
pub mod Laws
pub mod Parts
pub mod Meant
