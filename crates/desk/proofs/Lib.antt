pub mod Walks
pub mod Books
pub mod Laws
