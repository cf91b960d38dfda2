pub mod Drafts
pub mod Stores
pub mod Forms
pub mod Ladders
pub mod Blocks
pub mod Lengths
pub mod Passing
pub mod Plans
