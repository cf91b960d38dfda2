pub mod Runs
pub mod Levels
pub mod Lanes
