pub mod Range
pub mod Rules
pub mod Standing
