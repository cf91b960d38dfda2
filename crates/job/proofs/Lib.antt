pub mod Cuts
pub mod Grammar
pub mod Joined
pub mod Judging
pub mod Lines
pub mod Making
pub mod Reporting
pub mod Written
