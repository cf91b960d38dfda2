pub mod Text
pub mod Reading
pub mod Report
pub mod Forms
