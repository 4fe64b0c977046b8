pub mod State
pub mod Steps
pub mod Results
pub mod Views
pub mod Fires
pub mod Bytes
