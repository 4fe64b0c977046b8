pub mod StepBytes
pub mod Records
