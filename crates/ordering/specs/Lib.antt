pub mod Constraints
pub mod Closure
pub mod Rules
pub mod Tests
pub mod Forward
pub mod Some
