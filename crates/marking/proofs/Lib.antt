pub mod Chunks
pub mod RunsWithin
pub mod MemoryStarts
pub mod StepsBack
pub mod Promised
pub mod Marked
