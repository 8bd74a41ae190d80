pub mod AskLaws
pub mod Frames
pub mod HeapLaws
pub mod Keeping
pub mod Opened
pub mod StopLaws
pub mod Passed
pub mod Happening
