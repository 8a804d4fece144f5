pub mod Tests
pub mod Compose
pub mod Steps
pub mod Frames
pub mod Turning
pub mod Numbers
