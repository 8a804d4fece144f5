-- What the writer's routines do to the output.
pub mod Writing
pub mod Drawn
