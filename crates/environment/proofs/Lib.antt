pub mod Bindings
pub mod Cells
pub mod Directives
pub mod Examples
