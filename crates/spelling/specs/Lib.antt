pub mod Form
pub mod Hash
