-- IRIs: schemes, and resolution of references.
pub mod Iri
pub mod Dots
pub mod Resolve
pub mod Code
