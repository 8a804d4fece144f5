-- Calls of the reader and the writer, and their answers, in short forms for computed examples.
pub mod Call
pub mod Reader
