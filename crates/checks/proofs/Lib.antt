-- What a base is refused for.
pub mod Base
