-- The long form, read again.
pub mod ReadBack
pub mod HandedOver
