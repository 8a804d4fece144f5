mod Table
mod Written
