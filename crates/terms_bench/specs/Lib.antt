pub mod Iris
