pub mod On
