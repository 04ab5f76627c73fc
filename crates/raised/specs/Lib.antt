pub mod Below
pub mod Walk
