pub mod Blank
pub mod Ends
pub mod Listing
