pub mod Shown
pub mod Groups
pub mod Listing
pub mod Lying
pub mod Newest
pub mod Checking
pub mod Trials
pub mod DeskPages
