pub mod Signed
pub mod Holding
pub mod Showing
pub mod Seats
