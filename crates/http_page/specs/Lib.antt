pub mod Sites
pub mod Pages
