-- What private clauses alone cite.
pub mod Calls
pub mod Serving
