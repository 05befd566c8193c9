pub mod FileEnds
