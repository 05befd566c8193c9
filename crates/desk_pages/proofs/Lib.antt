pub mod ListingLaws
pub mod FindLaws
pub mod LyingLaws
pub mod NewestLaws
pub mod CheckLaws
