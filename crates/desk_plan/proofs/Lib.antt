pub mod SharingLemmas
pub mod FrontLemmas
pub mod NumberingLemmas
pub mod RankLemmas
