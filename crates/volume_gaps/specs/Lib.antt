pub mod LongestGap
pub mod ListedVolumes
pub mod Inner
