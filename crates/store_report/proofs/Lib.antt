mod ExtentLemmas
mod ClassLemmas
mod VolumeLemmas
