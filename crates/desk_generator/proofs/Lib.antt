mod NameLemmas
mod GeneratedLemmas
mod CountLemmas
mod LineLemmas
