mod ToolLemmas
mod AlikeLemmas
pub mod AskingLemmas
