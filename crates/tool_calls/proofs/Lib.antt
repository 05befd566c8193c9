pub mod ScriptLemmas
pub mod AnswerLemmas
mod CaseLemmas
mod WordsLemmas
