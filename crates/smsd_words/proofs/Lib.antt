mod WordsLemmas
mod AskedLemmas
