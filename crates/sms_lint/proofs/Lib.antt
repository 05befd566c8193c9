pub mod DeckLemmas
