pub mod TranslateLemmas
