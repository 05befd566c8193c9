pub mod DeckFound
pub mod DeckMeant
pub mod LintText
pub mod Linting
