pub mod DeckTexts
pub mod RunText
pub mod Picking
pub mod Explanation
