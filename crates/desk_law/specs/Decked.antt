-- The decks that were activated, and what is active.
use Rattle.std.specs.Prelude.{ℕ, ◌≡◌, ◌+◌, List, [], ◌∷◌, length, Option, None, Some}
use Rattle.sms_construct.specs.Configuration.{Configuration}
use Rattle.deck_meaning.specs.Reading.{Configures}
use Rattle.sms_keeper.specs.declared.deck_row.DeckRow.{DeckRow}
use Rattle.desk_law.specs.State.{DeskState}

-- the decks are numbered in order, the first with the number behind this one
abbrev pub AreNumbered : ℕ → List DeckRow → Type 0
AreNumbered before [] = Unit {0}
AreNumbered before (deck ∷ decks) = (deck.count ≡ before + 1) × AreNumbered (before + 1) decks

-- what the deck configures is active
pub record IsActive (deck : DeckRow) (active : Option Configuration) : Type 0 where
  pub config : Configuration
  pub configures : Configures deck.bytes config
  pub active_is : active ≡ Some config

-- what the last of the decks configures is active, and nothing is where there is no deck
abbrev pub IsLastActive : List DeckRow → Option Configuration → Type 0
IsLastActive [] active = active ≡ None
IsLastActive (deck ∷ []) active = IsActive deck active
IsLastActive (deck ∷ next ∷ decks) active = IsLastActive (next ∷ decks) active

-- the decks are those of the activations that led to the state
pub record IsDecked (decks : List DeckRow) (s : DeskState) : Type 0 where
  pub counted : s.activations ≡ length decks
  pub numbered : AreNumbered 0 decks
  pub last : IsLastActive decks s.active
