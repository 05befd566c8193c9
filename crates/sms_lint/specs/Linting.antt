-- What the linting of a deck comes to (docs/manual/tool.md, "Linting a deck").
use Rattle.std.specs.Prelude.{◌≡◌, ℕ, List}
use Rattle.std.specs.List.{AllByRecursion}
use Rattle.deck_meaning.specs.Reading.{Configures, HasFirstFault, MeansTable}
use Rattle.sms_construct.specs.Configuration.{Configuration}
use Rattle.toml.specs.Data.{Members}
use Rattle.sms_explain.specs.DeckTexts.{AreSources}
use Rattle.sms_lint.specs.DeckFound.{findings_in}
use Rattle.sms_lint.specs.DeckMeant.{IsDeckFinding}
use Rattle.sms_lint.specs.LintText.{findings_text}
use Rattle.sms_lint.specs.declared.deck_finding.DeckFinding.{DeckFinding}
use Rattle.sms_lint.specs.declared.linted.Lint.{Lint}
use Rattle.sms_lint.specs.declared.linted.Linted.{Linted}
use Rattle.sms_lint.specs.declared.linted.Linted.TheVariants.{Shown, Refused}

-- this is found in a configuration whose deck has this table, and each finding is true
pub record AreFindingsIn (config : Configuration) (top : Members) (findings : List DeckFinding) : Type 0 where
  pub found : findings ≡ findings_in config top
  pub meant : AllByRecursion (IsDeckFinding config) findings

-- the same of a configuration whose deck this is
pub record AreFindingsOn (deck : List ℕ) (config : Configuration) (findings : List DeckFinding) : Type 0 where
  pub top : Members
  pub means : MeansTable deck top
  pub are : AreFindingsIn config top findings

-- these are the findings on the deck, and the text tells all
pub record IsLintOf (deck : List ℕ) (lint : Lint) : Type 0 where
  pub config : Configuration
  pub configures : Configures deck config
  pub sources : AreSources deck lint.sources
  pub findings : AreFindingsOn deck config lint.findings
  pub text_is : lint.text ≡ findings_text lint.sources lint.findings

-- what the linting of a deck comes to: what is found in it, or its first fault
abbrev pub IsLinted : List ℕ → Linted → Type 0
IsLinted deck (Shown lint) = IsLintOf deck lint
IsLinted deck (Refused fault) = HasFirstFault deck fault
