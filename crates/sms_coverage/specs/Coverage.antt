-- The coverage of a script: what its allocations reach of the routines of its deck (docs/manual/tool.md, "Coverage of a
-- script").
use Rattle.std.specs.Prelude.{◌≡◌, ◌⊎◌, ◌++◌, ℕ, false, List, [], Option, None, Some, flat_map}
use Rattle.acs_coverage.specs.CoverageText.{coverage_text}
use Rattle.acs_coverage.specs.Points.{points_of}
use Rattle.acs_coverage.specs.declared.tally.Tally.{Tally}
use Rattle.acs_telling.specs.declared.source.Source.{Source}
use Rattle.acs_tree.specs.CheckedRoutine.{CheckedRoutine}
use Rattle.acs_tree.specs.Variables.{name_of}
use Rattle.acs_tree.specs.declared.kind.Kind.{Kind}
use Rattle.acs_tree.specs.declared.kind.Kind.TheVariants.{DataClas, StorClas, MgmtClas, StorGrp}
use Rattle.sms_construct.specs.Configuration.{Configuration, routine_of}
use Rattle.deck_meaning.specs.Reading.{Configures, HasFirstFault}
use Rattle.sms_explain.specs.DeckTexts.{AreSources, source_in}
use Rattle.sms_explain.specs.declared.deck_sources.DeckSources.{DeckSources}
use Rattle.sms_script.specs.declared.item.Item.{Item}
use Rattle.sms_simulation.specs.Simulation.{AreAsked, RefusesDeck, ShowsNothing, first_misplaced}
use Rattle.sms_coverage.specs.Events.{counts_of, runs_of_item}
use Rattle.sms_coverage.specs.Shortfall.{deck_short}
use Rattle.sms_coverage.specs.declared.coverage.Coverage.{Coverage}
use Rattle.sms_coverage.specs.declared.coverage.Covered.{Covered}
use Rattle.sms_coverage.specs.declared.coverage.Covered.TheVariants as coverages

-- what was reached of a routine; of a missing one nothing is told
abbrev pub routine_text : Kind → Source → (ℕ → Tally) → Option CheckedRoutine → List ℕ
routine_text kind source tallies None = []
routine_text kind source tallies (Some routine) = coverage_text (name_of kind) source (points_of routine.tree) tallies

-- what was reached of the routine of a kind, by the counts of each
abbrev pub kind_text : Configuration → DeckSources → (Kind → ℕ → Tally) → Kind → List ℕ
kind_text config sources counts kind =
    routine_text kind (source_in sources kind) (counts kind) (routine_of kind config.routines)

-- what was reached of the four routines, in the order in which they run
abbrev pub deck_text : Configuration → DeckSources → (Kind → ℕ → Tally) → List ℕ
deck_text config sources counts =
    kind_text config sources counts DataClas ++ kind_text config sources counts StorClas
    ++ kind_text config sources counts MgmtClas ++ kind_text config sources counts StorGrp

-- the coverage tells what these ALLOCs reach of the routines of the deck, and whether that is less than so many per cent
-- of one of them
pub record CoversUnder (least : ℕ) (deck : List ℕ) (others : List Item) (coverage : Coverage) : Type 0 where
  pub config : Configuration
  pub configures : Configures deck config
  pub sources : DeckSources
  pub texts : AreSources deck sources
  pub text_is : coverage.text ≡ deck_text config sources (counts_of (flat_map (runs_of_item config) others))
  pub short_is : coverage.short ≡ deck_short least config (counts_of (flat_map (runs_of_item config) others))

-- the coverage is that of a deck and of the ALLOCs behind it
pub record Covers (least : ℕ) (items : List Item) (coverage : Coverage) : Type 0 where
  pub deck : List ℕ
  pub others : List Item
  pub asked : AreAsked items deck others
  pub covers : CoversUnder least deck others coverage

-- there is nothing of which something could be reached
abbrev pub CoversNothing : List Item → Coverage → Type 0
CoversNothing items coverage = ShowsNothing items coverage.text × (coverage.short ≡ false)

-- what the coverage of these items comes to, where so many per cent are asked for
abbrev pub IsCoverage : ℕ → List Item → Covered → Type 0
IsCoverage least items (coverages.Shown coverage) = CoversNothing items coverage ⊎ Covers least items coverage
IsCoverage least items (coverages.Refused fault) = RefusesDeck items fault
IsCoverage least items (coverages.Misplaced line) = first_misplaced items ≡ Some line

-- what it comes to where this deck is activated and these are the ALLOCs behind it
abbrev pub IsCoveredUnder : ℕ → List ℕ → List Item → Covered → Type 0
IsCoveredUnder least deck others (coverages.Shown coverage) = CoversUnder least deck others coverage
IsCoveredUnder least deck others (coverages.Refused fault) = HasFirstFault deck fault
IsCoveredUnder least deck others (coverages.Misplaced line) = ⊥
