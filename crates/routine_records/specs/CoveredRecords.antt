-- The coverage of a script as records (docs/manual/tool.md, "For other tools").
use Rattle.std.specs.Prelude.{ℕ, ◌≡◌, ◌⊎◌, ◌++◌, false, List, [], Option, None, Some, flat_map}
use Rattle.acs_coverage.specs.Points.{points_of}
use Rattle.acs_coverage.specs.declared.tally.Tally.{Tally}
use Rattle.acs_telling.specs.declared.source.Source.{Source}
use Rattle.acs_tree.specs.CheckedRoutine.{CheckedRoutine}
use Rattle.acs_tree.specs.declared.kind.Kind.{Kind}
use Rattle.acs_tree.specs.declared.kind.Kind.TheVariants.{DataClas, StorClas, MgmtClas, StorGrp}
use Rattle.flat_records.specs.declared.form.RecordForm.{RecordForm}
use Rattle.sms_construct.specs.Configuration.{Configuration, routine_of}
use Rattle.deck_meaning.specs.Reading.{Configures}
use Rattle.sms_coverage.specs.Events.{counts_of, runs_of_item}
use Rattle.sms_coverage.specs.Shortfall.{deck_short}
use Rattle.sms_coverage.specs.declared.coverage.Coverage.{Coverage}
use Rattle.sms_coverage.specs.declared.coverage.Covered.{Covered}
use Rattle.sms_coverage.specs.declared.coverage.Covered.TheVariants as coverages
use Rattle.sms_explain.specs.DeckTexts.{AreSources, source_in}
use Rattle.sms_explain.specs.declared.deck_sources.DeckSources.{DeckSources}
use Rattle.sms_script.specs.declared.item.Item.{Item}
use Rattle.sms_simulation.specs.Simulation.{AreAsked, RefusesDeck, first_misplaced}
use Rattle.routine_records.specs.PointRecords.{points_front, points_records}

-- the records of a routine; of a missing one none
abbrev pub routine_records : RecordForm → Kind → Source → (ℕ → Tally) → Option CheckedRoutine → List ℕ
routine_records form kind source tallies None = []
routine_records form kind source tallies (Some routine) =
    points_records form kind source tallies (points_of routine.tree)

-- the records of the routine of a kind, by the counts of each
abbrev pub kind_records : RecordForm → Configuration → DeckSources → (Kind → ℕ → Tally) → Kind → List ℕ
kind_records form config sources counts kind =
    routine_records form kind (source_in sources kind) (counts kind) (routine_of kind config.routines)

-- what stands before the records, and those of the four routines, in the order in which they run
abbrev pub deck_records : RecordForm → Configuration → DeckSources → (Kind → ℕ → Tally) → List ℕ
deck_records form config sources counts =
    points_front form ++ (kind_records form config sources counts DataClas
    ++ (kind_records form config sources counts StorClas ++ (kind_records form config sources counts MgmtClas
    ++ kind_records form config sources counts StorGrp)))

-- the records tell what these ALLOCs reach of the routines of the deck, and whether that is less than so many per cent
-- of one of them
pub record CoverageUnder (form : RecordForm) (least : ℕ) (deck : List ℕ) (others : List Item) (coverage : Coverage)
    : Type 0 where
  pub config : Configuration
  pub configures : Configures deck config
  pub sources : DeckSources
  pub texts : AreSources deck sources
  pub text_is :
      coverage.text ≡ deck_records form config sources (counts_of (flat_map (runs_of_item config) others))
  pub short_is : coverage.short ≡ deck_short least config (counts_of (flat_map (runs_of_item config) others))

-- the records are those of a deck and of the ALLOCs behind it
pub record CoverageOf (form : RecordForm) (least : ℕ) (items : List Item) (coverage : Coverage) : Type 0 where
  pub deck : List ℕ
  pub others : List Item
  pub asked : AreAsked items deck others
  pub counts : CoverageUnder form least deck others coverage

-- there is nothing of which something could be reached, and what stands before records is all
pub record CoverageOfNothing (form : RecordForm) (items : List Item) (coverage : Coverage) : Type 0 where
  pub items_are : items ≡ []
  pub text_is : coverage.text ≡ points_front form
  pub short_is : coverage.short ≡ false

-- what the coverage of these items as records comes to, where so many per cent are asked for
abbrev pub IsCoverageRecorded : RecordForm → ℕ → List Item → Covered → Type 0
IsCoverageRecorded form least items (coverages.Shown coverage) =
    CoverageOfNothing form items coverage ⊎ CoverageOf form least items coverage
IsCoverageRecorded form least items (coverages.Refused fault) = RefusesDeck items fault
IsCoverageRecorded form least items (coverages.Misplaced line) = first_misplaced items ≡ Some line
