-- What a coverage as records comes to, from its parts.
use Rattle.std.proofs.Common.{◌≡◌, ℕ, List, inr, ap}
use std.Path.{fun_ext}
use Rattle.acs_coverage.specs.Counts.{tally_at}
use Rattle.acs_coverage.specs.declared.tally.Tally.{Tally}
use Rattle.acs_tree.specs.declared.kind.Kind.{Kind}
use Rattle.flat_records.specs.declared.form.RecordForm.{RecordForm}
use Rattle.sms_construct.specs.Configuration.{Configuration}
use Rattle.sms_coverage.specs.Events.{AreCounted, counts_of, tallies_in}
use Rattle.sms_coverage.specs.Shortfall.{deck_short}
use Rattle.sms_coverage.specs.declared.coverage.Covered.{Covered}
use Rattle.sms_coverage.specs.declared.coverage.Covered.TheVariants as coverages
use Rattle.sms_coverage.specs.declared.kind_tallies.KindTallies.{KindTallies}
use Rattle.sms_explain.specs.declared.deck_sources.DeckSources.{DeckSources}
use Rattle.sms_script.specs.declared.item.Item.{Item}
use Rattle.sms_simulation.specs.Simulation.{AreAsked}
use Rattle.sms_story.specs.declared.run.Run.{Run}
use Rattle.routine_records.specs.CoveredRecords.{IsCoverageRecorded, deck_records}
use Rattle.routine_records.specs.Inner.Under.{IsCoverageUnder}

pub covered_under : (form : RecordForm) (least : ℕ) (items others : List Item) (deck : List ℕ) (made : Covered) → AreAsked items deck others
    → IsCoverageUnder form least deck others made → IsCoverageRecorded form least items made
covered_under form least items others deck (coverages.Shown coverage) asked counts =
    inr (record { deck = deck; others = others; asked = asked; counts = counts })
covered_under form least items others deck (coverages.Refused fault) asked found = record { deck = deck; others = others; asked = asked; found = found }
covered_under form least items others deck (coverages.Misplaced line) asked never = absurd never

-- the counts that are held are those of the runs, so the records of both are the same
pub same_records : (form : RecordForm) (config : Configuration) (sources : DeckSources) (runs : List Run) (tallies : KindTallies) → AreCounted runs tallies
    → deck_records form config sources (λ kind. tally_at (tallies_in tallies kind)) ≡ deck_records form config sources (counts_of runs)
same_records form config sources runs tallies counts =
    ap (λ (c : Kind → ℕ → Tally). deck_records form config sources c) (fun_ext (λ kind. fun_ext (λ at. counts kind at)))

pub same_shortfall : (least : ℕ) (config : Configuration) (runs : List Run) (tallies : KindTallies) → AreCounted runs tallies
    → deck_short least config (λ kind. tally_at (tallies_in tallies kind)) ≡ deck_short least config (counts_of runs)
same_shortfall least config runs tallies counts = ap (λ (c : Kind → ℕ → Tally). deck_short least config c) (fun_ext (λ kind. fun_ext (λ at. counts kind at)))
