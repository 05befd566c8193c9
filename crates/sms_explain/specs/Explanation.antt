-- The explanation of a script: what the routines of its deck do with each of its allocations (docs/manual/tool.md,
-- "Explaining a script").
use Rattle.std.specs.Prelude.{◌≡◌, ◌⊎◌, ◌++◌, ℕ, List, [], Option, None, Some, codes, decimal, filter}
use Rattle.std.specs.Prelude.{flat_map}
use Rattle.desk_law.specs.Classification.{classes_of}
use Rattle.acs_tree.specs.declared.values.Values.{Values}
use Rattle.sms_construct.specs.Configuration.{Configuration}
use Rattle.sms_construct.specs.declared.alloc.Alloc.{Alloc}
use Rattle.sms_construct.specs.declared.stop.Stop.{Stop}
use Rattle.deck_meaning.specs.Reading.{Configures, HasFirstFault}
use Rattle.sms_script.specs.declared.item.Item.{Item}
use Rattle.sms_simulation.specs.OutcomeText.{outcome_text, text_of_classes}
use Rattle.sms_simulation.specs.Simulation.{AreAsked, RefusesDeck, ShowsNothing, alloc_of, first_misplaced}
use Rattle.sms_simulation.specs.declared.simulated.Simulated.{Simulated}
use Rattle.sms_simulation.specs.declared.simulated.Simulated.TheVariants as simulations
use Rattle.sms_story.specs.Runs.{runs_of}
use Rattle.sms_explain.specs.DeckTexts.{AreSources}
use Rattle.sms_explain.specs.Picking.{is_picked}
use Rattle.sms_explain.specs.RunText.{run_text}
use Rattle.sms_explain.specs.declared.deck_sources.DeckSources.{DeckSources}

-- the line of an item in the script, its job and its number, with a blank behind each
abbrev pub front_text : Item → List ℕ
front_text item =
    decimal item.line ++ codes " " ++ item.request.job ++ codes " " ++ decimal item.request.number ++ codes " "

-- the line before the runs of an item, with the name of the data set
abbrev pub head_text : Item → Alloc → List ℕ
head_text item alloc = front_text item ++ codes "ALLOC " ++ alloc.input.dsn ++ codes "\n"

-- the line behind them: how the classification ends
abbrev pub end_text : Item → Stop → Values → List ℕ
end_text item stop values = front_text item ++ outcome_text stop values ++ codes "\n"

-- what is told of the ALLOC of an item: each run, and then what the classification comes to, as a simulation prints it
abbrev pub told_text : Configuration → DeckSources → Item → Alloc → List ℕ
told_text config sources item alloc =
    head_text item alloc ++ flat_map (run_text sources) (runs_of config item.request.job alloc)
    ++ text_of_classes item.line item.request.job item.request.number (classes_of config item.request.job alloc)

-- the same, if there is an ALLOC
abbrev pub told_if : Configuration → DeckSources → Item → Option Alloc → List ℕ
told_if config sources item None = []
told_if config sources item (Some alloc) = told_text config sources item alloc

-- what is told of an item; nothing but of an ALLOC
abbrev pub told_of : Configuration → DeckSources → Item → List ℕ
told_of config sources item = told_if config sources item (alloc_of item.request.op)

-- the text tells what the routines of the deck do with each of these ALLOCs
pub record TellsUnder (deck : List ℕ) (others : List Item) (text : List ℕ) : Type 0 where
  pub config : Configuration
  pub configures : Configures deck config
  pub sources : DeckSources
  pub texts : AreSources deck sources
  pub text_is : text ≡ flat_map (told_of config sources) others

-- the text is that of a deck and of those ALLOCs behind it that are of this job and have this number, where one is
-- asked for
pub record Tells (job : Option (List ℕ)) (number : Option ℕ) (items : List Item) (text : List ℕ) : Type 0 where
  pub deck : List ℕ
  pub others : List Item
  pub asked : AreAsked items deck others
  pub tells : TellsUnder deck (filter (is_picked job number) others) text

-- what the explanation of these items comes to
abbrev pub IsExplanation : Option (List ℕ) → Option ℕ → List Item → Simulated → Type 0
IsExplanation job number items (simulations.Shown text) = ShowsNothing items text ⊎ Tells job number items text
IsExplanation job number items (simulations.Refused fault) = RefusesDeck items fault
IsExplanation job number items (simulations.Misplaced line) = first_misplaced items ≡ Some line

-- what it comes to where this deck is activated and these are the ALLOCs behind it
abbrev pub IsExplainedUnder : List ℕ → List Item → Simulated → Type 0
IsExplainedUnder deck others (simulations.Shown text) = TellsUnder deck others text
IsExplainedUnder deck others (simulations.Refused fault) = HasFirstFault deck fault
IsExplainedUnder deck others (simulations.Misplaced line) = ⊥
