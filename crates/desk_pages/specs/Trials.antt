-- What an ALLOC would come to (docs/manual/smsd.md, "What pages show").
use Rattle.std.specs.Prelude.{ℕ, ◌≡◌, List, ◌++◌, Option, None, Some, codes, flat_map}
use Rattle.http_flow.specs.declared.page.Page.{Page}
use Rattle.http_flow.specs.declared.page.PageStatus.TheVariants as statuses
use Rattle.http_head.specs.declared.route.Route.TheVariants as routes
use Rattle.http_message.specs.Asked.{op_with}
use Rattle.page_paths.specs.declared.trial.Trial.{Trial}
use Rattle.page_paths.specs.declared.trial.Trial.TheVariants as trials
use Rattle.page_text.specs.AnswerBodies.{classified_body, explained_body}
use Rattle.sms_construct.specs.Configuration.{Configuration}
use Rattle.sms_construct.specs.declared.alloc.Alloc.{Alloc}
use Rattle.sms_script.specs.Found.{◌⊳◌}
use Rattle.sms_script.specs.TraceText.{trace_lines}
use Rattle.sms_simulation.specs.OutcomeText.{outcome_text}
use Rattle.sms_simulation.specs.Simulation.{alloc_of}
use Rattle.sms_story.specs.Runs.{runs_of}
use Rattle.sms_explain.specs.DeckTexts.{AreSources}
use Rattle.sms_explain.specs.RunText.{run_text}
use Rattle.sms_explain.specs.declared.deck_sources.DeckSources.{DeckSources}
use Rattle.desk_law.specs.Classification.{Classes, classes_of, trace_of}
use Rattle.desk_pages.specs.Shown.{refusing, showing}

-- the ALLOC of a data set of this name, with the operands that the body gives
abbrev pub alloc_asked : List ℕ → List ℕ → Option Alloc
alloc_asked dsn body = op_with routes.Alloc (codes "ALLOC " ++ dsn) body ⊳ alloc_of

-- the body gives no operands as they are asked
abbrev pub no_alloc_page : Page
no_alloc_page = refusing statuses.Bad (codes "the body isn't that of an ALLOC")

-- nothing is active
abbrev pub no_config_page : Page
no_config_page = refusing statuses.Missing (codes "no configuration is active")

-- how a classification ends, and the lines that the routines wrote
abbrev pub classes_page : Classes → Page
classes_page classes =
    showing (classified_body (outcome_text classes.stop classes.values) (trace_lines (trace_of classes)))

-- the page tells what the routines of a configuration do with the ALLOC of a job
pub record TellsRuns (config : Configuration) (job : List ℕ) (alloc : Alloc) (page : Page) : Type 0 where
  pub sources : DeckSources
  pub texts : AreSources config.deck sources
  pub page_is : page ≡ showing (explained_body (flat_map (run_text sources) (runs_of config job alloc)))

-- what is shown of the ALLOC of a job under a configuration
abbrev pub ShowsTrial : Trial → Configuration → List ℕ → Alloc → Page → Type 0
ShowsTrial trials.Classes config job alloc page = page ≡ classes_page (classes_of config job alloc)
ShowsTrial trials.Runs config job alloc page = TellsRuns config job alloc page

-- the same under what is active, if something is and there is an ALLOC
abbrev pub IsTrialPage : Trial → Option Configuration → List ℕ → Option Alloc → Page → Type 0
IsTrialPage shows active job None page = page ≡ no_alloc_page
IsTrialPage shows None job (Some alloc) page = page ≡ no_config_page
IsTrialPage shows (Some config) job (Some alloc) page = ShowsTrial shows config job alloc page
