-- The explanation of a script with the candidate volumes of its allocations (docs/manual/tool.md, "Candidate volumes").
use Rattle.std.specs.Prelude.{◌≡◌, ◌⊎◌, ◌++◌, ℕ, List, [], Option, None, Some, Result, Ok, Err, codes, filter, flat_map}
use Rattle.deck_meaning.specs.Reading.{Configures}
use Rattle.desk_law.specs.Allocation.{Wish, alloc_case}
use Rattle.desk_law.specs.State.{DeskState}
use Rattle.sms_construct.specs.Configuration.{Configuration}
use Rattle.sms_construct.specs.declared.alloc.Alloc.{Alloc}
use Rattle.sms_construct.specs.declared.reply.Reply.{Reply}
use Rattle.sms_construct.specs.declared.reply.Reply.TheVariants as replies
use Rattle.sms_explain.specs.DeckTexts.{AreSources}
use Rattle.sms_explain.specs.Explanation.{told_of}
use Rattle.sms_explain.specs.Picking.{is_picked}
use Rattle.sms_explain.specs.declared.deck_sources.DeckSources.{DeckSources}
use Rattle.sms_script.specs.declared.item.Item.{Item}
use Rattle.sms_simulation.specs.Simulation.{AreAsked, RefusesDeck, ShowsNothing, alloc_of, first_misplaced}
use Rattle.sms_simulation.specs.declared.simulated.Simulated.{Simulated}
use Rattle.sms_simulation.specs.declared.simulated.Simulated.TheVariants as simulations
use Rattle.volume_reasons.specs.EmptyDesk.{empty_under, views_of, wanted_by}
use Rattle.volume_reasons.specs.VolumesText.{views_text}

-- what is told where an ALLOC doesn't come to the choice of a volume: that nothing is asked of the volumes, where the
-- routines gave classes and storage groups
abbrev pub quantity_text : Reply → List ℕ
quantity_text (replies.NoQuantity trace) = codes "  NO QUANTITY\n"
quantity_text _ = []

-- what is told of volumes where an ALLOC comes to this before one is chosen
abbrev pub case_text : DeskState → Result Wish Reply → List ℕ
case_text s (Ok wish) = views_text (views_of s wish) (wanted_by wish)
case_text s (Err reply) = quantity_text reply

-- what is told of the candidates of an ALLOC of a job, on a desk that has just activated the configuration
abbrev pub volumes_text : Configuration → List ℕ → Alloc → List ℕ
volumes_text config job alloc = case_text (empty_under config) (alloc_case (empty_under config) job alloc)

-- the same, if there is an ALLOC
abbrev pub volumes_if : Configuration → List ℕ → Option Alloc → List ℕ
volumes_if config job None = []
volumes_if config job (Some alloc) = volumes_text config job alloc

-- what is told of an item: what its explanation tells, and behind that its candidates
abbrev pub told_with_volumes : Configuration → DeckSources → Item → List ℕ
told_with_volumes config sources item =
    told_of config sources item ++ volumes_if config item.request.job (alloc_of item.request.op)

-- the text tells what the routines of the deck do with each of these ALLOCs, and its candidates
pub record TellsVolumesUnder (deck : List ℕ) (others : List Item) (text : List ℕ) : Type 0 where
  pub config : Configuration
  pub configures : Configures deck config
  pub sources : DeckSources
  pub texts : AreSources deck sources
  pub text_is : text ≡ flat_map (told_with_volumes config sources) others

-- the text is that of a deck and of those ALLOCs behind it that are of this job and have this number, where one is
-- asked for
pub record TellsVolumes (job : Option (List ℕ)) (number : Option ℕ) (items : List Item) (text : List ℕ)
    : Type 0 where
  pub deck : List ℕ
  pub others : List Item
  pub asked : AreAsked items deck others
  pub tells : TellsVolumesUnder deck (filter (is_picked job number) others) text

-- what the explanation of these items with their candidates comes to
abbrev pub IsVolumesExplained : Option (List ℕ) → Option ℕ → List Item → Simulated → Type 0
IsVolumesExplained job number items (simulations.Shown text) =
    ShowsNothing items text ⊎ TellsVolumes job number items text
IsVolumesExplained job number items (simulations.Refused fault) = RefusesDeck items fault
IsVolumesExplained job number items (simulations.Misplaced line) = first_misplaced items ≡ Some line
