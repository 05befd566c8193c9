-- The simulation of a script: what the routines of its deck give each of its allocations (docs/manual/tool.md,
-- "Simulating a script").
use Rattle.std.specs.Prelude.{ℕ, ◌≡◌, ◌⊎◌, Bool, List, [], ◌∷◌, find, flat_map, Option, None, Some, is_none, option_map}
use Rattle.sms_construct.specs.Configuration.{Configuration}
use Rattle.sms_construct.specs.declared.alloc.Alloc.{Alloc}
use Rattle.sms_construct.specs.declared.fault.Fault.{Fault}
use Rattle.sms_construct.specs.declared.request.Op.{Op}
use Rattle.sms_construct.specs.declared.request.Op.TheVariants as ops
use Rattle.deck_meaning.specs.Reading.{Configures, HasFirstFault}
use Rattle.sms_keeper.specs.Suits.{deck_of}
use Rattle.sms_script.specs.declared.item.Item.{Item}
use Rattle.desk_law.specs.Classification.{classes_of}
use Rattle.sms_simulation.specs.OutcomeText.{text_of_classes}
use Rattle.sms_simulation.specs.declared.simulated.Simulated.{Simulated}
use Rattle.sms_simulation.specs.declared.simulated.Simulated.TheVariants as simulations

-- what the op allocates, if it is an ALLOC
abbrev pub alloc_of : Op → Option Alloc
alloc_of (ops.Alloc alloc) = Some alloc
alloc_of (ops.Activate deck) = None
alloc_of (ops.Extend dsn) = None
alloc_of (ops.Delete dsn) = None
alloc_of (ops.Used dsn tracks) = None
alloc_of (ops.Release dsn) = None
alloc_of (ops.Display target) = None
alloc_of (ops.Vary target action) = None
alloc_of (ops.Purge job floor) = None

-- the item asks for something else than an ALLOC
abbrev pub is_other : Item → Bool
is_other item = is_none (alloc_of item.request.op)

-- the line of the first of these items that is no ALLOC
abbrev pub first_other : List Item → Option ℕ
first_other items = option_map (λ (item : Item). item.line) (find is_other items)

-- the line of the item where it activates no deck, else that of the first one behind it that is no ALLOC
abbrev pub misplaced_from : Option (List ℕ) → Item → List Item → Option ℕ
misplaced_from None item items = Some item.line
misplaced_from (Some deck) item items = first_other items

-- the line of the first item that isn't the one asked there: an ACTIVATE at the front, and ALLOCs behind it
abbrev pub first_misplaced : List Item → Option ℕ
first_misplaced [] = None
first_misplaced (item ∷ items) = misplaced_from (deck_of item.request.op) item items

-- what is printed of an item: what the routines give its ALLOC
abbrev pub text_if : Configuration → Item → Option Alloc → List ℕ
text_if config item None = []
text_if config item (Some alloc) =
    text_of_classes item.line item.request.job item.request.number (classes_of config item.request.job alloc)

-- what is printed of an item; nothing but of an ALLOC
abbrev pub item_text : Configuration → Item → List ℕ
item_text config item = text_if config item (alloc_of item.request.op)

-- the items are an ACTIVATE of this deck and, behind it, these ALLOCs
pub record AreAsked (items : List Item) (deck : List ℕ) (others : List Item) : Type 0 where
  pub first : Item
  pub items_are : items ≡ first ∷ others
  pub activates : deck_of first.request.op ≡ Some deck
  pub allocates : first_other others ≡ None

-- the deck gives a configuration, and the text is that of the ALLOCs behind it
pub record ShowsClasses (items : List Item) (text : List ℕ) : Type 0 where
  pub deck : List ℕ
  pub others : List Item
  pub config : Configuration
  pub asked : AreAsked items deck others
  pub configures : Configures deck config
  pub text_is : text ≡ flat_map (item_text config) others

-- the deck has this fault
pub record RefusesDeck (items : List Item) (fault : Fault) : Type 0 where
  pub deck : List ℕ
  pub others : List Item
  pub asked : AreAsked items deck others
  pub found : HasFirstFault deck fault

-- there is nothing to simulate, and nothing is printed
pub record ShowsNothing (items : List Item) (text : List ℕ) : Type 0 where
  pub items_are : items ≡ []
  pub text_is : text ≡ []

-- what the simulation of these items comes to
abbrev pub IsSimulation : List Item → Simulated → Type 0
IsSimulation items (simulations.Shown text) = ShowsNothing items text ⊎ ShowsClasses items text
IsSimulation items (simulations.Refused fault) = RefusesDeck items fault
IsSimulation items (simulations.Misplaced line) = first_misplaced items ≡ Some line

-- what it comes to where this deck is activated and these are the ALLOCs behind it
pub record ShowsUnder (deck : List ℕ) (others : List Item) (text : List ℕ) : Type 0 where
  pub config : Configuration
  pub configures : Configures deck config
  pub text_is : text ≡ flat_map (item_text config) others

-- what the simulation of these ALLOCs under this deck comes to
abbrev pub IsSimulatedUnder : List ℕ → List Item → Simulated → Type 0
IsSimulatedUnder deck others (simulations.Shown text) = ShowsUnder deck others text
IsSimulatedUnder deck others (simulations.Refused fault) = HasFirstFault deck fault
IsSimulatedUnder deck others (simulations.Misplaced line) = ⊥
