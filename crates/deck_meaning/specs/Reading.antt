-- What a deck configures, and its first fault (docs/manual/deck.md, "Order of faults").
use Rattle.std.specs.Prelude.{ℕ, ◌≡◌, ◌≤◌, ◌<◌, ◌⊎◌, List, [], ◌∷◌, Option, None, Some, length, codes, IsUtf8}
use Rattle.std.specs.Option.{option_or}
use Rattle.toml.specs.Data.{Members}
use Rattle.toml.specs.Parse.{parse_document}
use Rattle.dsn_mask.specs.Name.{name_of}
use Rattle.acs_tree.specs.declared.kind.Kind.TheVariants.{DataClas, StorClas, MgmtClas, StorGrp}
use Rattle.sms_construct.specs.declared.fault.Fault.{Fault}
use Rattle.sms_construct.specs.declared.fault.Fault.TheVariants.{NotToml, TooMany}
use Rattle.sms_construct.specs.Configuration.{Configuration, Routines}
use Rattle.deck_meaning.specs.declared.deck_err.DeckErr.{DeckErr}
use Rattle.deck_meaning.specs.declared.deck_err.DeckErr.TheVariants.{Fault as Faulted, NoMemory}
use Rattle.desk_common.specs.Limits.{most_deck_bytes}
use Rattle.deck_meaning.specs.Layout.{table_at}
use Rattle.deck_meaning.specs.Values.{name_in}
use Rattle.deck_meaning.specs.Tables.{tables_fault}
use Rattle.deck_meaning.specs.Constructs.{read_at, named, data_class_of, storage_class_of, management_class_of, group_of}
use Rattle.deck_meaning.specs.Places.{groups_in, places_of, volumes_in, total_fault, twice_fault}
use Rattle.deck_meaning.specs.Outcomes.{Outcomes, AreOutcomes, routines_in, source_fault, assigned_fault}

-- the bytes are text, and this is the table of that text
pub record MeansTable (bytes : List ℕ) (top : Members) : Type 0 where
  pub text : IsUtf8 bytes
  pub document : parse_document bytes ≡ Some top

-- the first of these faults, if there is one
abbrev pub first_of : List (Option Fault) → Option Fault
first_of [] = None
first_of (fault ∷ faults) = option_or fault (first_of faults)

-- the first fault of the routines as texts
abbrev pub sources_fault : Outcomes → Option Fault
sources_fault outcomes =
    first_of (source_fault DataClas outcomes.dataclas ∷ source_fault StorClas outcomes.storclas
    ∷ source_fault MgmtClas outcomes.mgmtclas ∷ source_fault StorGrp outcomes.storgrp ∷ [])

-- the refusal of the texts that tells their first fault
abbrev pub TellsSources : Members → DeckErr → Type 0
TellsSources top (Faulted fault) =
    (outcomes : Outcomes) × AreOutcomes top outcomes × (sources_fault outcomes ≡ Some fault)
TellsSources top NoMemory = Unit {0}

-- the first fault of what the routines set
abbrev pub assigned_faults : Members → Routines → Option Fault
assigned_faults top routines = first_of (
    assigned_fault DataClas top routines.dataclas ∷ assigned_fault StorClas top routines.storclas
    ∷ assigned_fault MgmtClas top routines.mgmtclas ∷ assigned_fault StorGrp top routines.storgrp ∷ [])

-- the first fault of a deck's tables: of their keys and names, of the number of volumes, of a volume in two storage
-- groups
abbrev pub form_fault : Members → Option Fault
form_fault top = first_of (tables_fault top ∷ total_fault top ∷ twice_fault top ∷ [])

-- the first fault of a deck's table, whose routines come to this: of the tables, of the routines as texts, and of
-- what they set
abbrev pub fault_of : Members → Outcomes → Option Fault
fault_of top outcomes =
    first_of (form_fault top ∷ sources_fault outcomes ∷ assigned_faults top (routines_in outcomes) ∷ [])

-- the configuration of a deck with this table and these routines
abbrev pub configuration_of : List ℕ → Members → Routines → Configuration
configuration_of bytes top routines = record {
  deck = bytes;
  system = read_at name_in (codes "system") top;
  sysplex = read_at name_in (codes "sysplex") top;
  data_classes = named name_of data_class_of (table_at (codes "dataclass") top);
  storage_classes = named name_of storage_class_of (table_at (codes "storclass") top);
  management_classes = named name_of management_class_of (table_at (codes "mgmtclass") top);
  groups = named name_of group_of (groups_in top);
  volumes = volumes_in (places_of top);
  routines = routines;
}

-- the deck has no fault, and this is its configuration
pub record Configures (bytes : List ℕ) (config : Configuration) : Type 0 where
  pub fits : length bytes ≤ most_deck_bytes
  pub top : Members
  pub means : MeansTable bytes top
  pub outcomes : Outcomes
  pub read : AreOutcomes top outcomes
  pub faultless : fault_of top outcomes ≡ None
  pub config_is : config ≡ configuration_of bytes top (routines_in outcomes)

-- the deck has more bytes than it may
pub record IsTooLong (bytes : List ℕ) (fault : Fault) : Type 0 where
  pub long : most_deck_bytes < length bytes
  pub fault_is : fault ≡ TooMany (codes "deck")

-- the deck is no TOML document
pub record IsNotToml (bytes : List ℕ) (fault : Fault) : Type 0 where
  pub fits : length bytes ≤ most_deck_bytes
  pub no_table : (top : Members) → MeansTable bytes top → ⊥
  pub fault_is : fault ≡ NotToml

-- the deck's table has this first fault
pub record HasTableFault (bytes : List ℕ) (fault : Fault) : Type 0 where
  pub fits : length bytes ≤ most_deck_bytes
  pub top : Members
  pub means : MeansTable bytes top
  pub outcomes : Outcomes
  pub read : AreOutcomes top outcomes
  pub first : fault_of top outcomes ≡ Some fault

-- the first fault of a deck
abbrev pub HasFirstFault : List ℕ → Fault → Type 0
HasFirstFault bytes fault = IsTooLong bytes fault ⊎ (IsNotToml bytes fault ⊎ HasTableFault bytes fault)

-- the refusal of a deck that tells its first fault
abbrev pub TellsFirstFault : List ℕ → DeckErr → Type 0
TellsFirstFault bytes (Faulted fault) = HasFirstFault bytes fault
TellsFirstFault bytes NoMemory = ⊥

-- how the parts of a deck are read

-- the refusal of a deck's tables that tells their first fault
abbrev pub TellsForm : Members → DeckErr → Type 0
TellsForm top (Faulted fault) = form_fault top ≡ Some fault
TellsForm top NoMemory = Unit {0}

-- the refusal of a deck's table that tells its first fault
abbrev pub TellsTable : Members → DeckErr → Type 0
TellsTable top (Faulted fault) = (outcomes : Outcomes) × AreOutcomes top outcomes × (fault_of top outcomes ≡ Some fault)
TellsTable top NoMemory = Unit {0}

-- the table has no fault, and this is its configuration
pub record IsRead (bytes : List ℕ) (top : Members) (config : Configuration) : Type 0 where
  pub outcomes : Outcomes
  pub read : AreOutcomes top outcomes
  pub faultless : fault_of top outcomes ≡ None
  pub config_is : config ≡ configuration_of bytes top (routines_in outcomes)
