-- Every fault of a deck (docs/manual/tool.md, "Every fault of a deck").
use Rattle.std.specs.Prelude.{◌≡◌, ◌≤◌, ◌⊎◌, ℕ, List, [], ◌∷◌, ◌++◌, Option, None, Some, length, take, if◌then◌else◌}
use Rattle.toml.specs.Data.{Members}
use Rattle.acs_tree.specs.declared.kind.Kind.TheVariants.{DataClas, StorClas, MgmtClas, StorGrp}
use Rattle.sms_construct.specs.declared.fault.Fault.{Fault}
use Rattle.sms_construct.specs.declared.fault.Fault.TheVariants.{TwoGroups}
use Rattle.sms_construct.specs.Configuration.{Routines}
use Rattle.desk_common.specs.Limits.{most_deck_bytes}
use Rattle.deck_meaning.specs.Places.{Places, places_of, total_fault}
use Rattle.deck_meaning.specs.Outcomes.{Outcomes, AreOutcomes, routines_in, source_fault}
use Rattle.deck_meaning.specs.Reading.{MeansTable, IsTooLong, IsNotToml}
use Rattle.deck_faults.specs.Limits.{most_faults}
use Rattle.deck_faults.specs.Survey.{alone}
use Rattle.deck_faults.specs.Names.{known_fault}
use Rattle.deck_faults.specs.Tables.{tables_faults}

-- the faults of the serials that stand in two storage groups, in byte order
abbrev pub twice_faults : Places → List Fault
twice_faults [] = []
twice_faults (place ∷ places) =
    if place.1.is_twice then TwoGroups place.0 ∷ twice_faults places else twice_faults places

-- the faults of a deck's tables: of each table, of the number of volumes, of volumes in two storage groups
abbrev pub form_faults : Members → List Fault
form_faults top = tables_faults top ++ alone (total_fault top) ++ twice_faults (places_of top)

-- the first fault of each routine as a text
abbrev pub sources_faults : Outcomes → List Fault
sources_faults outcomes =
    alone (source_fault DataClas outcomes.dataclas)
    ++ alone (source_fault StorClas outcomes.storclas)
    ++ alone (source_fault MgmtClas outcomes.mgmtclas)
    ++ alone (source_fault StorGrp outcomes.storgrp)

-- the first fault of what each routine sets, where the names of its kind are known
abbrev pub known_faults : Members → Routines → List Fault
known_faults top routines =
    alone (known_fault DataClas top routines.dataclas)
    ++ alone (known_fault StorClas top routines.storclas)
    ++ alone (known_fault MgmtClas top routines.mgmtclas)
    ++ alone (known_fault StorGrp top routines.storgrp)

-- the faults of a deck's table, whose routines come to this: of the tables, of the routines as texts, and of what they
-- set
abbrev pub faults_of : Members → Outcomes → List Fault
faults_of top outcomes = form_faults top ++ sources_faults outcomes ++ known_faults top (routines_in outcomes)

-- the deck's table has these faults, or these are the first of them
pub record HasTableFaults (bytes : List ℕ) (faults : List Fault) : Type 0 where
  pub fits : length bytes ≤ most_deck_bytes
  pub top : Members
  pub means : MeansTable bytes top
  pub outcomes : Outcomes
  pub read : AreOutcomes top outcomes
  pub faults_are : faults ≡ take most_faults (faults_of top outcomes)

-- the deck has this fault alone, since nothing else can be read of it
pub record HasOneFault (bytes : List ℕ) (faults : List Fault) : Type 0 where
  pub fault : Fault
  pub cause : IsTooLong bytes fault ⊎ IsNotToml bytes fault
  pub faults_are : faults ≡ fault ∷ []

-- the faults of a deck, of which so many are told
abbrev pub HasFaults : List ℕ → List Fault → Type 0
HasFaults bytes faults = HasOneFault bytes faults ⊎ HasTableFaults bytes faults

-- the first of some faults, if there is one
abbrev pub first_in : List Fault → Option Fault
first_in [] = None
first_in (fault ∷ faults) = Some fault
