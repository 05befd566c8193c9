-- What comes of the texts of a deck's routines.
use Rattle.std.specs.Prelude.{◌≡◌, ◌≤◌, ◌<◌, ℕ, List, length, Option, Some, None, codes}
use Rattle.std.specs.Option.{option_and_then, option_map}
use Rattle.toml.specs.Data.{Members, get_member, as_str}
use Rattle.acs_tree.specs.declared.kind.Kind.{Kind}
use Rattle.acs_tree.specs.declared.kind.Kind.TheVariants.{DataClas, StorClas, MgmtClas, StorGrp}
use Rattle.acs_tree.specs.CheckedRoutine.{CheckedRoutine}
use Rattle.acs_translate.specs.declared.fault.RoutineFault.{RoutineFault}
use Rattle.acs_translate.specs.declared.fault.Stage.{Stage as StageOf}
use Rattle.acs_translate.specs.declared.fault.Stage.TheVariants as met_by
use Rattle.acs_translate.specs.declared.fault.TranslateErr.{TranslateErr}
use Rattle.acs_translate.specs.declared.fault.TranslateErr.TheVariants as translate
use Rattle.acs_translate.specs.Translation.{IsTranslated, IsRoutineFault}
use Rattle.sms_construct.specs.declared.fault.Fault.{Fault}
use Rattle.sms_construct.specs.declared.fault.Fault.TheVariants.{Routine, TooMany, Unassigned}
use Rattle.sms_construct.specs.declared.stage.Stage.{Stage}
use Rattle.sms_construct.specs.declared.stage.Stage.TheVariants.{Scanner, Parser, Checks}
use Rattle.sms_construct.specs.declared.text_fault.TextFault.{TextFault}
use Rattle.sms_construct.specs.Configuration.{Routines}
use Rattle.sms_construct.specs.Keys.{key_of}
use Rattle.sms_construct.specs.Path.{below}
use Rattle.deck_meaning.specs.declared.deck_err.DeckErr.{DeckErr}
use Rattle.deck_meaning.specs.declared.deck_err.DeckErr.TheVariants.{Fault as Faulted, NoMemory}
use Rattle.deck_meaning.specs.Limits.{most_routine_bytes}
use Rattle.deck_meaning.specs.Layout.{table_at}
use Rattle.deck_meaning.specs.Assigned.{assigned_by, first_unknown}

-- the text of the routine of a kind
abbrev pub source_of : Kind → Members → Option (List ℕ)
source_of kind top = option_and_then as_str (get_member (key_of kind) (table_at (codes "routine") top))

-- what may come of the text of a routine, if there is one
pub data Outcome : Type 0 where
  -- there is no text
  Absent : Outcome
  -- the text has more bytes than it may
  Long : Outcome
  -- the text is a routine that breaks no check
  Sound : CheckedRoutine → Outcome
  -- the text has this first fault
  Faulty : RoutineFault → Outcome

-- a text that isn't too long is this routine
pub record IsSource (kind : Kind) (text : List ℕ) (routine : CheckedRoutine) : Type 0 where
  pub fits : length text ≤ most_routine_bytes
  pub tokens : ℕ
  pub translated : IsTranslated text kind routine.tree tokens
  pub kind_is : routine.kind ≡ kind

-- a text that isn't too long has this first fault
pub record IsFaulty (kind : Kind) (text : List ℕ) (fault : RoutineFault) : Type 0 where
  pub fits : length text ≤ most_routine_bytes
  pub faulty : IsRoutineFault text kind fault

-- what comes of a text
abbrev pub IsOutcomeOf : Kind → Option (List ℕ) → Outcome → Type 0
IsOutcomeOf kind None Absent = Unit {0}
IsOutcomeOf kind None _ = ⊥
IsOutcomeOf kind (Some text) Absent = ⊥
IsOutcomeOf kind (Some text) Long = most_routine_bytes < length text
IsOutcomeOf kind (Some text) (Sound routine) = IsSource kind text routine
IsOutcomeOf kind (Some text) (Faulty fault) = IsFaulty kind text fault

-- what comes of the four texts
pub record Outcomes : Type 0 where
  pub dataclas : Outcome
  pub storclas : Outcome
  pub mgmtclas : Outcome
  pub storgrp : Outcome

-- each text comes to its outcome
pub record AreOutcomes (top : Members) (outcomes : Outcomes) : Type 0 where
  pub dataclas : IsOutcomeOf DataClas (source_of DataClas top) outcomes.dataclas
  pub storclas : IsOutcomeOf StorClas (source_of StorClas top) outcomes.storclas
  pub mgmtclas : IsOutcomeOf MgmtClas (source_of MgmtClas top) outcomes.mgmtclas
  pub storgrp : IsOutcomeOf StorGrp (source_of StorGrp top) outcomes.storgrp

-- the routine of an outcome, if it is one
abbrev pub sound_in : Outcome → Option CheckedRoutine
sound_in Absent = None
sound_in Long = None
sound_in (Sound routine) = Some routine
sound_in (Faulty fault) = None

-- the outcome of a text that has no fault
abbrev pub outcome_from : Option CheckedRoutine → Outcome
outcome_from None = Absent
outcome_from (Some routine) = Sound routine

-- the outcomes of texts that have no faults
abbrev pub outcomes_from : Routines → Outcomes
outcomes_from routines = record {
  dataclas = outcome_from routines.dataclas;
  storclas = outcome_from routines.storclas;
  mgmtclas = outcome_from routines.mgmtclas;
  storgrp = outcome_from routines.storgrp;
}

-- the routines of the outcomes
abbrev pub routines_in : Outcomes → Routines
routines_in outcomes = record {
  dataclas = sound_in outcomes.dataclas;
  storclas = sound_in outcomes.storclas;
  mgmtclas = sound_in outcomes.mgmtclas;
  storgrp = sound_in outcomes.storgrp;
}

-- what met the fault of a routine
abbrev pub stage_of : StageOf → Stage
stage_of met_by.Scanner = Scanner
stage_of met_by.Parser = Parser
stage_of met_by.Checks = Checks

-- the fault of a routine as that of a deck
abbrev pub text_fault_of : RoutineFault → TextFault
text_fault_of fault = record { stage = stage_of fault.stage; number = fault.number; at = fault.at }

-- the fault that a routine's text has as a text
abbrev pub source_fault : Kind → Outcome → Option Fault
source_fault kind Absent = None
source_fault kind Long = Some (TooMany (below (codes "routine") (key_of kind)))
source_fault kind (Sound routine) = None
source_fault kind (Faulty fault) = Some (Routine kind (text_fault_of fault))

-- the translator's refusal as that of a deck
abbrev pub told_as : Kind → TranslateErr → DeckErr
told_as kind (translate.Fault fault) = Faulted (Routine kind (text_fault_of fault))
told_as kind translate.NoMemory = NoMemory

-- the refusal of a text that tells its fault
abbrev pub TellsSource : Kind → Option (List ℕ) → DeckErr → Type 0
TellsSource kind source (Faulted fault) =
    (outcome : Outcome) × IsOutcomeOf kind source outcome × (source_fault kind outcome ≡ Some fault)
TellsSource kind source NoMemory = Unit {0}

-- the first name that a routine sets and that is no construct of its kind
abbrev pub unassigned_in : Kind → Members → CheckedRoutine → Option (List ℕ)
unassigned_in kind top routine = first_unknown (table_at (key_of kind) top) (assigned_by routine.tree.body)

-- the fault of a routine that sets what is no construct of its kind
abbrev pub assigned_fault : Kind → Members → Option CheckedRoutine → Option Fault
assigned_fault kind top None = None
assigned_fault kind top (Some routine) = option_map (λ name. Unassigned kind name) (unassigned_in kind top routine)
