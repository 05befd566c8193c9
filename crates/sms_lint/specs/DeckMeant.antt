-- What each finding in a deck means (docs/manual/tool.md, "Linting a deck").
use Rattle.std.specs.Prelude.{◌≡◌, ℕ, true, false, List, Option, None, Some}
use Rattle.std.specs.List.{list_any}
use Rattle.std.specs.Str.{bytes_eq}
use Rattle.acs_lint.specs.Meant.{IsFinding}
use Rattle.acs_lint.specs.Uses.{held_of}
use Rattle.acs_lint.specs.declared.finding.Finding.{Finding}
use Rattle.acs_tree.specs.CheckedRoutine.{CheckedRoutine}
use Rattle.acs_tree.specs.Meaning.{meaning_of}
use Rattle.acs_tree.specs.Sound.{Among}
use Rattle.acs_tree.specs.declared.input.Input.{Input}
use Rattle.acs_tree.specs.declared.kind.Kind.{Kind}
use Rattle.acs_tree.specs.declared.kind.Kind.TheVariants.{StorGrp}
use Rattle.acs_tree.specs.declared.values.Values.{Values}
use Rattle.sms_construct.specs.Configuration.{Configuration, has_construct, routine_of}
use Rattle.sms_construct.specs.declared.data_set.DataSet.{DataSet}
use Rattle.sms_construct.specs.declared.management_class.MgmtClass.{MgmtClass}
use Rattle.sms_manage.specs.Due.{class_of, due_of}
use Rattle.sms_manage.specs.declared.wanted.Due.TheVariants.{Delete}
use Rattle.sms_lint.specs.DeckFound.{is_enabled_in}
use Rattle.sms_lint.specs.declared.deck_finding.DeckFinding.{DeckFinding}
use Rattle.sms_lint.specs.declared.deck_finding.DeckFinding.TheVariants.{InRoutine, NeverExpires, NeverSet, NotEnabled}

-- a finding on the routine of a kind is true of it
pub record IsInRoutine (config : Configuration) (kind : Kind) (finding : Finding) : Type 0 where
  pub routine : CheckedRoutine
  pub of_kind : routine_of kind config.routines ≡ Some routine
  pub meant : IsFinding routine.tree finding

-- the text is none of these
abbrev pub Lacks : List ℕ → List (List ℕ) → Type 0
Lacks name texts = list_any (bytes_eq name) texts ≡ false

-- a construct of this name is in no outcome of the routine of its kind that begins without it
pub record IsNeverSet (config : Configuration) (kind : Kind) (name : List ℕ) : Type 0 where
  pub routine : CheckedRoutine
  pub of_kind : routine_of kind config.routines ≡ Some routine
  pub never : (input : Input) (values : Values) → Lacks name (held_of kind values) →
      Lacks name (held_of kind (meaning_of routine.tree kind input values).values)

-- a storage group of the configuration has no volume that is enabled
pub record IsNotEnabled (config : Configuration) (name : List ℕ) : Type 0 where
  pub is_group : has_construct StorGrp name config ≡ true
  pub none : list_any (is_enabled_in name) config.volumes ≡ false

-- a data set of a management class of the configuration that has no retention period is deleted on no day
pub record IsNeverExpiring (config : Configuration) (name : List ℕ) : Type 0 where
  pub class : MgmtClass
  pub name_is : class.name ≡ name
  pub is_class : Among class config.management_classes
  pub kept : (set : DataSet) (day : ℕ) → class_of config set ≡ Some class → set.retpd ≡ None →
      due_of config day set ≡ Delete → ⊥

-- what a finding says holds of the configuration
abbrev pub IsDeckFinding : Configuration → DeckFinding → Type 0
IsDeckFinding config (InRoutine kind finding) = IsInRoutine config kind finding
IsDeckFinding config (NeverSet kind name) = IsNeverSet config kind name
IsDeckFinding config (NotEnabled name) = IsNotEnabled config name
IsDeckFinding config (NeverExpires name) = IsNeverExpiring config name
