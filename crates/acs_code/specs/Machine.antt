-- What running a code does (docs/manual/acs-language.md, Code).
use Rattle.std.specs.Prelude.{◌≡◌, ℕ, suc, Bool, List, [], ◌∷◌, ◌++◌, Option, Some, None, take, if◌then◌else◌}
use Rattle.std.specs.List.{slice_get}
use Rattle.desk_common.specs.Limits.{most_literal_bytes}
use Rattle.dsn_mask.specs.Filter.{FilterLists}
use Rattle.acs_tree.specs.declared.input.Input.{Input}
use Rattle.acs_tree.specs.declared.kind.Kind.{Kind}
use Rattle.acs_tree.specs.declared.values.Values.{Values}
use Rattle.acs_tree.specs.Comparands as comparand
use Rattle.acs_tree.specs.Comparands.{Comparand}
use Rattle.acs_tree.specs.Compares.{compares}
use Rattle.acs_tree.specs.Setting.{as_class, text_of, with_class}
use Rattle.acs_tree.specs.Writing.{printed}
use Rattle.acs_tree.specs.Outcome.{Outcome, behind, exits, falls}
use Rattle.acs_tree.specs.Value.{Value}
use Rattle.acs_tree.specs.Variables.{variable_value}
use Rattle.acs_code.specs.declared.instr.Instr.{Instr}
use Rattle.acs_code.specs.declared.instr.Instr.TheVariants.{Test, Jump, SetClass, SetGroups, Write, Exit}
use Rattle.acs_code.specs.declared.part.Part.{Part}
use Rattle.acs_code.specs.declared.part.Part.TheVariants as part
use Rattle.acs_code.specs.declared.probe.Probe.{Probe}
use Rattle.acs_code.specs.declared.right.Right.{Right}
use Rattle.acs_code.specs.declared.right.Right.TheVariants as right
use Rattle.acs_code.specs.declared.slot.Slot.{Slot}

-- the kind of a routine, its instructions and its filter lists
pub record CodeParts : Type 0 where
  pub kind : Kind
  pub instrs : List Instr
  pub filters : List FilterLists

-- what a variable holds
abbrev pub slot_value : Slot → Input → Values → Value
slot_value slot input values = variable_value slot.name slot.index input values

-- a part of a line
abbrev pub part_text : Part → Input → Values → List ℕ
part_text (part.Literal text) input values = text
part_text (part.Var slot) input values = printed (slot_value slot input values)

-- what a class is set to
abbrev pub part_class : Part → Input → Values → List ℕ
part_class (part.Literal text) input values = as_class text
part_class (part.Var slot) input values = text_of (slot_value slot input values)

-- the parts with nothing between them
abbrev pub parts_text : List Part → Input → Values → List ℕ
parts_text [] input values = []
parts_text (part ∷ parts) input values = part_text part input values ++ parts_text parts input values

-- a line is cut to as many bytes as a literal may have
abbrev pub parts_line : List Part → Input → Values → List ℕ
parts_line parts input values = take most_literal_bytes (parts_text parts input values)

-- the filter list, if there is one
abbrev pub filter_comparand : Option FilterLists → Comparand
filter_comparand None = comparand.Nothing
filter_comparand (Some lists) = comparand.Filter lists

-- what the right side is
abbrev pub right_comparand : List FilterLists → Right → Comparand
right_comparand filters (right.Literal text) = comparand.Literal text
right_comparand filters (right.Dots mask) = comparand.Dots mask
right_comparand filters (right.Plain simple) = comparand.Plain simple
right_comparand filters (right.Filter place) = filter_comparand (slice_get filters place)
right_comparand filters (right.Var slot) = comparand.Var slot.name slot.index
right_comparand filters (right.Number number) = comparand.Number number

-- a probe holds
abbrev pub probe_holds : List FilterLists → Probe → Input → Values → Bool
probe_holds filters probe input values =
    compares input values probe.op (slot_value probe.left input values) (right_comparand filters probe.right)

-- from a place and with values the code runs to an outcome: the instruction there acts, and the run goes on at the
-- place that it names, be that later or earlier, or else at the next one; an Exit ends it, and past the end it falls
-- through
pub data RunsTo (code : CodeParts) (input : Input) : ℕ → Values → Outcome → Type 0 where
  test : {place yes' no' : ℕ} {probe : Probe} {values : Values} {outcome : Outcome}
      → slice_get code.instrs place ≡ Some (Test probe yes' no')
      → RunsTo code input (if probe_holds code.filters probe input values then yes' else no') values outcome
      → RunsTo code input place values outcome
  jump : {place to : ℕ} {values : Values} {outcome : Outcome} → slice_get code.instrs place ≡ Some (Jump to)
      → RunsTo code input to values outcome → RunsTo code input place values outcome
  set_class : {place : ℕ} {part : Part} {values : Values} {outcome : Outcome}
      → slice_get code.instrs place ≡ Some (SetClass part)
      → RunsTo code input (suc place) (with_class code.kind (part_class part input values) values) outcome
      → RunsTo code input place values outcome
  set_groups : {place : ℕ} {groups : List (List ℕ)} {values : Values} {outcome : Outcome}
      → slice_get code.instrs place ≡ Some (SetGroups groups)
      → RunsTo code input (suc place) (record values { groups = groups }) outcome
      → RunsTo code input place values outcome
  write : {place : ℕ} {parts : List Part} {values : Values} {outcome : Outcome}
      → slice_get code.instrs place ≡ Some (Write parts)
      → RunsTo code input (suc place) values outcome
      → RunsTo code input place values (behind (parts_line parts input values ∷ []) outcome)
  exit : {place number : ℕ} {values : Values} → slice_get code.instrs place ≡ Some (Exit number)
      → RunsTo code input place values (exits number values)
  past_end : {place : ℕ} {values : Values} → slice_get code.instrs place ≡ None
      → RunsTo code input place values (falls values)

-- with that input and those start values the code comes to an outcome: a run begins at instruction 0
abbrev pub ComesTo : CodeParts → Input → Values → Outcome → Type 0
ComesTo code input = RunsTo code input 0
