-- The faults of a deck as text.
use Rattle.std.specs.Prelude.{ℕ, List, [], ◌∷◌, ◌++◌, decimal, codes}
use Rattle.acs_tree.specs.Variables.{name_of}
use Rattle.sms_construct.specs.declared.fault.Fault.{Fault}
use Rattle.sms_construct.specs.declared.fault.Fault.TheVariants.{NotBuilt, NotToml, UnknownKey, Missing, BadValue}
use Rattle.sms_construct.specs.declared.fault.Fault.TheVariants.{BadName, TwoGroups, Routine, Unassigned, TooMany}
use Rattle.sms_construct.specs.declared.stage.Stage.{Stage}
use Rattle.sms_construct.specs.declared.stage.Stage.TheVariants.{Scanner, Parser, Checks}
use Rattle.sms_construct.specs.declared.text_fault.TextFault.{TextFault}
use Rattle.sms_script.specs.NameText.{spaced}

-- the letter of a stage
abbrev pub stage_text : Stage → List ℕ
stage_text Scanner = codes "L"
stage_text Parser = codes "P"
stage_text Checks = codes "C"

-- the letter and the number of a routine's fault, and its place
abbrev pub text_fault_text : TextFault → List ℕ
text_fault_text fault = spaced ((stage_text fault.stage ++ decimal fault.number) ∷ decimal fault.at ∷ [])

-- the fault's code, and what it shows
abbrev pub fault_text : Fault → List ℕ
fault_text (NotBuilt path) = codes "K0 " ++ path
fault_text NotToml = codes "K1"
fault_text (UnknownKey path) = codes "K2 " ++ path
fault_text (Missing path) = codes "K3 " ++ path
fault_text (BadValue path) = codes "K4 " ++ path
fault_text (BadName path) = codes "K5 " ++ path
fault_text (TwoGroups volser) = codes "K6 " ++ volser
fault_text (Routine kind fault) = spaced (codes "K7" ∷ name_of kind ∷ text_fault_text fault ∷ [])
fault_text (Unassigned kind name) = spaced (codes "K8" ∷ name_of kind ∷ name ∷ [])
fault_text (TooMany path) = codes "K9 " ++ path
