-- What a classification comes to, as text (docs/manual/tool.md, "Simulating a script").
use Rattle.std.specs.Prelude.{ℕ, List, [], ◌∷◌, ◌++◌, codes, decimal, flat_map}
use Rattle.acs_tree.specs.Variables.{name_of}
use Rattle.acs_tree.specs.Writing.{listed}
use Rattle.acs_tree.specs.declared.values.Values.{Values}
use Rattle.sms_construct.specs.declared.trace.Trace.{Trace}
use Rattle.sms_script.specs.NameText.{spaced, value_text}
use Rattle.sms_script.specs.TraceText.{trace_lines}
use Rattle.desk_law.specs.Classification.{Classes, trace_of}
use Rattle.sms_construct.specs.declared.stop.Stop.{Stop}
use Rattle.sms_construct.specs.declared.stop.Stop.TheVariants as stops

-- the classes and the storage groups
abbrev pub classes_text : Values → List ℕ
classes_text values =
    spaced (codes "CLASSES" ∷ value_text values.dataclas ∷ value_text values.storclas
    ∷ value_text values.mgmtclas ∷ listed values.groups ∷ [])

-- how a classification ends
abbrev pub outcome_text : Stop → Values → List ℕ
outcome_text stops.Done values = classes_text values
outcome_text stops.Unmanaged values = codes "UNMANAGED"
outcome_text (stops.Exit kind code) values = spaced (codes "EXIT" ∷ name_of kind ∷ decimal code ∷ [])
outcome_text (stops.Unknown kind name) values = spaced (codes "UNKNOWN" ∷ name_of kind ∷ value_text name ∷ [])
outcome_text stops.NoGroup values = codes "NO GROUP"

-- the line of a classification for this line of the script, job and number
abbrev pub outcome_line : ℕ → List ℕ → ℕ → Stop → Values → List ℕ
outcome_line line job number stop values = spaced (decimal line ∷ job ∷ decimal number ∷ outcome_text stop values ∷ [])

-- a line with this front, and LF behind it
abbrev pub behind : List ℕ → List ℕ → List ℕ
behind front line = front ++ line ++ 10 ∷ []

-- that line, and the lines that the routines wrote, each behind two blanks
abbrev pub classified_text : ℕ → List ℕ → ℕ → Stop → Values → Trace → List ℕ
classified_text line job number stop values trace =
    outcome_line line job number stop values ++ 10 ∷ [] ++ flat_map (behind (codes "  ")) (trace_lines trace)

-- the same of classes
abbrev pub text_of_classes : ℕ → List ℕ → ℕ → Classes → List ℕ
text_of_classes line job number classes = classified_text line job number classes.stop classes.values (trace_of classes)
