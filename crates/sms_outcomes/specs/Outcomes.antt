-- What classifications come to, as members of an object of JSON (docs/manual/tool.md, "For other tools").
use Rattle.std.specs.Prelude.{ℕ, List, [], ◌∷◌, codes}
use Rattle.acs_tree.specs.Slates.{SlateLines}
use Rattle.serde_json.specs.Data.{Data, null, string, array, Items, no_items, item, Members, no_members, member}
use Rattle.sms_classes.specs.declared.classified.Classified.{Classified}
use Rattle.sms_script.specs.TraceText.{trace_lines}
use Rattle.desk_law.specs.Classification.{Classes}
use Rattle.sms_simulation.specs.OutcomeText.{outcome_text}

-- a classification, and the lines that its routines wrote, come to this
abbrev pub classes_made : Classified → SlateLines → Classes
classes_made classified written = record { values = classified.values; written = written; stop = classified.stop }

-- the outcome of a classification
abbrev pub outcome_of : Classes → List ℕ
outcome_of classes = outcome_text classes.stop classes.values

-- a class, or null for none
abbrev pub class_value : List ℕ → Data
class_value [] = null
class_value (byte ∷ bytes) = string (byte ∷ bytes)

-- texts, in their order
abbrev pub text_values : List (List ℕ) → Items
text_values [] = no_items
text_values (text ∷ texts) = item (string text) (text_values texts)

-- the lines that the routines wrote, as they are told
abbrev pub written_lines : SlateLines → List (List ℕ)
written_lines written = trace_lines (record { lines = written.lines; more = written.more })

-- what a classification comes to: its outcome, what the variables hold at the end, and the lines that the routines
-- wrote
abbrev pub side_members : Classes → Members
side_members classes =
    member (codes "outcome") (string (outcome_of classes))
    (member (codes "dataclas") (class_value classes.values.dataclas)
    (member (codes "storclas") (class_value classes.values.storclas)
    (member (codes "mgmtclas") (class_value classes.values.mgmtclas)
    (member (codes "groups") (array (text_values classes.values.groups))
    (member (codes "written") (array (text_values (written_lines classes.written))) no_members)))))
