-- The parts of records as they are written in JSON.
use Rattle.std.specs.Prelude.{ℕ, List, ◌++◌, codes, decimal, false}
use Rattle.json.specs.Print.{quoted}
use Rattle.serde_json.specs.Written.{compact_text, items_text, members_text}
use Rattle.sms_script.specs.declared.item.Item.{Item}
use Rattle.desk_law.specs.Classification.{Classes}
use Rattle.sms_outcomes.specs.Outcomes.{class_value, outcome_of, side_members, text_values, written_lines}

-- what a classification comes to
abbrev pub side_piece : Classes → List ℕ
side_piece classes =
    codes "\"outcome\":" ++ (quoted (outcome_of classes)
    ++ (codes ",\"dataclas\":" ++ (compact_text (class_value classes.values.dataclas)
    ++ (codes ",\"storclas\":" ++ (compact_text (class_value classes.values.storclas)
    ++ (codes ",\"mgmtclas\":" ++ (compact_text (class_value classes.values.mgmtclas)
    ++ (codes ",\"groups\":[" ++ (items_text false (text_values classes.values.groups)
    ++ (codes ",\"written\":[" ++ (items_text false (text_values (written_lines classes.written))
    ++ codes "}")))))))))))

-- the line of an item in its script, its job and its number
abbrev pub head_piece : Item → List ℕ
head_piece item =
    codes "{\"line\":" ++ (decimal item.line ++ (codes ",\"job\":" ++ (quoted item.request.job
    ++ (codes ",\"number\":" ++ (decimal item.request.number ++ codes ",")))))

-- the ALLOC of an item, and what it comes to
abbrev pub item_piece : Item → Classes → List ℕ
item_piece item classes = head_piece item ++ members_text false (side_members classes)
