-- The parts stand one behind the other.
use Rattle.std.proofs.Common.{◌++◌, ◌∙◌, ℕ, List, ap, codes, false}
use Rattle.json.specs.Print.{quoted}
use Rattle.serde_json.specs.Written.{compact_text, items_text}
use Rattle.sms_simulation.specs.OutcomeText.{outcome_text}
use Rattle.sms_outcomes.specs.Outcomes.{class_value, text_values, written_lines}
use Rattle.sms_outcomes.proofs.PieceLemmas.{behind}
use Rattle.sms_outcomes.proofs.members.push_parts.Goals as goal

pub returns : goal.returns
returns c =
    let made = c.args.made.now in
    let outcome : List ℕ = codes "\"outcome\":" ++ quoted (outcome_text made.stop made.values) in
    let datas : List ℕ = codes ",\"dataclas\":" ++ compact_text (class_value made.values.dataclas) in
    let storage : List ℕ = codes ",\"storclas\":" ++ compact_text (class_value made.values.storclas) in
    let management : List ℕ = codes ",\"mgmtclas\":" ++ compact_text (class_value made.values.mgmtclas) in
    let named : List (List ℕ) → List ℕ = λ (names : List (List ℕ)). codes ",\"groups\":[" ++ items_text false (text_values names) in
    let written : List ℕ = codes ",\"written\":[" ++ items_text false (text_values (written_lines c.args.written.now)) in
    let start : List ℕ = c.args.text.now.items in
    let one : List ℕ = c.push_outcome_of.new.text.items in
    let two : List ℕ = c.push_class.new.text.items in
    let three : List ℕ = c.push_class-2.new.text.items in
    let four : List ℕ = c.push_class-3.new.text.items in
    let five : List ℕ = c.push_groups.new.text.items in
    let six : List ℕ = c.push_written.new.text.items in
    let now : List ℕ = c.push.new.self.items in
    let groups = named made.values.groups in
    let put = c.in_ok-push_groups.ensures ∙ ap (λ (names : List (List ℕ)). four ++ named names) c.as_slice.ensures.names in
    let last = behind five written six (codes "}") now c.in_ok-push_written.ensures c.in_ok-push.ensures.items in
    let lists = behind four groups five (written ++ codes "}") now put last in
    let third = behind three management four (groups ++ (written ++ codes "}")) now c.in_ok-push_class-3.ensures lists in
    let second = behind two storage three (management ++ (groups ++ (written ++ codes "}"))) now c.in_ok-push_class-2.ensures third in
    let first = behind one datas two (storage ++ (management ++ (groups ++ (written ++ codes "}")))) now c.in_ok-push_class.ensures second in
    behind start outcome one (datas ++ (storage ++ (management ++ (groups ++ (written ++ codes "}"))))) now c.in_ok-push_outcome_of.ensures first
