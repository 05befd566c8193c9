-- The parts stand one behind the other.
use Rattle.std.proofs.Common.{◌++◌, ◌∙◌, ℕ, List, ap, codes, false}
use Rattle.json.specs.Print.{quoted}
use Rattle.serde_json.specs.Written.{members_text}
use Rattle.sms_outcomes.specs.Outcomes.{classes_made, side_members}
use Rattle.acs_test.specs.Inner.Pieces.{differs_piece}
use Rattle.acs_test.proofs.RecordTextLemmas.{behind}
use Rattle.acs_test.proofs.case_json.push_parts.Goals as goal

pub returns : goal.returns
returns c =
    let before = classes_made c.args.before.now c.args.old.now in
    let after = classes_made c.args.after.now c.args.new.now in
    let named : List ℕ = codes "{\"case\":" ++ quoted c.args.case.now.name in
    let differs : List ℕ = differs_piece c.args.same in
    let old : List ℕ = codes ",\"old\":{" ++ members_text false (side_members before) in
    let new : List ℕ = codes ",\"new\":{" ++ members_text false (side_members after) in
    let start : List ℕ = c.args.text.now.items in
    let one : List ℕ = c.push_text.new.text.items in
    let two : List ℕ = c.extend_from_slice.new.self.items in
    let three : List ℕ = c.push_side.new.text.items in
    let four : List ℕ = c.push_side-2.new.text.items in
    let now : List ℕ = c.push.new.self.items in
    let case = c.in_ok-push_text.ensures ∙ ap (λ (name : List ℕ). start ++ (codes "{\"case\":" ++ quoted name)) c.bytes.ensures.bytes in
    let word = c.in_ok-extend_from_slice.ensures.items ∙ ap (λ (t : List ℕ). one ++ t) c.differs_piece.ensures in
    let last = behind three new four (codes "}") now c.in_ok-push_side-2.ensures c.in_ok-push.ensures.items in
    let sides = behind two old three (new ++ codes "}") now c.in_ok-push_side.ensures last in
    let told = behind one differs two (old ++ (new ++ codes "}")) now word sides in
    behind start named one (differs ++ (old ++ (new ++ codes "}"))) now case told
