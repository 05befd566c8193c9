use Rattle.std.proofs.Common.{◌≡◌, ◌++◌, ◌∙◌, ℕ, List, None, Some, ap, sym}
use Rattle.acs_tree.specs.declared.values.Values.{Values}
use Rattle.desk_law.specs.Allocation.{data_class_of, space_of}
use Rattle.sms_volumes.specs.Asking.{ask_of}
use Rattle.volume_reasons.specs.EmptyDesk.{empty_under}
use Rattle.volume_reasons.proofs.EmptyLemmas.{lawful-empty, spaceless-text, stands-empty, wish-text}
use Rattle.volume_reasons.proofs.explaining.push_done.Goals as goal

pub push_listed-requires-clause-stand : goal.push_listed-requires-clause-stand
push_listed-requires-clause-stand c = stands-empty c.args.config.now c.args.volumes.now c.deck-deck.ensures.form c.requires.stand

pub returns-in_ok-push_listed-in-Some : goal.returns-in_ok-push_listed-in-Some
returns-in_ok-push_listed-in-Some c = λ classes same.
    let config = c.args.config.now in
    let alloc = c.args.allocation.now in
    let asked = c.asked_for-asked.result in
    let there : space_of alloc (data_class_of config classes.values.dataclas) ≡ Some c.in-Some.space =
    ap (λ (v : Values). space_of alloc (data_class_of config v.dataclas)) same ∙ sym (ap (space_of alloc) c.data_class_of.ensures) ∙ sym c.space_of.ensures ∙ c.in-Some.is in
    c.in_ok-push_listed-in-Some.ensures (empty_under config) (lawful-empty config c.deck-deck.ensures.form) c.requires.stand
    ∙ ap (λ (l : List ℕ). c.args.text.now.items ++ l)
    (wish-text config alloc classes c.in-Some.space c.as_slice-groups.result.now (ask_of asked) there (c.as_slice-groups.ensures.names ∙ sym (ap (λ (v : Values). v.groups) same)) (c.asked_for-asked.ensures.value classes same))

pub returns-in_ok-extend_from_slice-in-None : goal.returns-in_ok-extend_from_slice-in-None
returns-in_ok-extend_from_slice-in-None c = λ classes same.
    let config = c.args.config.now in
    let alloc = c.args.allocation.now in
    let none : space_of alloc (data_class_of config classes.values.dataclas) ≡ None =
    ap (λ (v : Values). space_of alloc (data_class_of config v.dataclas)) same ∙ sym (ap (space_of alloc) c.data_class_of.ensures) ∙ sym c.space_of.ensures ∙ c.in-None.is in
    c.in_ok-extend_from_slice-in-None.ensures.items ∙ ap (λ (l : List ℕ). c.args.text.now.items ++ l) (sym (spaceless-text config alloc classes none))
