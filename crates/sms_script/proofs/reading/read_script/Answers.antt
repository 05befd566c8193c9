use Rattle.std.proofs.Common.{◌≡◌, ◌++◌, ◌∷◌, [], Ok, length, sym, ap, ◌∙◌, rules, arith}
use Rattle.std.proofs.lemmas.Grind.{common_steps}
use Rattle.sms_script.specs.Inner.Reading.{after, found_before, script_behind}
use Rattle.sms_script.specs.Script.{script_of}
use Rattle.sms_script.proofs.PhaseLemmas.{after_item, after_last, after_none, after_phase, no_bytes}
use Rattle.sms_script.proofs.reading.read_script.Goals as goal

pub loop-rest-init : goal.loop-rest-init
loop-rest-init c = rw (c.new-phases.ensures, c.new-phase.ensures) (record {
  script = after_none (script_of c.args.bytes.now);
  few = omega arith;
  commands = omega arith;
})

-- the item joins its phase
pub loop-rest-preserved-in_ok-push_item-in-Asked : goal.loop-rest-preserved-in_ok-push_item-in-Asked
loop-rest-preserved-in_ok-push_item-in-Asked c =
    let next = c.in_ok-found.field-0 in
    let found = c.in_ok-found.ensures in
    let script : after c.loop-rest.phases c.loop-rest.phase (found_before next.found (script_behind next.passed next.rest.now)) ≡ script_of c.args.bytes.now = rw found.next at c.loop-rest.invariant.script in
    let grown : c.push_item.new.phase ≡ c.loop-rest.phase ++ c.in-Asked.item ∷ [] = search rules in
    record {
      script = ap (λ phase. after c.loop-rest.phases phase (script_behind next.passed next.rest.now)) grown
          ∙ sym (after_item c.loop-rest.phases c.loop-rest.phase c.in-Asked.item (script_behind next.passed next.rest.now)) ∙ rw c.in-Asked.is at script;
      few = omega (arith, found.fewer, c.loop-rest.invariant.few);
      commands = found.few;
    }

-- the phase ends
pub loop-rest-preserved : goal.loop-rest-preserved
loop-rest-preserved c =
    let next = c.in_ok-found.field-0 in
    let found = c.in_ok-found.ensures in
    let script : after c.loop-rest.phases c.loop-rest.phase (found_before next.found (script_behind next.passed next.rest.now)) ≡ script_of c.args.bytes.now = rw found.next at c.loop-rest.invariant.script in
    let grown : c.push_phase.new.phases ≡ c.loop-rest.phases ++ c.loop-rest.phase ∷ [] = search rules in
    record {
      script = ap (λ phases. after phases c.new-phase-in-PhaseEnd.result (script_behind next.passed next.rest.now)) grown
          ∙ ap (λ phase. after (c.loop-rest.phases ++ c.loop-rest.phase ∷ []) phase (script_behind next.passed next.rest.now)) c.new-phase-in-PhaseEnd.ensures
          ∙ sym (after_phase c.loop-rest.phases c.loop-rest.phase (script_behind next.passed next.rest.now)) ∙ rw c.in-PhaseEnd.is at script;
      few = omega (arith, found.fewer, c.loop-rest.invariant.few);
      commands = found.few;
    }

-- the last phase ends with the text
pub returns-clause-script : goal.returns-clause-script
returns-clause-script c =
    let count : length c.loop-rest.rest.now ≡ 0 = grind (arith, common_steps, c.is_empty.ensures, c.loop-rest-test.false) in
    let none = no_bytes c.loop-rest.rest.now count in
    let script : after c.loop-rest.phases c.loop-rest.phase (Ok ([] ∷ [])) ≡ script_of c.args.bytes.now = rw none at c.loop-rest.invariant.script in
    let grown : c.push_phase-2.new.phases ≡ c.loop-rest.phases ++ c.loop-rest.phase ∷ [] = search rules in
    sym script ∙ after_last c.loop-rest.phases c.loop-rest.phase ∙ ap (λ phases. Ok phases) (sym grown)
