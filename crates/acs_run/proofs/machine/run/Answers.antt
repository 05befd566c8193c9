use Rattle.std.proofs.Common.{◌≡◌, ◌∙◌, length, refl, sym, ap, arith}
use Rattle.acs_tree.specs.KeptLines.{kept_lines_of}
use Rattle.acs_tree.specs.Outcome.{Outcome}
use Rattle.acs_tree.specs.Slates.{with_kept_lines}
use Rattle.acs_code.specs.Inner.Steps.{rest_of}
use Rattle.acs_code.proofs.RunLemmas.{comes_to_rest, past_all, rest_is}
use Rattle.acs_run.specs.Inner.Steps.{with_lines}
use Rattle.acs_run.proofs.KeptLemmas.{all_at_once, keeps_other_kinds}
use Rattle.acs_run.proofs.machine.run.Goals as goal

pub returns-in-Exited-clause-comes : goal.returns-in-Exited-clause-comes
returns-in-Exited-clause-comes c = (rest_of c.args.code.now c.args.input.now 0 c.args.values.now, comes_to_rest c.args.code.now c.args.input.now c.instrs-end.ensures.forward c.args.values.now)

pub returns-in-Exited-clause-ending : goal.returns-in-Exited-clause-ending
returns-in-Exited-clause-ending c = λ came runs.
    c.in-Exited.ensures.leads.1 ∙ sym c.loop-place.invariant.2.ending ∙ ap (λ (o : Outcome). o.ending) (rest_is c.args.code.now c.args.input.now c.instrs-end.ensures.forward runs)

pub returns-in-Exited-clause-values : goal.returns-in-Exited-clause-values
returns-in-Exited-clause-values c = λ came runs.
    c.in-Exited.ensures.leads.0 ∙ sym c.loop-place.invariant.2.values ∙ ap (λ (o : Outcome). o.values) (rest_is c.args.code.now c.args.input.now c.instrs-end.ensures.forward runs)

pub returns-in-Exited-clause-lines : goal.returns-in-Exited-clause-lines
returns-in-Exited-clause-lines c = λ came runs.
    c.in-Exited.ensures.leads.2 ∙ sym c.loop-place.invariant.2.written
    ∙ all_at_once c.args.code.now.kind c.args.slate.now (rest_of c.args.code.now c.args.input.now 0 c.args.values.now).lines c.lines-written.ensures.form c.requires
    ∙ ap (λ (o : Outcome). with_kept_lines c.args.code.now.kind (kept_lines_of o.lines) c.args.slate.now) (rest_is c.args.code.now c.args.input.now c.instrs-end.ensures.forward runs)

pub returns-in-Exited-clause-other_kinds : goal.returns-in-Exited-clause-other_kinds
returns-in-Exited-clause-other_kinds c = keeps_other_kinds _ _ (returns-in-Exited-clause-lines c _ (comes_to_rest c.args.code.now c.args.input.now c.instrs-end.ensures.forward c.args.values.now))

pub returns-clause-comes : goal.returns-clause-comes
returns-clause-comes c = (rest_of c.args.code.now c.args.input.now 0 c.args.values.now, comes_to_rest c.args.code.now c.args.input.now c.instrs-end.ensures.forward c.args.values.now)

pub returns-clause-ending : goal.returns-clause-ending
returns-clause-ending c = λ came runs.
    let long : length c.instrs-end.result.now ≡ length c.args.code.now.instrs = ap length c.instrs-end.ensures.instrs in
    let past = past_all c.args.code.now c.args.input.now (length c.args.code.now.instrs) c.loop-place.place c.loop-place.values (omega (arith, c.loop-place-test.false, long)) in
    sym (c.loop-place.invariant.2.ending ∙ ap (λ (o : Outcome). o.ending) past) ∙ ap (λ (o : Outcome). o.ending) (rest_is c.args.code.now c.args.input.now c.instrs-end.ensures.forward runs)

pub returns-clause-values : goal.returns-clause-values
returns-clause-values c = λ came runs.
    let long : length c.instrs-end.result.now ≡ length c.args.code.now.instrs = ap length c.instrs-end.ensures.instrs in
    let past = past_all c.args.code.now c.args.input.now (length c.args.code.now.instrs) c.loop-place.place c.loop-place.values (omega (arith, c.loop-place-test.false, long)) in
    sym (c.loop-place.invariant.2.values ∙ ap (λ (o : Outcome). o.values) past) ∙ ap (λ (o : Outcome). o.values) (rest_is c.args.code.now c.args.input.now c.instrs-end.ensures.forward runs)

pub returns-clause-lines : goal.returns-clause-lines
returns-clause-lines c = λ came runs.
    let long : length c.instrs-end.result.now ≡ length c.args.code.now.instrs = ap length c.instrs-end.ensures.instrs in
    let past = past_all c.args.code.now c.args.input.now (length c.args.code.now.instrs) c.loop-place.place c.loop-place.values (omega (arith, c.loop-place-test.false, long)) in
    sym (ap (λ (o : Outcome). with_lines c.args.code.now.kind c.loop-place.slate o.lines) past) ∙ sym c.loop-place.invariant.2.written
    ∙ all_at_once c.args.code.now.kind c.args.slate.now (rest_of c.args.code.now c.args.input.now 0 c.args.values.now).lines c.lines-written.ensures.form c.requires
    ∙ ap (λ (o : Outcome). with_kept_lines c.args.code.now.kind (kept_lines_of o.lines) c.args.slate.now) (rest_is c.args.code.now c.args.input.now c.instrs-end.ensures.forward runs)

pub returns-clause-other_kinds : goal.returns-clause-other_kinds
returns-clause-other_kinds c = keeps_other_kinds _ _ (returns-clause-lines c _ (comes_to_rest c.args.code.now c.args.input.now c.instrs-end.ensures.forward c.args.values.now))

pub loop-place-init : goal.loop-place-init
loop-place-init c = (omega arith, c.new-memo.ensures c.args.code.now.filters c.args.input.now.dsn, record { values = refl; ending = refl; written = refl })
