use Rattle.std.proofs.Common.{rules, ◌≡◌, ◌<◌, length, take, add-one, arith, sym, subst, ap, ◌∙◌}
use Rattle.desk_plan.proofs.FrontLemmas.{take-more, take-whole}
use Rattle.serve_calls.specs.ServeEnds.{AllowsStatus}
use Rattle.serve_calls.proofs.serve.status_of.Goals as goal

-- one more door ended
pub loop-end-preserved : goal.loop-end-preserved
loop-end-preserved c =
    let i = c.loop-end.end-index in
    let ends = c.args.ends.now in
    let inside : i < length ends = omega (arith, c.loop-end-test.true) in
    let next = c.in_ok-done.ensures (take i ends) c.loop-end.invariant in
    rw add-one (subst (λ l. AllowsStatus l c.in_ok-done.done) (sym (take-more ends i _ inside (search rules))) next)

-- all have
pub returns : goal.returns
returns c =
    let ends = c.args.ends.now in
    let all : c.loop-end.end-index ≡ length ends = omega (arith, c.loop-end-test.false, c.loop-end.auto.end-index-end) in
    subst (λ l. AllowsStatus l c.loop-end.done) (ap (λ n. take n ends) all ∙ take-whole ends) c.loop-end.invariant
