use Rattle.std.proofs.Common.{◌≡◌, ◌∷◌, ◌++◌, [], suc, take, add-one, arith, ap, ◌∙◌}
use Rattle.sms_script.specs.declared.item.Item.{Item}
use Rattle.desk_plan.specs.Plan.{plan_of, worker_in}
use Rattle.desk_plan.proofs.FrontLemmas.{mapped-more}
use Rattle.desk_plan.proofs.planning.plan.Goals as goal

-- the next item has its worker
pub loop-item-preserved : goal.loop-item-preserved
loop-item-preserved c =
    let before = c.loop-item.invariant in
    let numbers = c.args.numbers.now in
    let workers = c.args.workers in
    let items = c.args.items.now in
    let i = c.loop-item.item-index in
    let item = c.item-item.result in
    let more : plan_of numbers workers (take i items) ++ worker_in numbers workers item.request.job ∷ [] ≡ plan_of numbers workers (take (suc i) items) =
    mapped-more (λ (each : Item). worker_in numbers workers each.request.job) items i item c.loop-item-test.true c.item-item.is in
    let grown : c.push_reserved.new.self.items ≡ plan_of numbers workers (take i items) ++ worker_in numbers workers item.request.job ∷ [] =
    c.push_reserved.ensures.items ∙ ap (λ ps. ps ++ c.worker.result ∷ []) before.0 ∙ ap (λ p. plan_of numbers workers (take i items) ++ p ∷ []) c.worker.ensures.value in
    rw add-one (grown ∙ more, (omega (arith, c.push_reserved.ensures.len, before.1.0), omega (arith, before.1.1, c.push_reserved.ensures.capacity)))
