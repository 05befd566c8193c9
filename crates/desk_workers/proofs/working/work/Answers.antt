use Rattle.std.proofs.Common.{◌≡◌, ◌<◌, ◌∷◌, ◌++◌, [], true, false, suc, ◌==◌, length, take, get_or}
use Rattle.std.proofs.Common.{add-one, arith, sym, ◌∙◌, rules}
use Rattle.desk_plan.proofs.FrontLemmas.{any-default, take-length, take-more, times-less}
use Rattle.desk_workers.specs.Inner.Worked.{HasAnswered}
use Rattle.desk_workers.proofs.WorkedLemmas.{worked-none, worked-push, worked-skip}
use Rattle.desk_workers.proofs.working.work.Goals as goal
use Rattle.desk_workers.proofs.working.work.Goals.{then-plan-at, else-plan-at}

pub loop-at-init : goal.loop-at-init
loop-at-init g c = worked-none c.args.desk.now.lock.table.shared.table_id c.args.me c.args.plan.now c.args.seat.now c.requires.ready

-- there is room for the answer
pub answer-requires : goal.answer-requires
answer-requires g c =
    let less : c.loop-at.at < length c.args.plan.now = omega (arith, c.loop-at-test.true, c.requires.each) in
    let here : c.args.me ≡ get_or c.args.plan.now c.loop-at.at c.args.me = search rules in
    record {
      job = c.loop-at.invariant.job;
      room = omega (arith, times-less c.args.me c.args.plan.now c.loop-at.at less here, c.loop-at.invariant.each, c.loop-at.invariant.capacity, c.requires.ready.room, c.loop-at.seat.answers.ok);
    }

-- one more item is answered, or is another worker's
pub loop-at-preserved : goal.loop-at-preserved
loop-at-preserved g c =
    let i = c.loop-at.at in
    let plan = c.args.plan.now in
    let items = c.args.items.now in
    let lock = c.args.desk.now.lock.table.shared.table_id in
    let p = get_or plan i 0 in
    let x = c.index-items-at.result in
    let inside : i < length plan = omega (arith, c.loop-at-test.true, c.requires.each) in
    let within : i < length items = omega (arith, c.loop-at-test.true) in
    let more : take (suc i) plan ≡ take i plan ++ p ∷ [] = take-more plan i p inside (any-default plan i 0 p inside) in
    let there : x ≡ get_or items i x = search rules in
    let next : take (suc i) items ≡ take i items ++ x ∷ [] = take-more items i x within there in
    let same : length (take i items) ≡ length (take i plan) = take-length items i (omega (arith, within)) ∙ sym (take-length plan i (omega (arith, inside))) in
    rw (add-one, more, next) (elim c.if-plan-at.branch [
      | then-plan-at w ↦
          let is : (p == c.args.me) ≡ true = search rules in
          let one : HasAnswered lock x c.loop-at.seat w.answer.new.seat = w.answer.ensures in
          rw w.seat-is (worked-push lock c.args.me p x (take i plan) (take i items) c.args.seat.now c.loop-at.seat w.answer.new.seat c.loop-at.invariant one is same)
      | else-plan-at w ↦
          let not : (p == c.args.me) ≡ false = search rules in
          rw w.seat-is (worked-skip lock c.args.me p x (take i plan) (take i items) c.args.seat.now c.loop-at.seat c.loop-at.invariant not same)
    ])
