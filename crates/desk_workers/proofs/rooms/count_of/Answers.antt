use Rattle.std.proofs.Common.{◌≡◌, ◌+◌, ◌∷◌, ◌++◌, [], true, false, suc, ◌==◌, take, get_or}
use Rattle.std.proofs.Common.{add-one, arith, rules}
use Rattle.desk_plan.specs.Sharing.{times}
use Rattle.desk_plan.proofs.FrontLemmas.{any-default, take-more}
use Rattle.desk_plan.proofs.SharingLemmas.{times-push}
use Rattle.desk_workers.proofs.rooms.count_of.Goals as goal
use Rattle.desk_workers.proofs.rooms.count_of.Goals.{then-worker-me, else-worker-me}

-- one more place is counted, where it names the worker
pub loop-worker-preserved : goal.loop-worker-preserved
loop-worker-preserved c =
    let i = c.loop-worker.worker-index in
    let plan = c.args.plan.now in
    let me = c.args.me in
    let before = c.loop-worker.invariant in
    let p = get_or plan i 0 in
    let more : take (suc i) plan ≡ take i plan ++ p ∷ [] = take-more plan i p c.loop-worker-test.true (any-default plan i 0 p c.loop-worker-test.true) in
    rw (add-one, more) (elim c.if-worker-me.branch [
      | then-worker-me w ↦
          let is : (p == me) ≡ true = search rules in
          let one : times me (take i plan ++ p ∷ []) ≡ times me (take i plan) + 1 = rw is at (times-push me (take i plan) p) in
          (omega (arith, w.count-is, one, before.0), omega (arith, w.count-is, before.1))
      | else-worker-me w ↦
          let not : (p == me) ≡ false = search rules in
          let none : times me (take i plan ++ p ∷ []) ≡ times me (take i plan) + 0 = rw not at (times-push me (take i plan) p) in
          (omega (arith, w.count-is, none, before.0), omega (arith, w.count-is, before.1))
    ])
