use Rattle.std.proofs.Common.{◌≡◌, ◌-◌, sym, ap, subst, ◌∙◌, length, take, drop, bytes_eq, Decides, arith}
use Rattle.std.proofs.lemmas.Grind.{common_steps}
use Rattle.std.specs.List.{list_all}
use Rattle.sms_script.specs.declared.item.Item.{Item}
use Rattle.desk_plan.specs.Numbering.{AreOfOneJob}
use Rattle.desk_plan.proofs.NumberingLemmas.{one-job}
use Rattle.desk_plan.proofs.planning.has_one_job.Goals as goal

-- the others are of the first one's job
pub returns-in-len1-up : goal.returns-in-len1-up
returns-in-len1-up c =
    let items = c.args.items.now in
    let first = c.first-item.result in
    let one = one-job items first c.in-len1-up.len_at_least c.first-item.is in
    let rest : take (length items - 1) (drop 1 items) ≡ drop 1 items = grind (arith, common_steps) in
    let all = c.are_of.ensures ∙ ap (list_all (λ (item : Item). bytes_eq item.request.job first.request.job)) rest in
    record { one = subst (λ b. Decides b (AreOfOneJob items)) (sym all) one }
