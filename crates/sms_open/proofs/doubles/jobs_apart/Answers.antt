use Rattle.std.proofs.Common.{◌≡◌, map, ◌∙◌}
use Rattle.sms_keeper.specs.declared.floor.Floor.{Floor}
use Rattle.sms_open.proofs.NameLemmas.{jobs-told}
use Rattle.sms_open.proofs.doubles.jobs_apart.Goals as goal

pub returns : goal.returns
returns c =
    let keys : c.deref.result.now ≡ map (λ (floor : Floor). floor.job) c.args.floors.now = c.deref.ensures.value ∙ c.in_ok-jobs.ensures in
    jobs-told c.are_apart.result c.args.floors.now (rw keys at c.are_apart.ensures)
