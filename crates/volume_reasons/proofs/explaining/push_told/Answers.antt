use Rattle.sms_explain.specs.Explanation.{told_of}
use Rattle.sms_simulation.specs.Simulation.{alloc_of}
use Rattle.volume_reasons.specs.Explained.{volumes_if}
use Rattle.volume_reasons.proofs.ExplainedLemmas.{in_two}
use Rattle.volume_reasons.proofs.explaining.push_told.Goals as goal

pub returns : goal.returns
returns c =
    let item = c.args.item.now in
    let config = c.args.config.now in
    in_two c.args.text.now.items (told_of config c.args.sources.now item) (volumes_if config item.request.job (alloc_of item.request.op))
    c.push_item.new.text.items c.push_item_volumes.new.text.items c.in_ok-push_item.ensures c.in_ok-push_item_volumes.ensures
