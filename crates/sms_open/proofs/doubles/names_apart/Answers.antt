use Rattle.std.proofs.Common.{◌≡◌, map, ◌∙◌}
use Rattle.sms_construct.specs.declared.data_set.DataSet.{DataSet}
use Rattle.sms_open.proofs.NameLemmas.{names-told}
use Rattle.sms_open.proofs.doubles.names_apart.Goals as goal

pub returns : goal.returns
returns c =
    let keys : c.deref.result.now ≡ map (λ (set : DataSet). set.dsn) c.args.sets.now = c.deref.ensures.value ∙ c.in_ok-names.ensures in
    names-told c.are_apart.result c.args.sets.now (rw keys at c.are_apart.ensures)
