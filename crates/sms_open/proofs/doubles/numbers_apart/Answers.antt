use Rattle.std.proofs.Common.{◌≡◌, map, ◌∙◌}
use Rattle.sms_open.specs.Inner.Targets.{key_of_row}
use Rattle.sms_open.proofs.NameLemmas.{numbers-told}
use Rattle.sms_open.proofs.doubles.numbers_apart.Goals as goal

pub returns : goal.returns
returns c =
    let keys : c.deref.result.now ≡ map key_of_row c.args.replies.now = c.deref.ensures.value ∙ c.in_ok-keys.ensures in
    numbers-told c.are_apart.result c.args.replies.now (rw keys at c.are_apart.ensures)
