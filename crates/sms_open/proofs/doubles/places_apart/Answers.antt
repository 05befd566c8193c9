use Rattle.std.proofs.Common.{◌≡◌, map, ◌∙◌}
use Rattle.sms_keeper.specs.declared.kept_row.KeptRow.{KeptRow}
use Rattle.sms_open.proofs.NameLemmas.{places-told}
use Rattle.sms_open.proofs.doubles.places_apart.Goals as goal

pub returns : goal.returns
returns c =
    let keys : c.deref.result.now ≡ map (λ (row : KeptRow). row.place) c.args.replies.now = c.deref.ensures.value ∙ c.in_ok-places.ensures in
    places-told c.are_apart.result c.args.replies.now (rw keys at c.are_apart.ensures)
