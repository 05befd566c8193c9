-- The faults of a table are those of its form, of its texts and of what they set.
use Rattle.std.proofs.lemmas.Result.{on_ok_weaker}
use Rattle.deck_faults.proofs.ReadLemmas.{tell_all}
use Rattle.deck_faults.proofs.every.tell_table.Goals as goal

pub returns : goal.returns
returns c = on_ok_weaker c.tell_assigned.result (tell_all c.in_ok-tell_form.ensures c.in_ok-sources.ensures) c.tell_assigned.ensures
