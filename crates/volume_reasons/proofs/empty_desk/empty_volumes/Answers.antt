use Rattle.std.proofs.Common.{refl}
use Rattle.desk_law.specs.Records.{empty_opening}
use Rattle.desk_law.specs.State.{start_of}
use Rattle.desk_records.proofs.OpeningLemmas.{empty-sound}
use Rattle.volume_reasons.proofs.empty_desk.empty_volumes.Goals as goal

pub returns : goal.returns
returns c =
    let none = c.none-none.ensures in
    c.take_over.ensures (start_of empty_opening) c.args.config.now empty-sound.lawful none (c.in_ok-volumes.ensures.next (start_of empty_opening) empty-sound.lawful none) refl c.deck-deck.ensures.form
