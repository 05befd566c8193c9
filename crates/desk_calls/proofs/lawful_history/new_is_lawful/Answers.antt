use Rattle.desk_law.specs.Records.{empty_opening}
use Rattle.desk_records.proofs.OpeningLemmas.{empty-sound}
use Rattle.desk_calls.proofs.lawful_history.new_is_lawful.Goals as goal

pub returns : goal.returns
returns c = λ history legal. c.legal_is_lawful.ensures empty_opening history empty-sound legal
