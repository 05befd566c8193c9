-- The run is over what was found in the file.
use Rattle.file_calls.proofs.file.answer_file.Goals as goal

pub returns-in-Ok-clause-ran : goal.returns-in-Ok-clause-ran
returns-in-Ok-clause-ran g c = (
  c.in-Ok.connection,
  (λ clean. (c.in-Ok.ensures.opened clean, c.in-Ok.ensures.found clean)),
  c.answer_over.ensures,
)
