use Rattle.std.proofs.Common.{inl, inr}
use Rattle.smsd.proofs.serving.serve_keeper.Goals as goal

pub returns-in-Ok : goal.returns-in-Ok
returns-in-Ok g c = inr c.serve_at.ensures

pub returns-in-Err : goal.returns-in-Err
returns-in-Err g c = inl c.end_unbound.ensures
