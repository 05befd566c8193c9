-- What was read is the deck's configuration.
use Rattle.std.proofs.Common.{inl}
use Rattle.std.proofs.lemmas.Result.{IfOk-weaker}
use Rattle.deck_changes.proofs.changes.changes_by.Goals as goal

pub returns-in-Ok : goal.returns-in-Ok
returns-in-Ok c =
    IfOk-weaker c.changes_between.result _ _
    (λ text changes. inl (record { config = c.in-Ok.config; configured = c.in-Ok.ensures.ok; changes = changes }))
    c.changes_between.ensures
