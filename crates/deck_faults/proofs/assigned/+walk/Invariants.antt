use Rattle.std.proofs.Common.{◌≡◌, drop}
use Rattle.toml.specs.View.{table_view}
use Rattle.deck_meaning.specs.Assigned.{assigned_by, assigned_in_whens, first_unknown}
use Rattle.deck_faults.proofs.assigned.+walk.Given as goal

abbrev pub invariant-unknown_in_body-statements : goal.invariant-unknown_in_body-statements
invariant-unknown_in_body-statements l = first_unknown (table_view l.constructs) (assigned_by (drop l.inner-index l.body)) ≡ first_unknown (table_view l.constructs) (assigned_by l.body)

abbrev pub invariant-unknown_in_whens-clauses : goal.invariant-unknown_in_whens-clauses
invariant-unknown_in_whens-clauses l = first_unknown (table_view l.constructs) (assigned_in_whens (drop l.when-index l.whens)) ≡ first_unknown (table_view l.constructs) (assigned_in_whens l.whens)
