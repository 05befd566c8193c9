use Rattle.std.proofs.Common.{◌≡◌, drop}
use Rattle.toml.specs.View.{table_view}
use Rattle.deck_meaning.specs.Assigned.{first_unknown, literal_names}
use Rattle.deck_faults.proofs.assigned.unknown_value.Given as goal

abbrev pub invariant-loop-value : goal.invariant-loop-value
invariant-loop-value l = first_unknown (table_view l.constructs) (literal_names (drop l.value-index l.values)) ≡ first_unknown (table_view l.constructs) (literal_names l.values)
