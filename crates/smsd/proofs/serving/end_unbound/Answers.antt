use Rattle.std.proofs.Common.{inl, inr}
use Rattle.smsd.proofs.serving.end_unbound.Goals as goal

pub returns-then-is_wanting : goal.returns-then-is_wanting
returns-then-is_wanting c = inr c.end_wanting.ensures

pub returns : goal.returns
returns c = inl c.refuse.ensures
