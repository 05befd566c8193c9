use Rattle.std.proofs.Common.{◌≡◌, ◌++◌, map, take}
use Rattle.std.specs.Prelude.{flat_map}
use Rattle.acs_lint.specs.Inner.Parts.{inside_when}
use Rattle.acs_lint.specs.Statements.{statements_in}
use Rattle.acs_lint.proofs.statements.+walk.Given as goal

-- the statements that were gone over
abbrev pub invariant-push_block-statements : goal.invariant-push_block-statements
invariant-push_block-statements l = map (λ statement. statement.now) l.all.items ≡ map (λ statement. statement.now) l.initial.all.items ++ flat_map statements_in (take l.inner-index l.block)

-- those of the WHENs that were gone over
abbrev pub invariant-push_whens-clauses : goal.invariant-push_whens-clauses
invariant-push_whens-clauses l = map (λ statement. statement.now) l.all.items ≡ map (λ statement. statement.now) l.initial.all.items ++ flat_map inside_when (take l.arm-index l.whens)
