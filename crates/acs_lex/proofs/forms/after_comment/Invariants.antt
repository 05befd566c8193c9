use Rattle.std.proofs.Common.{◌≡◌, length}
use Rattle.acs_lex.specs.Inner.Scanning.{after_comment}
use Rattle.acs_lex.proofs.forms.after_comment.Given as goal

abbrev pub invariant-ends : goal.invariant-ends
invariant-ends l = after_comment l.rest ≡ after_comment l.text

abbrev pub decreases-ends : goal.decreases-ends
decreases-ends l = length l.rest
