use Rattle.std.proofs.Common.{◌≡◌, ◌≤◌, length}
use Rattle.acs_lex.specs.Lexical.{is_quotable}
use Rattle.acs_lex.specs.Inner.Scanning.{after}
use Rattle.acs_lex.proofs.forms.after_quotable.Given as goal

-- what is left ends as the text does
abbrev pub invariant-bytes : goal.invariant-bytes
invariant-bytes l = (after is_quotable l.rest ≡ after is_quotable l.text) × (length l.rest ≤ length l.text)

abbrev pub decreases-bytes : goal.decreases-bytes
decreases-bytes l = length l.rest
