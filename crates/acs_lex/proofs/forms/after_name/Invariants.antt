use Rattle.std.proofs.Common.{◌≡◌, ◌≤◌, length}
use Rattle.acs_lex.specs.Lexical.{is_name_byte}
use Rattle.acs_lex.specs.Inner.Scanning.{after}
use Rattle.acs_lex.proofs.forms.after_name.Given as goal

-- what is left ends as the text does
abbrev pub invariant-bytes : goal.invariant-bytes
invariant-bytes l = (after is_name_byte l.rest ≡ after is_name_byte l.text) × (length l.rest ≤ length l.text)

abbrev pub decreases-bytes : goal.decreases-bytes
decreases-bytes l = length l.rest
