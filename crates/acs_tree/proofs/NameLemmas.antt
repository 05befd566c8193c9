-- A name is a value of routines.
use Rattle.std.proofs.Common.{ℕ, List, ◌≡◌, true, get_or, arith}
use Rattle.std.proofs.lemmas.Bool.Decides.{nat_tests}
use Rattle.dsn_mask.specs.Name.{is_name_byte, is_short_byte, IsName, IsShort}

byte_is_short : (byte : ℕ) → is_name_byte byte ≡ true → is_short_byte byte ≡ true
byte_is_short byte is = grind (arith, nat_tests)

pub name_is_short : (bytes : List ℕ) → IsName bytes → IsShort bytes
name_is_short bytes is = (omega (arith, is.1), λ k d within. byte_is_short (get_or bytes k d) (is.3 k d within))
