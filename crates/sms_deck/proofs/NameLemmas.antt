-- Names as texts.
use Rattle.std.proofs.Common.{◌≡◌, ◌<◌, ℕ, zero, suc, true, List, [], ◌∷◌, arith}
use Rattle.std.specs.Prelude.{IsUtf8, slice_index}
use Rattle.std.specs.List.{list_all}
use Rattle.std.proofs.lemmas.Bool.{and_parts}
use Rattle.std.proofs.lemmas.Bool.Decides.{nat_tests}
use Rattle.std.proofs.lemmas.List.Sums.{list_all-from_AllPass}
use Rattle.std.proofs.lemmas.Str.{IsUtf8-from_ascii}
use Rattle.dsn_mask.specs.Name.{IsName, is_name_byte}

byte_is_ascii : (b : ℕ) → is_name_byte b ≡ true → b < 128
byte_is_ascii b e = grind (arith, nat_tests)

bytes_are_ascii : (bytes : List ℕ) → list_all is_name_byte bytes ≡ true → (i : ℕ) → slice_index bytes i < 128
bytes_are_ascii [] e i = omega arith
bytes_are_ascii (b ∷ bs) e zero = byte_is_ascii b (and_parts (is_name_byte b) (list_all is_name_byte bs) e).0
bytes_are_ascii (b ∷ bs) e (suc i) = bytes_are_ascii bs (and_parts (is_name_byte b) (list_all is_name_byte bs) e).1 i

pub name_is_text : (bytes : List ℕ) → IsName bytes → IsUtf8 bytes
name_is_text bytes is = IsUtf8-from_ascii bytes (bytes_are_ascii bytes (list_all-from_AllPass is_name_byte bytes is.3))
