-- Each qualifier of a data set name is a short text.
use Rattle.std.proofs.Common.{◌≡◌, ◌<◌, ◌-◌, ◌⊎◌, inl, inr, ℕ, zero, suc, Bool, true, false, List, [], ◌∷◌, length}
use Rattle.std.proofs.Common.{refl, sym, ap, subst, arith}
use Rattle.std.specs.Prelude.{◌==◌, All, Option, Some, None, if◌then◌else◌, slice_get, slice_index_or}
use Rattle.std.proofs.lemmas.Bool.Decides.{nat_tests}
use Rattle.std.proofs.lemmas.Option.{slice_get_past}
use Rattle.dsn_mask.specs.DataSetName.{IsDataSetName, IsQualifier, is_qualifier_byte}
use Rattle.dsn_mask.specs.Name.{IsShort, is_short_byte}
use Rattle.dsn_mask.specs.Qualifiers.{qualifiers_of}
use Rattle.acs_tree.specs.Value.{or_null, text_at}

byte_is_short : (b : ℕ) → is_qualifier_byte b ≡ true → is_short_byte b ≡ true
byte_is_short b e = grind (arith, nat_tests)

short_of : (q : List ℕ) → IsQualifier q → IsShort q
short_of q is = (omega (arith, is.1), λ k d h. byte_is_short (slice_index_or q k d) (is.3 k d h))

one_of : (qs : List (List ℕ)) (k : ℕ) (q : List ℕ) → All IsQualifier qs → slice_get qs k ≡ Some q → IsQualifier q
one_of [] k q all e = cc
one_of (first ∷ qs) zero q all e = let same : first ≡ q = cc in subst IsQualifier same (all zero first (omega arith))
one_of (first ∷ qs) (suc k) q all e = one_of qs k q (λ n d h. all (suc n) d (omega (arith, h))) e

pub qualifier_is_short : (dsn : List ℕ) (k : ℕ) (q : List ℕ) → IsDataSetName dsn → slice_get (qualifiers_of dsn) k ≡ Some q → IsShort q
qualifier_is_short dsn k q is e = short_of q (one_of (qualifiers_of dsn) k q is.1 e)

at_none : (b : Bool) (found : Option (List ℕ)) → found ≡ None → [] ≡ (if b then [] else or_null found)
at_none true found e = refl
at_none false found e = ap or_null (sym e)

pub no_qualifier : (qs : List (List ℕ)) (number : ℕ) → (number ≡ 0) ⊎ (length qs < number) → [] ≡ text_at qs number
no_qualifier qs number (inl e) = rw e refl
no_qualifier qs number (inr past) = at_none (number == 0) (slice_get qs (number - 1)) (slice_get_past qs (number - 1) (omega (arith, past)))
