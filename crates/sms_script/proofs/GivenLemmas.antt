-- Where no operand gives a text or a list that routines see.
use Rattle.std.proofs.Common.{◌≡◌, ℕ, false, List, [], ◌∷◌, refl}
use Rattle.std.specs.Prelude.{Option, None, Some, is_some}
use Rattle.std.specs.List.{cons_option, list_any}
use Rattle.acs_tree.specs.Inputs.{no_lists, no_texts}
use Rattle.sms_construct.specs.Parts.{behind_front}
use Rattle.sms_script.specs.Operands.{has_key, have_any, list_keys, lists_in, text_keys, texts_in, values_of}
use Rattle.sms_script.proofs.ListLemmas.{neither}

-- no value stands behind any of these keys
abbrev AreNone : List (List ℕ) → List (List ℕ) → Type 0
AreNone [] words = Unit {0}
AreNone (key ∷ keys) words = (values_of key words ≡ []) × AreNone keys words

none_in_none : (keys : List (List ℕ)) → AreNone keys []
none_in_none [] = tt
none_in_none (key ∷ keys) = (refl, none_in_none keys)

no_more : (o : Option (List ℕ)) (values : List (List ℕ)) → is_some o ≡ false → values ≡ [] → cons_option o values ≡ []
no_more None values none is = is
no_more (Some value) values none is = absurd (cc none)

none_with : (keys : List (List ℕ)) (word : List ℕ) (words : List (List ℕ)) → list_any (has_key word) keys ≡ false → AreNone keys words → AreNone keys (word ∷ words)
none_with [] word words none others = tt
none_with (key ∷ keys) word words none others =
    let parts = neither (has_key word key) (list_any (has_key word) keys) none in
    (no_more (behind_front key word) (values_of key words) parts.0 others.0, none_with keys word words parts.1 others.1)

none_given : (keys words : List (List ℕ)) → have_any keys words ≡ false → AreNone keys words
none_given keys [] none = none_in_none keys
none_given keys (word ∷ words) none =
    let parts = neither (list_any (has_key word) keys) (have_any keys words) none in
    none_with keys word words parts.0 (none_given keys words parts.1)

pub no_text_given : (words : List (List ℕ)) → have_any text_keys words ≡ false → texts_in words ≡ Some no_texts
no_text_given words none =
    let n = none_given text_keys words none in
    rw (n.0, n.1.0, n.1.1.0, n.1.1.1.0, n.1.1.1.1.0, n.1.1.1.1.1.0, n.1.1.1.1.1.1.0, n.1.1.1.1.1.1.1.0, n.1.1.1.1.1.1.1.1.0, n.1.1.1.1.1.1.1.1.1.0, n.1.1.1.1.1.1.1.1.1.1.0, n.1.1.1.1.1.1.1.1.1.1.1.0, n.1.1.1.1.1.1.1.1.1.1.1.1.0, n.1.1.1.1.1.1.1.1.1.1.1.1.1.0, n.1.1.1.1.1.1.1.1.1.1.1.1.1.1.0, n.1.1.1.1.1.1.1.1.1.1.1.1.1.1.1.0, n.1.1.1.1.1.1.1.1.1.1.1.1.1.1.1.1.0) refl

pub no_list_given : (words : List (List ℕ)) → have_any list_keys words ≡ false → lists_in words ≡ Some no_lists
no_list_given words none =
    let n = none_given list_keys words none in
    rw (n.0, n.1.0, n.1.1.0) refl
