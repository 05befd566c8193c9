-- What is found under a key.
use Rattle.std.proofs.Common.{◌≡◌, ℕ, Bool, true, false, cond, ◌&&◌, List, Option, Some, Ordering, Less, Equal, Greater}
use Rattle.std.proofs.Common.{refl, ap, sym, ◌∙◌, bytes_eq}
use Rattle.std.proofs.lemmas.Map.Text.{is_eq-slice_cmp}
use Rattle.std.specs.BTreeMap.{is_at}
use Rattle.std.specs.Cmp.{unsigned_ties}
use Rattle.std.specs.Cmp.Lexicographic.{slice_cmp}
use Rattle.std.specs.Map.{lookup}
use Rattle.std.specs.Ordering.{is_eq, nat_cmp, ordering_then}
use Rattle.std.specs.Prelude.{is_none, unwrap_or}
use Rattle.ordered_index.proofs.LookupLemmas.{lookup-by}
use Rattle.sms_keeper.specs.Log.{floor_in, kept_in, same_key}
use Rattle.sms_keeper.specs.declared.kept.KeptReply.{KeptReply}
use Rattle.sms_keeper.specs.declared.request_key.RequestKey.{RequestKey}

-- the order of keys: by job, and then by number
abbrev key_cmp : RequestKey → RequestKey → Ordering
key_cmp a b = ordering_then (slice_cmp nat_cmp a.job b.job) (nat_cmp a.number b.number)

-- equal in both parts
then_eq : (a b : Ordering) → is_eq (ordering_then a b) ≡ is_eq a && is_eq b
then_eq Less b = refl
then_eq Equal b = refl
then_eq Greater b = refl

key-is : (a b : RequestKey) → is_eq (key_cmp a b) ≡ same_key a b
key-is a b =
    then_eq (slice_cmp nat_cmp a.job b.job) (nat_cmp a.number b.number)
    ∙ ap (λ (x : Bool). x && is_eq (nat_cmp a.number b.number)) (is_eq-slice_cmp a.job b.job)
    ∙ ap (λ (x : Bool). bytes_eq a.job b.job && x) (sym (unsigned_ties a.number b.number))

pub lookup-key : (key : RequestKey) (es : List (RequestKey × KeptReply)) → lookup (is_at (key_cmp key)) es ≡ kept_in key es
lookup-key key es = lookup-by (is_at (key_cmp key)) (same_key key) es (key-is key)

-- a key that had no reply has this one; each other as before
pub added-key : (key other : RequestKey) (one : KeptReply) (old new : List (RequestKey × KeptReply))
    → lookup (is_at (key_cmp other)) new ≡ cond (is_none (lookup (is_at (key_cmp key)) old) && is_eq (key_cmp key other)) (Some one) (lookup (is_at (key_cmp other)) old)
    → kept_in other new ≡ cond (is_none (kept_in key old) && same_key key other) (Some one) (kept_in other old)
added-key key other one old new is =
    sym (lookup-key other new) ∙ is
    ∙ ap (λ (o : Option KeptReply). cond (is_none o && is_eq (key_cmp key other)) (Some one) (lookup (is_at (key_cmp other)) old)) (lookup-key key old)
    ∙ ap (λ (b : Bool). cond (is_none (kept_in key old) && b) (Some one) (lookup (is_at (key_cmp other)) old)) (key-is key other)
    ∙ ap (λ (o : Option KeptReply). cond (is_none (kept_in key old) && same_key key other) (Some one) o) (lookup-key other old)

-- a floor that was found, or was put
raised_at : (b : Bool) (floor : ℕ) (found : Option ℕ) → unwrap_or (cond b (Some floor) found) 0 ≡ cond b floor (unwrap_or found 0)
raised_at true floor found = refl
raised_at false floor found = refl

pub raised : (job other : List ℕ) (floor : ℕ) (old new : List (List ℕ × ℕ)) → lookup (bytes_eq other) new ≡ cond (bytes_eq job other) (Some floor) (lookup (bytes_eq other) old)
    → floor_in other new ≡ cond (bytes_eq job other) floor (floor_in other old)
raised job other floor old new is = ap (λ (o : Option ℕ). unwrap_or o 0) is ∙ raised_at (bytes_eq job other) floor (lookup (bytes_eq other) old)
