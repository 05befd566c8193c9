-- A row that is added where none has its key.
use Rattle.std.proofs.Common.{◌≡◌, ◌≤◌, ◌<◌, ℕ, suc, Bool, true, false, cond, ◌&&◌, List, [], ◌∷◌, ◌++◌, length, get_or}
use Rattle.std.proofs.Common.{take, drop, set, Some, Vec, Global, Ordering, refl, sym, ap, ◌∙◌, arith, not, true≢false}
use Rattle.std.specs.BTreeMap.{insert_entry, is_at}
use Rattle.std.specs.Cmp.{IsTotalOrder}
use Rattle.std.specs.Map.{lookup}
use Rattle.std.specs.Ordering.{is_eq}
use Rattle.std.specs.Prelude.{is_none}
use Rattle.ordered_index.specs.Rows.{AreRows, add_entry, is_free, is_key_at, rank}
use Rattle.ordered_index.specs.Chunks.{IsChunkOf, rows_of}
use Rattle.ordered_index.proofs.ChunkLemmas.{put-chunk, rows-parts, rows-set, value-chunk}
use Rattle.ordered_index.proofs.LookupLemmas.{lookup-put}
use Rattle.ordered_index.proofs.RowLemmas.{found-value, missing-value}
use Rattle.ordered_index.proofs.SortedLemmas.{put-one-more, put-some, sorted-put}

-- what holds of both holds of either
pub of-either : {X : Type 0} (P : X → Type 0) (b : Bool) (x y : X) → P x → P y → P (cond b x y)
of-either P true x y one other = one
of-either P false x y one other = other

module _ {K V : Type 0} (R : K → K → Ordering) (k : K) (v : V) (es : List (K × V)) where
  pub add-free : is_free R k es ≡ true → add_entry R es k v ≡ insert_entry R es k v
  add-free is = ap (λ (b : Bool). cond b (insert_entry R es k v) es) is

  pub add-taken : is_free R k es ≡ false → add_entry R es k v ≡ es
  add-taken is = ap (λ (b : Bool). cond b (insert_entry R es k v) es) is

  pub add-some : 0 < length es → 0 < length (add_entry R es k v)
  add-some some = of-either (λ (l : List (K × V)). 0 < length l) (is_free R k es) (insert_entry R es k v) es (put-some R k v es) some

  pub add-one-more : length (add_entry R es k v) ≤ suc (length es)
  add-one-more = of-either (λ (l : List (K × V)). length l ≤ suc (length es)) (is_free R k es) (insert_entry R es k v) es (put-one-more R k v es) (omega arith)

free-not_at : {K V : Type 0} {R : K → K → Ordering} (total : IsTotalOrder R) (k : K) (es : List (K × V)) → AreRows R es → (b : Bool) → is_key_at R k es (rank R k es) ≡ b → not b ≡ is_free R k es
free-not_at total k [] sorted true hit = absurd (true≢false (sym hit))
free-not_at {K} {V} {R} total k (e ∷ es) sorted true hit = sym (ap is_none (found-value R k (e ∷ es) e hit))
free-not_at {K} {V} {R} total k es sorted false miss = sym (ap is_none (missing-value total k es sorted miss))

-- no row has the key where none stands at its place
pub free-not : {K V : Type 0} {R : K → K → Ordering} (total : IsTotalOrder R) (k : K) (es : List (K × V)) → AreRows R es → not (is_key_at R k es (rank R k es)) ≡ is_free R k es
free-not {K} {V} {R} total k es sorted = free-not_at total k es sorted (is_key_at R k es (rank R k es)) refl

pub sorted-add : {K V : Type 0} {R : K → K → Ordering} (total : IsTotalOrder R) (k : K) (v : V) (es : List (K × V)) → AreRows R es → AreRows R (add_entry R es k v)
sorted-add {K} {V} {R} total k v es sorted = of-either (AreRows R) (is_free R k es) (insert_entry R es k v) es (sorted-put total k v es sorted) sorted

lookup-add_at : {K V : Type 0} {R : K → K → Ordering} (total : IsTotalOrder R) (k other : K) (v : V) (es : List (K × V)) (b : Bool)
    → lookup (is_at (R other)) (cond b (insert_entry R es k v) es) ≡ cond (b && is_eq (R k other)) (Some v) (lookup (is_at (R other)) es)
lookup-add_at total k other v es true = lookup-put total k other v es
lookup-add_at total k other v es false = refl

-- the row that was added is found at its key, and each other as before
pub lookup-add : {K V : Type 0} {R : K → K → Ordering} (total : IsTotalOrder R) (k other : K) (v : V) (es : List (K × V))
    → lookup (is_at (R other)) (add_entry R es k v) ≡ cond (is_free R k es && is_eq (R k other)) (Some v) (lookup (is_at (R other)) es)
lookup-add {K} {V} {R} total k other v es = lookup-add_at total k other v es (is_free R k es)

module _ {K V : Type 0} (R : K → K → Ordering) (k : K) (cs : List (Vec (K × V) Global)) (i : ℕ) (d : Vec (K × V) Global) (is : IsChunkOf R k cs i) where
  pub free-chunk : is_free R k (rows_of cs) ≡ is_free R k (get_or cs i d).items
  free-chunk = ap is_none (value-chunk R k cs i d is)

  add-chunk_at : (v : V) (c : Vec (K × V) Global) (b : Bool) → c.items ≡ cond b (insert_entry R (get_or cs i d).items k v) (get_or cs i d).items
      → rows_of (set cs i c) ≡ cond b (insert_entry R (rows_of cs) k v) (rows_of cs)
  add-chunk_at v c true items = put-chunk R k cs i d is v c items
  add-chunk_at v c false items =
      rows-set cs i c is.at ∙ ap (λ l. rows_of (take i cs) ++ (l ++ rows_of (drop (suc i) cs))) items ∙ sym (rows-parts cs i d is.at)

  pub add-chunk : (v : V) (c : Vec (K × V) Global) → c.items ≡ add_entry R (get_or cs i d).items k v → rows_of (set cs i c) ≡ add_entry R (rows_of cs) k v
  add-chunk v c items =
      add-chunk_at v c (is_free R k (get_or cs i d).items) items
      ∙ ap (λ (b : Bool). cond b (insert_entry R (rows_of cs) k v) (rows_of cs)) (sym free-chunk)
