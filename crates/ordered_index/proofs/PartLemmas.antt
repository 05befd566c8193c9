-- A chunk that is parted, dropped, or joined with the next one.
use Rattle.std.proofs.Common.{◌≡◌, ◌<◌, ◌+◌, ℕ, zero, suc, List, [], ◌∷◌, ◌++◌, length, get_or, take, drop, Vec, Global}
use Rattle.std.proofs.Common.{Ordering, refl, sym, ap, ◌∙◌, append_assoc, length-append, arith}
use Rattle.std.specs.BTreeMap.{insert_entry, is_at}
use Rattle.std.specs.List.{All, insert, remove}
use Rattle.std.specs.Map.{remove_entry}
use Rattle.std.proofs.lemmas.List.Elements.{All-append, All-cons, All-drop, All-head, All-nil, All-tail, All-take}
use Rattle.ordered_index.specs.Chunks.{IsChunkOf, rows_of}
use Rattle.ordered_index.proofs.ChunkLemmas.{rows-parts, put-past, put-short, take-past, take-short}

pub insert-remove : {X : Type 0} (xs : List X) (i : ℕ) (x : X) → i < length xs → insert (remove xs i) i x ≡ take i xs ++ (x ∷ drop (suc i) xs)
insert-remove [] i x less = absurd (omega (arith, less))
insert-remove (y ∷ xs) zero x less = refl
insert-remove (y ∷ xs) (suc i) x less = ap (λ l. y ∷ l) (insert-remove xs i x (omega (arith, less)))

pub insert-both : {X : Type 0} (xs : List X) (i : ℕ) (x z : X) → i < length xs → insert (insert (remove xs i) i x) i z ≡ take i xs ++ (z ∷ (x ∷ drop (suc i) xs))
insert-both [] i x z less = absurd (omega (arith, less))
insert-both (y ∷ xs) zero x z less = refl
insert-both (y ∷ xs) (suc i) x z less = ap (λ l. y ∷ l) (insert-both xs i x z (omega (arith, less)))

pub insert-joined : {X : Type 0} (xs : List X) (i : ℕ) (x : X) → suc i < length xs → insert (remove (remove xs (suc i)) i) i x ≡ take i xs ++ (x ∷ drop (suc (suc i)) xs)
insert-joined [] i x less = absurd (omega (arith, less))
insert-joined (y ∷ []) i x less = absurd (omega (arith, less))
insert-joined (y ∷ (z ∷ xs)) zero x less = refl
insert-joined (y ∷ (z ∷ xs)) (suc i) x less = ap (λ l. y ∷ l) (insert-joined (z ∷ xs) i x (omega (arith, less)))

pub get-removed : {X : Type 0} (xs : List X) (i : ℕ) (d : X) → suc i < length xs → get_or (remove xs (suc i)) i d ≡ get_or xs i d
get-removed [] i d less = absurd (omega (arith, less))
get-removed (y ∷ xs) zero d less = refl
get-removed (y ∷ xs) (suc i) d less = get-removed xs i d (omega (arith, less))

module _ {X : Type 0} (P : X → Type 0) (xs : List X) (i : ℕ) (all : All P xs) where
  pub All-removed : All P (remove xs i)
  All-removed = All-append P (take i xs) (drop (suc i) xs) (All-take P i xs all) (All-drop P (suc i) xs all)

  pub All-one : (j : ℕ) (x : X) → P x → All P (take i xs ++ (x ∷ drop j xs))
  All-one j x one = All-append P (take i xs) (x ∷ drop j xs) (All-take P i xs all) (All-cons P x (drop j xs) one (All-drop P j xs all))

  pub All-two : (x z : X) → P x → P z → All P (take i xs ++ (z ∷ (x ∷ drop (suc i) xs)))
  All-two x z one other =
      All-append P (take i xs) (z ∷ (x ∷ drop (suc i) xs)) (All-take P i xs all) (All-cons P z (x ∷ drop (suc i) xs) other (All-cons P x (drop (suc i) xs) one (All-drop P (suc i) xs all)))

pub rows-append : {K V : Type 0} (xs ys : List (Vec (K × V) Global)) → rows_of (xs ++ ys) ≡ rows_of xs ++ rows_of ys
rows-append [] ys = refl
rows-append (x ∷ xs) ys = ap (λ l. x.items ++ l) (rows-append xs ys) ∙ sym (append_assoc x.items (rows_of xs) (rows_of ys))

pub rows-two : {K V : Type 0} (xs ys : List (Vec (K × V) Global)) (a b : Vec (K × V) Global) → rows_of (xs ++ (a ∷ (b ∷ ys))) ≡ rows_of xs ++ ((a.items ++ b.items) ++ rows_of ys)
rows-two xs ys a b = rows-append xs (a ∷ (b ∷ ys)) ∙ ap (λ l. rows_of xs ++ l) (sym (append_assoc a.items b.items (rows_of ys)))

-- the rows of two neighbours one behind the other are those of the chunks from the first of them on
pub rows-joined : {K V : Type 0} (cs : List (Vec (K × V) Global)) (i : ℕ) (d e : Vec (K × V) Global) → suc i < length cs
    → rows_of (take i cs) ++ (((get_or cs i d).items ++ (get_or cs (suc i) e).items) ++ rows_of (drop (suc (suc i)) cs)) ≡ rows_of cs
rows-joined [] i d e less = absurd (omega (arith, less))
rows-joined (c ∷ []) i d e less = absurd (omega (arith, less))
rows-joined (c ∷ (c' ∷ cs)) zero d e less = append_assoc c.items c'.items (rows_of cs)
rows-joined (c ∷ (c' ∷ cs)) (suc i) d e less =
    append_assoc c.items (rows_of (take i (c' ∷ cs))) _ ∙ ap (λ l. c.items ++ l) (rows-joined (c' ∷ cs) i d e (omega (arith, less)))

module _ {K V : Type 0} (R : K → K → Ordering) (k : K) (cs : List (Vec (K × V) Global)) (i : ℕ) (d : Vec (K × V) Global) (is : IsChunkOf R k cs i) where
  -- what is put in a chunk is put in all rows
  pub put-parts : (v : V) (rows : List (K × V)) → rows ≡ insert_entry R (get_or cs i d).items k v → rows_of (take i cs) ++ (rows ++ rows_of (drop (suc i) cs)) ≡ insert_entry R (rows_of cs) k v
  put-parts v rows items =
      ap (λ l. rows_of (take i cs) ++ (l ++ rows_of (drop (suc i) cs))) items ∙ ap (λ l. rows_of (take i cs) ++ l) (sym (put-short R k v (get_or cs i d).items _ is.behind)) ∙ sym (put-past R k v (rows_of (take i cs)) _ is.before) ∙ ap (λ l. insert_entry R l k v) (sym (rows-parts cs i d is.at))

  -- what is taken from a chunk is taken from all rows
  pub take-parts : (rows : List (K × V)) → rows ≡ remove_entry (is_at (R k)) (get_or cs i d).items → rows_of (take i cs) ++ (rows ++ rows_of (drop (suc i) cs)) ≡ remove_entry (is_at (R k)) (rows_of cs)
  take-parts rows items =
      ap (λ l. rows_of (take i cs) ++ (l ++ rows_of (drop (suc i) cs))) items ∙ ap (λ l. rows_of (take i cs) ++ l) (sym (take-short R k (get_or cs i d).items _ is.behind)) ∙ sym (take-past R k (rows_of (take i cs)) _ is.before) ∙ ap (remove_entry (is_at (R k))) (sym (rows-parts cs i d is.at))

pub join-chunks : {X : Type 0} (xs ys zs out : List X) (i n : ℕ) (x : X) → n ≡ suc i → suc i < length xs → ys ≡ remove xs n → zs ≡ remove ys i → out ≡ insert zs i x → out ≡ take i xs ++ (x ∷ drop (suc (suc i)) xs)
join-chunks xs ys zs out i n x n-is less ys-is zs-is out-is =
    out-is ∙ ap (λ l. insert l i x) (zs-is ∙ ap (λ l. remove l i) (ys-is ∙ ap (remove xs) n-is)) ∙ insert-joined xs i x less

-- the chunk at a place, as it is taken out behind the next one, and that next one
module _ {K V : Type 0} (cs : List (Vec (K × V) Global)) (i n : ℕ) (ch nx : Vec (K × V) Global) (n-is : n ≡ suc i) (less : suc i < length cs)
    (ch-is : ch ≡ get_or (remove cs (suc i)) i ch) (nx-is : nx ≡ get_or cs n nx) where
  pub first-is : ch ≡ get_or cs i ch
  first-is = ch-is ∙ get-removed cs i ch less

  pub next-is : nx ≡ get_or cs (suc i) nx
  next-is = nx-is ∙ ap (λ m. get_or cs m nx) n-is

  pub join-rows : (j : Vec (K × V) Global) (out : List (Vec (K × V) Global)) → j.items ≡ ch.items ++ nx.items → out ≡ take i cs ++ (j ∷ drop (suc (suc i)) cs) → rows_of out ≡ rows_of cs
  join-rows j out j-is out-is =
      ap rows_of out-is ∙ rows-append (take i cs) (j ∷ drop (suc (suc i)) cs)
      ∙ ap (λ l. rows_of (take i cs) ++ (l ++ rows_of (drop (suc (suc i)) cs))) (j-is ∙ ap (λ v. v.items ++ nx.items) first-is ∙ ap (λ v. (get_or cs i ch).items ++ v.items) next-is)
      ∙ rows-joined cs i ch nx less

  pub join-length : (j : Vec (K × V) Global) → j.items ≡ ch.items ++ nx.items → length j.items ≡ length (get_or cs i ch).items + length (get_or cs (suc i) nx).items
  join-length j j-is = ap length j-is ∙ length-append ch.items nx.items ∙ ap (λ v. length v.items + length nx.items) first-is ∙ ap (λ v. length (get_or cs i ch).items + length v.items) next-is

pub parted-chunks-are : {X : Type 0} (xs ys zs out : List X) (i : ℕ) (behind front : X) → i < length xs → ys ≡ remove xs i → zs ≡ insert ys i behind → out ≡ insert zs i front → out ≡ take i xs ++ (front ∷ (behind ∷ drop (suc i) xs))
parted-chunks-are xs ys zs out i behind front less ys-is zs-is out-is =
    out-is ∙ ap (λ l. insert l i front) (zs-is ∙ ap (λ l. insert l i behind) ys-is) ∙ insert-both xs i behind front less

pub last-is : {X : Type 0} (P : X → Type 0) (xs : List X) (x : X) → All P (xs ++ (x ∷ [])) → P x
last-is P [] x all = All-head P x [] all
last-is P (y ∷ xs) x all = last-is P xs x (All-tail P y (xs ++ (x ∷ [])) all)

pub front-all : {X : Type 0} (P : X → Type 0) (xs : List X) (x : X) → All P (xs ++ (x ∷ [])) → All P xs
front-all P [] x all = All-nil P
front-all P (y ∷ xs) x all = All-cons P y xs (All-head P y (xs ++ (x ∷ [])) all) (front-all P xs x (All-tail P y (xs ++ (x ∷ [])) all))

pub one-chunk-is : {X : Type 0} (xs ys out : List X) (i : ℕ) (x : X) → i < length xs → ys ≡ remove xs i → out ≡ insert ys i x → out ≡ take i xs ++ (x ∷ drop (suc i) xs)
one-chunk-is xs ys out i x less ys-is out-is = out-is ∙ ap (λ l. insert l i x) ys-is ∙ insert-remove xs i x less

pub rows-without : {K V : Type 0} (cs : List (Vec (K × V) Global)) (i : ℕ) → rows_of (remove cs i) ≡ rows_of (take i cs) ++ ([] ++ rows_of (drop (suc i) cs))
rows-without cs i = rows-append (take i cs) (drop (suc i) cs)

pub none-of : {X : Type 0} (xs : List X) → length xs ≡ 0 → xs ≡ []
none-of [] is = refl
none-of (x ∷ xs) is = absurd (omega (arith, is))
