-- A table that is found by its name has a place in the schema.
use Rattle.std.proofs.Common.{◌≡◌, ◌<◌, ◌+◌, eqb, ℕ, suc, Bool, true, false, cond, List, [], ◌∷◌, Some, None}
use Rattle.std.proofs.Common.{Option, length, find, slice_get, refl, sym, ap, ◌∙◌, arith}
use Rattle.std.specs.List.{AllByRecursion, position_from}
use Rattle.sqlite.specs.Schema.{Schema}
use Rattle.sqlite.specs.Table.{Table}
use Rattle.sqlite_rules.specs.Lists.{Has}
use Rattle.sqlite_rules.proofs.ListLemmas.{all_has, has_found}
use Rattle.sqlite_schema.specs.Names.{same_name, table_named}
use Rattle.keeper_statements.specs.Found.{CanServe, HasForm, IsThere, keys_on, placed, table_in, table_of}

-- a table of this form has this place and this tree
pub record IsListed (form : Table) (tree : ℕ) (schema : Schema) : Type 0 where
  pub at : ℕ
  pub named : table_named schema form.name ≡ Some at
  pub listed : slice_get schema.tables at ≡ Some (placed form tree)
  pub apart : table_in schema tree ≡ Some (placed form tree)
  pub low : tree < 65536

-- the first element that passes has a place
place_from : {X : Type 0} (p : X → Bool) (xs : List X) (start : ℕ) (x : X) → find p xs ≡ Some x → (at : ℕ) × (position_from p start xs ≡ Some (start + at)) × (slice_get xs at ≡ Some x)
place_from p [] start x e = absurd cc
place_from {X} p (y ∷ xs) start x e = by (p y) refl e (λ f. place_from p xs (start + 1) x f)
  where
    by : (b : Bool) → p y ≡ b → cond b (Some y) (find p xs) ≡ Some x
        → (find p xs ≡ Some x → (at : ℕ) × (position_from p (start + 1) xs ≡ Some (start + 1 + at)) × (slice_get xs at ≡ Some x))
        → (at : ℕ) × (cond (p y) (Some start) (position_from p (start + 1) xs) ≡ Some (start + at)) × (slice_get (y ∷ xs) at ≡ Some x)
    by true is here more = (0, ap (λ b. cond b (Some start) (position_from p (start + 1) xs)) is ∙ ap Some (omega arith), here)
    by false is there more =
        let it = more there in
        (suc it.0, ap (λ b. cond b (Some start) (position_from p (start + 1) xs)) is ∙ it.1 ∙ ap Some (omega arith), it.2)

pub has_table_in : (form : Table) (schema : Schema) (h : IsThere form schema) → Has schema.tables (placed form h.tree)
has_table_in form schema h = (has_found (λ (t : Table). same_name t.name form.name) schema.tables (placed form h.tree) h.named).0

-- the tree is its own
pub own_tree : (form : Table) (schema : Schema) → CanServe schema → (h : IsThere form schema) → table_in schema h.tree ≡ Some (placed form h.tree)
own_tree form schema serves h = all_has (λ (t : Table). table_in schema t.tree ≡ Some t) schema.tables (placed form h.tree) serves.apart (has_table_in form schema h)

pub listed_of : (form : Table) (schema : Schema) → CanServe schema → (h : IsThere form schema) → IsListed form h.tree schema
listed_of form schema serves h =
    let it = place_from (λ (t : Table). same_name t.name form.name) schema.tables 0 (placed form h.tree) h.named in
    record { at = it.0; named = it.1 ∙ ap Some (omega arith); listed = it.2; apart = own_tree form schema serves h; low = h.low }

pub placed_of : (form : Table) (schema : Schema) → AllByRecursion (λ (t : Table). table_in schema t.tree ≡ Some t) schema.tables → (h : HasForm form schema) → IsListed form h.tree schema
placed_of form schema apart h =
    let it = place_from (λ (t : Table). same_name t.name form.name) schema.tables 0 (placed form h.tree) h.named in
    let found = has_found (λ (t : Table). same_name t.name form.name) schema.tables (placed form h.tree) h.named in
    record {
      at = it.0;
      named = it.1 ∙ ap Some (omega arith);
      listed = it.2;
      apart = all_has (λ (t : Table). table_in schema t.tree ≡ Some t) schema.tables (placed form h.tree) apart found.0;
      low = h.low;
    }

name_in : Option Table → List ℕ
name_in None = []
name_in (Some t) = t.name

pub apart : (m n : ℕ) → eqb m n ≡ false → m ≡ n → ⊥
apart m n differ same = let e : eqb m n ≡ true = Rattle.std.proofs.Common.eq-eqb m n same in absurd cc

-- two forms whose names are not as long have two trees
pub other_tree : (f g : Table) (schema : Schema) → CanServe schema → (a : IsThere f schema) (b : IsThere g schema) → eqb (length f.name) (length g.name) ≡ false → a.tree ≡ b.tree → ⊥
unfolding name_in
other_tree f g schema serves a b differ same =
    apart (length f.name) (length g.name) differ (ap (λ (o : Option Table). length (name_in o)) (sym (own_tree f schema serves a) ∙ ap (table_in schema) same ∙ own_tree g schema serves b))

-- what is there in one schema is there in an equal one
abbrev pub still_there : (form : Table) (a b : Schema) → b ≡ a → IsThere form a → IsThere form b
still_there form a b same h = record {
  tree = h.tree;
  named = ap (λ s. table_of s form.name) same ∙ h.named;
  low = h.low;
  keys = ap (λ s. keys_on s (placed form h.tree)) same ∙ h.keys;
}
