-- The table of variables, by the length of the names.
use Rattle.std.proofs.Common.{◌≡◌, ℕ, Bool, true, false, List, [], ◌∷◌, length, map, refl, sym, ap, ◌∙◌, arith}
use Rattle.std.specs.Prelude.{◌==◌, Option, Some, bytes_eq, filter, option_map, if◌then◌else◌}
use Rattle.std.proofs.lemmas.Bool.Decides.{nat_tests}
use Rattle.std.proofs.lemmas.Slice.Eq.{bytes_eq-Decides}
use Rattle.acs_tree.specs.declared.variable.Variable.{Variable}
use Rattle.acs_tree.specs.Variables.{VariableMeaning, Row, look_up, variable_of, variables}

in_row : {A B : Type 0} (f : A → B) (b : Bool) (held : A) (rest : Option A) (more : Option B) → option_map f rest ≡ more → option_map f (if b then Some held else rest) ≡ (if b then Some (f held) else more)
in_row f true held rest more e = refl
in_row f false held rest more e = e

-- what stands under a name, looked at behind or before the search
pub look_up_map : {A B : Type 0} (f : A → B) (rows : List (List ℕ × A)) (name : List ℕ) → option_map f (look_up rows name) ≡ look_up (map (λ (row : List ℕ × A). (row.0, f row.1)) rows) name
look_up_map f [] name = refl
look_up_map f (row ∷ rows) name = in_row f (bytes_eq name row.0) row.1 (look_up rows name) (look_up (map (λ row. (row.0, f row.1)) rows) name) (look_up_map f rows name)

apart : (name other : List ℕ) (b : Bool) → bytes_eq name other ≡ b → (length other == length name) ≡ false → b ≡ false
apart name other true e h = grind (arith, nat_tests, ap length ((bytes_eq-Decides name other).0 e))
apart name other false e h = refl

one_row : {A : Type 0} (row : List ℕ × A) (kept rows : List (List ℕ × A)) (name : List ℕ) (b : Bool) → (length row.0 == length name) ≡ b → look_up kept name ≡ look_up rows name → look_up (if b then row ∷ kept else kept) name ≡ look_up (row ∷ rows) name
one_row row kept rows name true e h = ap (λ found. if bytes_eq name row.0 then Some row.1 else found) h
one_row row kept rows name false e h = h ∙ ap (λ b. if b then Some row.1 else look_up rows name) (sym (apart name row.0 (bytes_eq name row.0) refl e))

-- a name is looked for among those of its length
pub among_its_length : {A : Type 0} (rows : List (List ℕ × A)) (name : List ℕ) → look_up (filter (λ (row : List ℕ × A). length row.0 == length name) rows) name ≡ look_up rows name
among_its_length [] name = refl
among_its_length {A} (row ∷ rows) name = one_row row (filter (λ (row : List ℕ × A). length row.0 == length name) rows) rows name (length row.0 == length name) refl (among_its_length rows name)

pub by_length : (name : List ℕ) (rows : List (List ℕ × Variable)) → rows ≡ map (λ (row : Row). (row.0, row.1.variable)) (filter (λ (row : Row). length row.0 == length name) variables) → look_up rows name ≡ variable_of name
unfolding variable_of
by_length name rows e =
    ap (λ found. look_up found name) e ∙ sym (look_up_map (λ (known : VariableMeaning). known.variable) (filter (λ (row : Row). length row.0 == length name) variables) name)
    ∙ ap (option_map (λ (known : VariableMeaning). known.variable)) (among_its_length variables name)
