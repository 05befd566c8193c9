-- Variables by what they read.
use Rattle.std.proofs.Common.{◌≡◌, ℕ, Bool, true, false, List, [], ◌∷◌, length, refl, sym, ap, ◌∙◌}
use Rattle.std.specs.Prelude.{◌==◌, Option, Some, None, bytes_eq, filter, if◌then◌else◌}
use Rattle.std.specs.Option.{unwrap_or}
use Rattle.acs_tree.specs.declared.input.Input.{Input}
use Rattle.acs_tree.specs.declared.values.Values.{Values}
use Rattle.acs_tree.specs.Value.{Value}
use Rattle.acs_tree.specs.Variables.{VariableMeaning, Row, look_up, value_by, variable_value, variables}
use Rattle.acs_tree.proofs.TableLemmas.{among_its_length}
use Rattle.acs_code.specs.declared.field.Field.{Field}
use Rattle.acs_code.specs.Fields.{field_of, field_value, fields, nothing}

-- what is held is what the field reads
abbrev Means : (ℕ → Input → Values → Value) → Field → Type 0
Means held field = (index : ℕ) (input : Input) (values : Values) → held index input values ≡ field_value field index input values

-- the rows stand under the names of the fields and read what these do, and those behind them are null
abbrev Agree : List Row → List (List ℕ × Field) → Type 0
Agree [] [] = Unit {0}
Agree [] (own ∷ others) = ⊥
Agree (row ∷ rows) [] = Means row.1.value nothing × Agree rows []
Agree (row ∷ rows) (own ∷ others) = (row.0 ≡ own.0) × (Means row.1.value own.1 × Agree rows others)

module _ (index : ℕ) (input : Input) (values : Values) where
  -- what a field that was found reads, or null
  abbrev read : Option Field → Value
  read found = field_value (unwrap_or found nothing) index input values

  null_row : (b : Bool) (known : VariableMeaning) (rest : Option VariableMeaning) → Means known.value nothing → value_by rest index input values ≡ read None → value_by (if b then Some known else rest) index input values ≡ read None
  null_row true known rest means e = means index input values
  null_row false known rest means e = e

  own_row : (b : Bool) (known : VariableMeaning) (own : Field) (rest : Option VariableMeaning) (more : Option Field) → Means known.value own → value_by rest index input values ≡ read more → value_by (if b then Some known else rest) index input values ≡ read (if b then Some own else more)
  own_row true known own rest more means e = means index input values
  own_row false known own rest more means e = e

  by_rows : (rows : List Row) (others : List (List ℕ × Field)) (name : List ℕ) → Agree rows others → value_by (look_up rows name) index input values ≡ read (look_up others name)
  by_rows [] [] name agree = refl
  by_rows [] (own ∷ others) name agree = absurd agree
  by_rows (row ∷ rows) [] name agree = null_row (bytes_eq name row.0) row.1 (look_up rows name) agree.0 (by_rows rows [] name agree.1)
  by_rows (row ∷ rows) (own ∷ others) name agree =
      own_row (bytes_eq name row.0) row.1 own.1 (look_up rows name) (look_up others name) agree.1.0 (by_rows rows others name agree.1.1)
      ∙ ap (λ (key : List ℕ). read (if bytes_eq name key then Some own.1 else look_up others name)) agree.0

all_agree : Agree variables fields
all_agree =
    (refl, (λ index input values. refl, (refl, (λ index input values. refl, (refl, (λ index input values. refl, (refl, (λ index input values. refl, (refl, (λ index input values. refl, (refl, (λ index input values. refl, (refl, (λ index input values. refl, (refl, (λ index input values. refl, (refl, (λ index input values. refl, (refl, (λ index input values. refl, (refl, (λ index input values. refl, (refl, (λ index input values. refl, (refl, (λ index input values. refl, (refl, (λ index input values. refl, (refl, (λ index input values. refl, (refl, (λ index input values. refl, (refl, (λ index input values. refl, (refl, (λ index input values. refl, (refl, (λ index input values. refl, (refl, (λ index input values. refl, (refl, (λ index input values. refl, (refl, (λ index input values. refl, (refl, (λ index input values. refl, (refl, (λ index input values. refl, (refl, (λ index input values. refl, (refl, (λ index input values. refl, (refl, (λ index input values. refl, (refl, (λ index input values. refl, (refl, (λ index input values. refl, (refl, (λ index input values. refl, (refl, (λ index input values. refl, (refl, (λ index input values. refl, (refl, (λ index input values. refl, (refl, (λ index input values. refl, (refl, (λ index input values. refl, (refl, (λ index input values. refl, (refl, (λ index input values. refl, (refl, (λ index input values. refl, (refl, (λ index input values. refl, (λ index input values. refl, (λ index input values. refl, (λ index input values. refl, (λ index input values. refl, (λ index input values. refl, (λ index input values. refl, (λ index input values. refl, (λ index input values. refl, (λ index input values. refl, (λ index input values. refl, (λ index input values. refl, tt)))))))))))))))))))))))))))))))))))))))))))))))))))))))))))))))))))))))))))))))))))))))))

-- what a variable holds is what its field reads
pub by_field : (name : List ℕ) (index : ℕ) (input : Input) (values : Values) → field_value (field_of name) index input values ≡ variable_value name index input values
unfolding variable_value
by_field name index input values = sym (by_rows index input values variables fields name all_agree)

-- a field is looked for among those whose names have the length
pub by_length : (name : List ℕ) (rows : List (List ℕ × Field)) → rows ≡ filter (λ (row : List ℕ × Field). length row.0 == length name) fields → look_up rows name ≡ look_up fields name
by_length name rows e = ap (λ found. look_up found name) e ∙ among_its_length fields name
