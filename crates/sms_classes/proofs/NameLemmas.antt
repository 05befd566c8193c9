-- Constructs found by name.
use Rattle.std.proofs.Common.{◌≡◌, ℕ, ◌||◌, Bool, true, false, cond, List, [], ◌∷◌, map, bytes_eq, find, Option, Some}
use Rattle.std.proofs.Common.{None, option_map, refl, sym, ap, ◌∙◌, if◌then◌else◌}
use Rattle.std.specs.List.{list_any}
use Rattle.std.proofs.lemmas.Bool.Decides.{same_from_decides}
use Rattle.std.proofs.lemmas.Slice.Eq.{bytes_eq-Decides}
use Rattle.sms_construct.specs.Configuration.{Configuration, has_construct}
use Rattle.acs_tree.specs.declared.kind.Kind.{Kind}
use Rattle.desk_law.specs.Allocation.{class_if_any}
use Rattle.desk_law.specs.Classification.{class_stop, is_null}
use Rattle.sms_construct.specs.declared.stop.Stop.TheVariants as stops
use Rattle.sms_classes.specs.Known.{known_class}

-- the order of the two names makes no difference
turned : (one other : List ℕ) → bytes_eq one other ≡ bytes_eq other one
turned one other =
    let e = bytes_eq-Decides other one in
    same_from_decides (bytes_eq one other) (bytes_eq other one) (bytes_eq-Decides one other) ((λ t. sym (e.0 t)), (λ same. e.1 (sym same)))

pub find_turned : {X : Type 0} (name_of : X → List ℕ) (name : List ℕ) (items : List X) → find (λ item. bytes_eq name (name_of item)) items ≡ find (λ item. bytes_eq (name_of item) name) items
find_turned name_of name [] = refl
find_turned {X} name_of name (item ∷ items) =
    ap (λ b. cond b (Some item) (find (λ (i : X). bytes_eq name (name_of i)) items)) (turned name (name_of item))
    ∙ ap (λ rest. cond (bytes_eq (name_of item) name) (Some item) rest) (find_turned name_of name items)

found_step : {X : Type 0} (name_of : X → List ℕ) (name : List ℕ) (test : Bool) (item : X) (rest : Option X) (any : Bool) → (test ≡ true → name ≡ name_of item) → option_map name_of rest ≡ (if any then Some name else None)
    → option_map name_of (cond test (Some item) rest) ≡ (if (test || any) then Some name else None)
found_step name_of name true item rest any same e = ap Some (sym (same refl))
found_step name_of name false item rest any same e = e

-- the name of what is found by name is that name
pub found_name : {X : Type 0} (name_of : X → List ℕ) (name : List ℕ) (items : List X) → option_map name_of (find (λ item. bytes_eq name (name_of item)) items) ≡ (if list_any (bytes_eq name) (map name_of items) then Some name else None)
found_name name_of name [] = refl
found_name name_of name (item ∷ items) =
    let e = bytes_eq-Decides name (name_of item) in
    found_step name_of name (bytes_eq name (name_of item)) item _ _ e.0 (found_name name_of name items)

known_cases : (null has : Bool) (kind : Kind) (class : List ℕ) → (if null then None else (if has then None else Some (stops.Unknown kind class))) ≡ None
    → (if null then None else (if has then Some class else None)) ≡ (if null then None else Some class)
known_cases true has kind class e = refl
known_cases false true kind class e = refl
known_cases false false kind class e = absurd (let s : Some (stops.Unknown kind class) ≡ None = e in cc)

pub known_or_null : (config : Configuration) (kind : Kind) (class : List ℕ) → class_stop config kind class ≡ None → known_class config kind class ≡ class_if_any class
known_or_null config kind class e = known_cases (is_null class) (has_construct kind class config) kind class e

pub named_is : (kind known : Kind) (config : Configuration) (class : List ℕ) (name : Option (List ℕ)) → kind ≡ known → name ≡ (if has_construct known class config then Some class else None)
    → name ≡ (if has_construct kind class config then Some class else None)
named_is kind known config class name e found = found ∙ ap (λ k. if has_construct k class config then Some class else None) (sym e)
