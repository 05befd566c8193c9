-- A filter list by its name, statement by statement.
use Rattle.std.proofs.Common.{◌≡◌, ◌<◌, ◌+◌, ◌||◌, ℕ, zero, suc, Bool, true, false, List, [], ◌∷◌, length, drop, drop-cons}
use Rattle.std.proofs.Common.{get_or, refl, sym, ap, ◌∙◌, arith}
use Rattle.std.specs.Prelude.{Option, Some, None, bytes_eq, cond, find, is_some}
use Rattle.std.specs.List.{cons_option, list_any}
use Rattle.acs_tree.specs.declared.routine.Stmt.{Stmt}
use Rattle.acs_tree.specs.FilterLists.{FilterList, is_list, is_simple_list, list_named, list_of, lists_in}
use Rattle.acs_check.specs.Inner.Marks.{has_name, is_list_named, is_simple_statement}

any_past : (b c : Bool) → c ≡ true → (b || c) ≡ true
any_past true c e = refl
any_past false c e = e

-- one statement that passes is one of all
pub any_at : (test : Stmt → Bool) (statements : List Stmt) (place : ℕ) (statement : Stmt) → place < length statements → statement ≡ get_or statements place statement → test statement ≡ true → list_any test statements ≡ true
any_at test [] place statement h e t = absurd (omega (arith, h))
any_at test (s ∷ statements) zero statement h e t = ap (λ b. b || list_any test statements) (ap test (sym e) ∙ t)
any_at test (s ∷ statements) (suc place) statement h e t = any_past (test s) (list_any test statements) (any_at test statements place statement (omega (arith, h)) e t)

module _ (name : List ℕ) where
  -- a list in front of others, by whether it has the name
  abbrev behind : Option FilterList → List FilterList → Option FilterList
  behind list others = find (λ (other : FilterList). bytes_eq other.name name) (cons_option list others)

  abbrev among : List FilterList → Option FilterList
  among lists = find (λ (other : FilterList). bytes_eq other.name name) lists

  either : (b : Bool) (list : FilterList) (rest : Option FilterList) (any : Bool) → any ≡ is_some rest → (b || any) ≡ is_some (cond b (Some list) rest)
  either true list rest any e = refl
  either false list rest any e = e

  any_in : (list : Option FilterList) (others : List FilterList) (any : Bool) → any ≡ is_some (among others) → (has_name name list || any) ≡ is_some (behind list others)
  any_in None others any e = e
  any_in (Some list) others any e = either (bytes_eq list.name name) list (among others) any e

  pub any_is_list : (before : List Stmt) → list_any (is_list_named name) before ≡ is_list before name
  any_is_list [] = refl
  any_is_list (statement ∷ before) = any_in (list_of statement.form) (lists_in before) (list_any (is_list_named name) before) (any_is_list before)

  past : (list : Option FilterList) (others : List FilterList) → has_name name list ≡ false → behind list others ≡ among others
  past None others e = refl
  past (Some list) others e = ap (λ b. cond b (Some list) (among others)) e

  found : (list : Option FilterList) (others : List FilterList) → has_name name list ≡ true → is_simple_list list ≡ is_simple_list (behind list others)
  found None others e = cc
  found (Some list) others e = ap (λ b. is_simple_list (cond b (Some list) (among others))) (sym e)

  module _ (statements : List Stmt) (index : ℕ) (statement : Stmt) (within : index < length statements) (is : statement ≡ get_or statements index statement) where
    here : drop index statements ≡ statement ∷ drop (index + 1) statements
    here =
        let one : suc index ≡ index + 1 = omega arith in
        drop-cons statements index statement within ∙ ap (λ first. first ∷ drop (suc index) statements) (sym is) ∙ ap (λ n. statement ∷ drop n statements) one

    -- a statement of another name is passed
    pub past_turn : is_list_named name statement ≡ false → list_named (drop (index + 1) statements) name ≡ list_named (drop index statements) name
    past_turn e = sym (ap (λ rest. list_named rest name) here ∙ past (list_of statement.form) (lists_in (drop (index + 1) statements)) e)

    -- a statement of that name is the list
    pub found_turn : is_list_named name statement ≡ true → is_simple_statement statement ≡ is_simple_list (list_named (drop index statements) name)
    found_turn e = found (list_of statement.form) (lists_in (drop (index + 1) statements)) e ∙ ap (λ rest. is_simple_list (list_named rest name)) (sym here)
