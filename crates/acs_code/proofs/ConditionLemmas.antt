-- What each form of condition says, one equation for each, and its code.
use Rattle.std.proofs.Common.{◌≡◌, ◌≤◌, ◌&&◌, ◌||◌, ℕ, Bool, true, false, List, [], ◌∷◌, length, refl, sym, ap, ◌∙◌}
use Rattle.std.proofs.Common.{subst}
use Rattle.std.specs.Prelude.{if◌then◌else◌}
use Rattle.std.specs.List.{list_any}
use Rattle.acs_tree.specs.declared.input.Input.{Input}
use Rattle.acs_tree.specs.declared.kind.Kind.{Kind}
use Rattle.acs_tree.specs.declared.routine.Compare.{Compare}
use Rattle.acs_tree.specs.declared.routine.Cond.{Cond}
use Rattle.acs_tree.specs.declared.routine.Cond.TheOpen.{Cond-F}
use Rattle.acs_tree.specs.declared.routine.Cond.TheFolds.{fold-roll-Cond}
use Rattle.acs_tree.specs.declared.routine.Cond.TheVariants.{And, Or, Test, rolls-And, rolls-Or, rolls-Test}
use Rattle.acs_tree.specs.declared.routine.Operand.{Operand}
use Rattle.acs_tree.specs.declared.routine.Ref.{Ref}
use Rattle.acs_tree.specs.declared.routine.Stmt.{Stmt}
use Rattle.acs_tree.specs.declared.values.Values.{Values}
use Rattle.acs_tree.specs.Comparands as comparand
use Rattle.acs_tree.specs.Comparands.{comparand_of}
use Rattle.acs_tree.specs.Compares.{compares, texts_compare, text_equals, groups_or_null}
use Rattle.acs_tree.specs.Conditions as conditions
use Rattle.acs_tree.specs.Conditions.{comparison, cond_step, holds}
use Rattle.acs_tree.specs.Value.{Value, Text, Number, Size, AnyOf, AllOf, Groups}
use Rattle.acs_tree.specs.Variables.{variable_value, index_of}
use Rattle.dsn_mask.specs.MaskTest.{is_empty}
use Rattle.std.specs.List.{list_all}
use Rattle.std.specs.Prelude.{not}
use Rattle.acs_code.specs.declared.instr.Instr.{Instr}
use Rattle.acs_code.specs.declared.instr.Instr.TheVariants.{Jump}
use Rattle.acs_code.specs.Compiled.{filters_of}
use Rattle.acs_code.specs.Inner.Upward.{Branches}
use Rattle.acs_code.proofs.Pieces.{branch_jump, branch_both, branch_either}

-- a comparison with nothing

none_of : (input : Input) (values : Values) (texts : List (List ℕ)) → list_any (text_equals input values comparand.Nothing) texts ≡ false
none_of input values [] = refl
none_of input values (text ∷ texts) = none_of input values texts

not_all_of : (input : Input) (values : Values) (texts : List (List ℕ)) → not (is_empty texts) && list_all (text_equals input values comparand.Nothing) texts ≡ false
not_all_of input values [] = refl
not_all_of input values (text ∷ texts) = refl

pub beside_nothing : (input : Input) (values : Values) (op : Compare) (value : Value) → compares input values op value comparand.Nothing ≡ texts_compare op false
beside_nothing input values op (Text text) = refl
beside_nothing input values op (Number number) = refl
beside_nothing input values op (Size kilobytes) = refl
beside_nothing input values op (AnyOf volumes) = ap (texts_compare op) (none_of input values volumes)
beside_nothing input values op (AllOf volumes) = ap (texts_compare op) (not_all_of input values volumes)
beside_nothing input values op (Groups groups) = ap (texts_compare op) (none_of input values (groups_or_null groups))

module _ (kind : Kind) (lists : List Stmt) where
  holds_and : (one two : Cond) → holds lists (And one two) ≡ (λ input values. holds lists one input values && holds lists two input values)
  holds_and one two = ap (holds lists) (sym (rolls-And one two)) ∙ fold-roll-Cond conditions.Test (cond_step lists) (Cond-F.And one two)

  holds_or : (one two : Cond) → holds lists (Or one two) ≡ (λ input values. holds lists one input values || holds lists two input values)
  holds_or one two = ap (holds lists) (sym (rolls-Or one two)) ∙ fold-roll-Cond conditions.Test (cond_step lists) (Cond-F.Or one two)

  holds_test : (left : Ref) (op : Compare) (op_at : ℕ) (right : Operand) → holds lists (Test left op op_at right) ≡ (λ input values. comparison lists left op right input values)
  holds_test left op op_at right = ap (holds lists) (sym (rolls-Test left op op_at right)) ∙ fold-roll-Cond conditions.Test (cond_step lists) (Cond-F.Test left op op_at right)

  -- the second condition's code stands behind the first's
  pub both_turn : {c one two x y : Cond} {a b second : ℕ} {rest mid code : List Instr} → c ≡ And one two → x ≡ two → y ≡ one → second ≡ length mid → b ≤ length rest
      → Branches kind (filters_of lists) (holds lists x) a b rest mid → Branches kind (filters_of lists) (holds lists y) second b mid code → Branches kind (filters_of lists) (holds lists c) a b rest code
  both_turn {c} {one} {two} {x} {y} {a} {b} {second} {rest} {mid} {code} e p q s h d f =
      rw (e, holds_and one two, sym p, sym q) (branch_both kind (filters_of lists) h d (subst (λ n. Branches kind (filters_of lists) (holds lists y) n b mid code) s f))

  pub either_turn : {c one two x y : Cond} {a b second : ℕ} {rest mid code : List Instr} → c ≡ Or one two → x ≡ two → y ≡ one → second ≡ length mid → a ≤ length rest
      → Branches kind (filters_of lists) (holds lists x) a b rest mid → Branches kind (filters_of lists) (holds lists y) a second mid code → Branches kind (filters_of lists) (holds lists c) a b rest code
  either_turn {c} {one} {two} {x} {y} {a} {b} {second} {rest} {mid} {code} e p q s h d f =
      rw (e, holds_or one two, sym p, sym q) (branch_either kind (filters_of lists) h d (subst (λ n. Branches kind (filters_of lists) (holds lists y) a n mid code) s f))

  -- a comparison with nothing is a jump
  pub nothing_turn : (left : Ref) (op : Compare) (operand : Operand) {a b to : ℕ} {rest code : List Instr} → comparand_of lists left operand ≡ comparand.Nothing → to ≡ (if texts_compare op false then a else b)
      → a ≤ length rest → b ≤ length rest → code ≡ Jump to ∷ rest → Branches kind (filters_of lists) (comparison lists left op operand) a b rest code
  nothing_turn left op operand {a} {b} {to} {rest} {code} none et ha hb e =
      rw e (branch_jump kind (filters_of lists) (comparison lists left op operand) a b to rest within
      (λ input values. et ∙ ap (λ t. if t then a else b) (sym (ap (compares input values op (variable_value left.name (index_of left.index) input values)) none ∙ beside_nothing input values op (variable_value left.name (index_of left.index) input values)))))
    where
      either : (t : Bool) → (if t then a else b) ≤ length rest
      either true = ha
      either false = hb

      within : to ≤ length rest
      within = subst (λ n. n ≤ length rest) (sym et) (either (texts_compare op false))
