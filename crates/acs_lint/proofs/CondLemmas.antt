-- How a condition is implied by another, layer by layer.
use Rattle.std.proofs.Common.{◌≡◌, ◌&&◌, ◌||◌, ℕ, Bool, refl, sym, ◌∙◌, ap}
use Rattle.acs_tree.specs.declared.routine.Compare.{Compare}
use Rattle.acs_tree.specs.declared.routine.Cond.{Cond}
use Rattle.acs_tree.specs.declared.routine.Cond.TheOpen.{Cond-F}
use Rattle.acs_tree.specs.declared.routine.Cond.TheFolds.{fold-roll-Cond}
use Rattle.acs_tree.specs.declared.routine.Cond.TheVariants.{And, Or, Test, rolls-And, rolls-Or, rolls-Test}
use Rattle.acs_tree.specs.declared.routine.Operand.{Operand}
use Rattle.acs_tree.specs.declared.routine.Ref.{Ref}
use Rattle.acs_lint.specs.Covering.{Asked, each_way, implied_by, implied_step, test_implies, ways_step}

pub ways_and : (asked : Asked) (one two : Cond) → each_way asked (And one two) ≡ each_way asked one || each_way asked two
ways_and asked one two = ap (each_way asked) (sym (rolls-And one two)) ∙ fold-roll-Cond Bool (ways_step asked) (Cond-F.And one two)

pub ways_or : (asked : Asked) (one two : Cond) → each_way asked (Or one two) ≡ each_way asked one && each_way asked two
ways_or asked one two = ap (each_way asked) (sym (rolls-Or one two)) ∙ fold-roll-Cond Bool (ways_step asked) (Cond-F.Or one two)

pub ways_test : (asked : Asked) (left : Ref) (op : Compare) (at : ℕ) (right : Operand) → each_way asked (Test left op at right) ≡ asked left op at right
ways_test asked left op at right = ap (each_way asked) (sym (rolls-Test left op at right)) ∙ fold-roll-Cond Bool (ways_step asked) (Cond-F.Test left op at right)

-- what is asked for beside an OR, and beside a comparison
abbrev asked_or : Cond → Cond → Asked
asked_or one two left op at right = implied_by one (Test left op at right) || implied_by two (Test left op at right)

abbrev asked_test : Ref → Compare → Operand → Asked
asked_test other_left other_op other_right left op at right = test_implies left op right other_left other_op other_right

implied_and' : (one two : Cond) → implied_by (And one two) ≡ (λ cond. implied_by one cond && implied_by two cond)
implied_and' one two = ap implied_by (sym (rolls-And one two)) ∙ fold-roll-Cond (Cond → Bool) implied_step (Cond-F.And one two)

implied_or' : (one two : Cond) → implied_by (Or one two) ≡ (λ cond. each_way (asked_or one two) cond)
implied_or' one two = ap implied_by (sym (rolls-Or one two)) ∙ fold-roll-Cond (Cond → Bool) implied_step (Cond-F.Or one two)

implied_test' : (left : Ref) (op : Compare) (at : ℕ) (right : Operand) → implied_by (Test left op at right) ≡ (λ cond. each_way (asked_test left op right) cond)
implied_test' left op at right = ap implied_by (sym (rolls-Test left op at right)) ∙ fold-roll-Cond (Cond → Bool) implied_step (Cond-F.Test left op at right)

pub implied_and : (one two cond : Cond) → implied_by (And one two) cond ≡ implied_by one cond && implied_by two cond
implied_and one two cond = ap (λ (f : Cond → Bool). f cond) (implied_and' one two)

pub implied_or : (one two cond : Cond) → implied_by (Or one two) cond ≡ each_way (asked_or one two) cond
implied_or one two cond = ap (λ (f : Cond → Bool). f cond) (implied_or' one two)

pub implied_test : (left : Ref) (op : Compare) (at : ℕ) (right : Operand) (cond : Cond) → implied_by (Test left op at right) cond ≡ each_way (asked_test left op right) cond
implied_test left op at right cond = ap (λ (f : Cond → Bool). f cond) (implied_test' left op at right)

pub or_by_and : (one two a b : Cond) → implied_by (Or one two) (And a b) ≡ implied_by (Or one two) a || implied_by (Or one two) b
or_by_and one two a b =
    implied_or one two (And a b) ∙ ways_and (asked_or one two) a b
    ∙ ap (λ (x : Bool). x || each_way (asked_or one two) b) (sym (implied_or one two a)) ∙ ap (λ (x : Bool). implied_by (Or one two) a || x) (sym (implied_or one two b))

pub or_by_or : (one two a b : Cond) → implied_by (Or one two) (Or a b) ≡ implied_by (Or one two) a && implied_by (Or one two) b
or_by_or one two a b =
    implied_or one two (Or a b) ∙ ways_or (asked_or one two) a b
    ∙ ap (λ (x : Bool). x && each_way (asked_or one two) b) (sym (implied_or one two a)) ∙ ap (λ (x : Bool). implied_by (Or one two) a && x) (sym (implied_or one two b))

pub or_by_test : (one two : Cond) (left : Ref) (op : Compare) (at : ℕ) (right : Operand) → implied_by (Or one two) (Test left op at right) ≡ implied_by one (Test left op at right) || implied_by two (Test left op at right)
or_by_test one two left op at right = implied_or one two (Test left op at right) ∙ ways_test (asked_or one two) left op at right

pub test_by_and : (left : Ref) (op : Compare) (at : ℕ) (right : Operand) (a b : Cond) → implied_by (Test left op at right) (And a b) ≡ implied_by (Test left op at right) a || implied_by (Test left op at right) b
test_by_and left op at right a b =
    implied_test left op at right (And a b) ∙ ways_and (asked_test left op right) a b
    ∙ ap (λ (x : Bool). x || each_way (asked_test left op right) b) (sym (implied_test left op at right a))
    ∙ ap (λ (x : Bool). implied_by (Test left op at right) a || x) (sym (implied_test left op at right b))

pub test_by_or : (left : Ref) (op : Compare) (at : ℕ) (right : Operand) (a b : Cond) → implied_by (Test left op at right) (Or a b) ≡ implied_by (Test left op at right) a && implied_by (Test left op at right) b
test_by_or left op at right a b =
    implied_test left op at right (Or a b) ∙ ways_or (asked_test left op right) a b
    ∙ ap (λ (x : Bool). x && each_way (asked_test left op right) b) (sym (implied_test left op at right a))
    ∙ ap (λ (x : Bool). implied_by (Test left op at right) a && x) (sym (implied_test left op at right b))

pub test_by_test : (other_left : Ref) (other_op : Compare) (other_at : ℕ) (other_right : Operand) (left : Ref) (op : Compare) (at : ℕ) (right : Operand)
    → implied_by (Test other_left other_op other_at other_right) (Test left op at right) ≡ test_implies left op right other_left other_op other_right
test_by_test other_left other_op other_at other_right left op at right =
    implied_test other_left other_op other_at other_right (Test left op at right) ∙ ways_test (asked_test other_left other_op other_right) left op at right

pub ruleset implied_steps = (implied_and, or_by_and, or_by_or, or_by_test, test_by_and, test_by_or, test_by_test)
