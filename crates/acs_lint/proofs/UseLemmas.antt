-- What is compared in each form of condition.
use Rattle.std.proofs.Common.{◌≡◌, ℕ, List, [], ◌∷◌, ◌++◌, sym, ◌∙◌, ap, append_assoc}
use Rattle.acs_tree.specs.declared.routine.Compare.{Compare}
use Rattle.acs_tree.specs.declared.routine.Cond.{Cond}
use Rattle.acs_tree.specs.declared.routine.Cond.TheOpen.{Cond-F}
use Rattle.acs_tree.specs.declared.routine.Cond.TheFolds.{fold-roll-Cond}
use Rattle.acs_tree.specs.declared.routine.Cond.TheVariants.{And, Or, Test, rolls-And, rolls-Or, rolls-Test}
use Rattle.acs_tree.specs.declared.routine.Operand.{Operand}
use Rattle.acs_tree.specs.declared.routine.Ref.{Ref}
use Rattle.acs_lint.specs.Uses.{cond_step, operands_of_cond}

pub cond_and : (one two : Cond) → operands_of_cond (And one two) ≡ operands_of_cond one ++ operands_of_cond two
cond_and one two = ap operands_of_cond (sym (rolls-And one two)) ∙ fold-roll-Cond (List Operand) cond_step (Cond-F.And one two)

pub cond_or : (one two : Cond) → operands_of_cond (Or one two) ≡ operands_of_cond one ++ operands_of_cond two
cond_or one two = ap operands_of_cond (sym (rolls-Or one two)) ∙ fold-roll-Cond (List Operand) cond_step (Cond-F.Or one two)

pub cond_test : (left : Ref) (op : Compare) (at : ℕ) (right : Operand) → operands_of_cond (Test left op at right) ≡ right ∷ []
cond_test left op at right = ap operands_of_cond (sym (rolls-Test left op at right)) ∙ fold-roll-Cond (List Operand) cond_step (Cond-F.Test left op at right)

pub ruleset operand_steps = (cond_and, cond_or, cond_test, append_assoc)
