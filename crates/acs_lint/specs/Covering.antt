-- When one comparison holds wherever another does, by how they are written (docs/manual/tool.md, "Linting a deck").
use Rattle.std.specs.Prelude.{◌==◌, ◌&&◌, ◌||◌, ℕ, Bool, true, false, List, Option, Some, None, if◌then◌else◌}
use Rattle.std.specs.Str.{bytes_eq}
use Rattle.acs_trace.specs.Lint.{mask_covers, piece_covers}
use Rattle.acs_tree.specs.declared.routine.Compare.{Compare}
use Rattle.acs_tree.specs.declared.routine.Compare.TheVariants.{Eq, Ne, Gt, Lt, Ge, Le, Ng, Nl}
use Rattle.acs_tree.specs.declared.routine.Cond.{Cond, fold-Cond}
use Rattle.acs_tree.specs.declared.routine.Cond.TheOpen.{Cond-F}
use Rattle.acs_tree.specs.declared.routine.Cond.TheVariants.{Test}
use Rattle.acs_tree.specs.declared.routine.Operand.{Operand}
use Rattle.acs_tree.specs.declared.routine.OperandForm.{OperandForm}
use Rattle.acs_tree.specs.declared.routine.OperandForm.TheVariants.{Literal, Word, Var}
use Rattle.acs_tree.specs.declared.routine.Ref.{Ref}
use Rattle.acs_tree.specs.FilterLists.{is_mask, is_simple}
use Rattle.acs_tree.specs.References.{is_whole_name, takes_masks}

-- operands

-- no index beside none, or the same one
abbrev pub is_same_index : Option (List ℕ) → Option (List ℕ) → Bool
is_same_index None None = true
is_same_index None (Some other) = false
is_same_index (Some one) None = false
is_same_index (Some one) (Some other) = bytes_eq one other

-- the same variable with the same index, or the same name
abbrev pub is_same_ref : Ref → Ref → Bool
is_same_ref one other = bytes_eq one.name other.name && is_same_index one.index other.index

-- the same text, word or name
abbrev pub is_same_operand : OperandForm → OperandForm → Bool
is_same_operand (Literal one) (Literal other) = bytes_eq one other
is_same_operand (Word one) (Word other) = bytes_eq one other
is_same_operand (Var one) (Var other) = is_same_ref one other
is_same_operand _ _ = false

-- a mask that is compared with a variable covers a mask or a text
abbrev pub word_covers : Ref → List ℕ → List ℕ → Bool
word_covers left wide text =
    if is_whole_name left then mask_covers wide text && (is_mask wide && takes_masks left)
    else piece_covers wide text && (is_simple wide && takes_masks left)

-- an operand beside a variable covers another: it is the same, or a mask that covers it
abbrev pub covers : Ref → OperandForm → OperandForm → Bool
covers left (Literal wide) (Literal text) = bytes_eq wide text
covers left (Word wide) (Literal text) = word_covers left wide text
covers left (Word wide) (Word word) = bytes_eq wide word || word_covers left wide word
covers left (Var wide) (Var ref) = is_same_ref wide ref
covers left _ _ = false

-- comparisons

-- the number of a comparison, in the order of their table
abbrev pub rank_of : Compare → ℕ
rank_of Eq = 0
rank_of Ne = 1
rank_of Gt = 2
rank_of Lt = 3
rank_of Ge = 4
rank_of Le = 5
rank_of Ng = 6
rank_of Nl = 7

-- what a variable equals it equals by a wider operand; what it doesn't equal it doesn't equal by a narrower one
abbrev pub right_implies : Ref → Compare → OperandForm → OperandForm → Bool
right_implies left Eq right other = covers left other right
right_implies left Ne right other = covers left right other
right_implies left _ right other = is_same_operand right other

-- a comparison holds only where another does: they compare one variable by the same word
abbrev pub test_implies : Ref → Compare → Operand → Ref → Compare → Operand → Bool
test_implies left op right other_left other_op other_right =
    is_same_ref left other_left &&
    (rank_of op == rank_of other_op && right_implies left op right.form other_right.form)

-- conditions

-- what is asked of each comparison of a condition
abbrev pub Asked : Type 0
Asked = Ref → Compare → ℕ → Operand → Bool

-- the comparison is one of those asked for; of an AND one side is, and of an OR both are
abbrev pub ways_step : Asked → Cond-F Bool → Bool
ways_step asked (Cond-F.And one two) = one || two
ways_step asked (Cond-F.Or one two) = one && two
ways_step asked (Cond-F.Test left op op_at right) = asked left op op_at right

-- however a condition holds, a comparison that is asked for does
abbrev pub each_way : Asked → Cond → Bool
each_way asked = fold-Cond Bool (ways_step asked)

-- how a condition is implied, from how those in it are
abbrev pub implied_step : Cond-F (Cond → Bool) → Cond → Bool
implied_step (Cond-F.And one two) cond = one cond && two cond
implied_step (Cond-F.Or one two) cond =
    each_way (λ left op op_at right. one (Test left op op_at right) || two (Test left op op_at right)) cond
implied_step (Cond-F.Test other_left other_op other_op_at other_right) cond =
    each_way (λ left op op_at right. test_implies left op right other_left other_op other_right) cond

-- the first condition is implied by the second
abbrev pub implied_by : Cond → Cond → Bool
implied_by = fold-Cond (Cond → Bool) implied_step
