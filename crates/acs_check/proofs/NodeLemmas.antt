-- The faults of nodes with many checks, one check after another.
use Rattle.std.proofs.Common.{◌≡◌, ◌<◌, ◌+◌, ℕ, suc, List, ◌∷◌, length, drop, drop-cons, get_or, sym, ◌∙◌, ap, arith}
use Rattle.std.specs.Prelude.{◌&&◌, ◌||◌, Bool, not, is_some, if◌then◌else◌, Option, Some}
use Rattle.acs_tree.specs.References.{is_known, is_misindexed, is_set_later}
use Rattle.acs_tree.specs.Suits.{token_of, token_if, is_listed, is_plain_unknown, is_var_with, is_word_with}
use Rattle.acs_tree.specs.Suits.{is_too_great, suits, range_token}
use Rattle.acs_tree.specs.declared.check_err.CheckErr.{CheckErr}
use Rattle.acs_tree.specs.declared.kind.Kind.{Kind}
use Rattle.acs_tree.specs.declared.routine.Operand.{Operand}
use Rattle.acs_tree.specs.declared.routine.Ref.{Ref}
use Rattle.acs_tree.specs.declared.routine.Stmt.{Stmt}
use Rattle.acs_tree.specs.Nodes.{Entry, Value, Right, entries_behind}
use Rattle.acs_tree.specs.Sound.{fault, unknown_variable, unknown_list, kind_mismatch, value_out_of_range}
use Rattle.acs_tree.specs.Sound.{mask_misplaced, too_many_values, read_too_early}
use Rattle.acs_check.specs.Inner.Walk.{least, met, walked}
use Rattle.acs_check.proofs.LeastLemmas.{least_append}

pub met_right : (kind : Kind) (before : List Stmt) (best : Option CheckErr) (left : Option Ref) (right : Operand)
    → least (least (least (least (least (least best (fault 2 (unknown_variable (Right left right)))) (fault 4 (unknown_list before (Right left right)))) (fault 6 (kind_mismatch before (Right left right))))
    (fault 8 (value_out_of_range (Right left right)))) (fault 9 (mask_misplaced before (Right left right)))) (fault 13 (read_too_early kind (Right left right)))
    ≡ met kind before best (Right left right)
met_right kind before best left right = sym (simp least_append)

pub met_value : (kind : Kind) (before : List Stmt) (best : Option CheckErr) (target : Ref) (earlier : List Operand) (value : Operand) (behind : List Operand)
    → least (least (least (least (least best (fault 2 (unknown_variable (Value target earlier value behind)))) (fault 6 (kind_mismatch before (Value target earlier value behind))))
    (fault 8 (value_out_of_range (Value target earlier value behind)))) (fault 11 (too_many_values (Value target earlier value behind)))) (fault 13 (read_too_early kind (Value target earlier value behind)))
    ≡ met kind before best (Value target earlier value behind)
met_value kind before best target earlier value behind = sym (simp least_append)

pub entries_turn : (kind : Kind) (before : List Stmt) (best : Option CheckErr) (entries : List Operand) (count : ℕ) (entry : Operand) → count < length entries → entry ≡ get_or entries count entry
    → walked kind before (met kind before best (Entry count entry)) (entries_behind (count + 1) (drop (count + 1) entries)) ≡ walked kind before best (entries_behind count (drop count entries))
entries_turn kind before best entries count entry h e =
    let d : drop count entries ≡ entry ∷ drop (suc count) entries = drop-cons entries count entry h ∙ ap (λ z. z ∷ drop (suc count) entries) (sym e) in
    let k : count + 1 ≡ suc count = omega arith in
    ap (λ z. walked kind before (met kind before best (Entry count entry)) (entries_behind z (drop z entries))) k ∙ sym (ap (λ z. walked kind before best (entries_behind count z)) d)

-- the calls of `right`, one after another
pub right_at : (kind : Kind) (before : List Stmt) (best : Option CheckErr) (left : Option Ref) (right : Operand) (listed u s g r : Bool) (at : ℕ) (b2 b4 b6 b8 b9 b13 : Option CheckErr)
    → at ≡ token_of right → listed ≡ is_listed before right.form → u ≡ is_var_with (λ ref. not (is_known ref) && is_some ref.index) right.form
    → s ≡ (not (suits listed left right.form) || is_var_with is_misindexed right.form) → g ≡ is_word_with (is_too_great left) right.form → r ≡ is_var_with (is_set_later kind) right.form
    → b2 ≡ least best (fault 2 (token_if u at)) → b4 ≡ least b2 (fault 4 (token_if (is_plain_unknown right.form && not listed) (token_of right))) → b6 ≡ least b4 (fault 6 (token_if s at))
    → b8 ≡ least b6 (fault 8 (if g then Some at else range_token right.form)) → b9 ≡ least b8 (fault 9 (mask_misplaced before (Right left right))) → b13 ≡ least b9 (fault 13 (token_if r at))
    → b13 ≡ met kind before best (Right left right)
right_at kind before best left right listed u s g r at b2 b4 b6 b8 b9 b13 eat elisted eu es eg er e2 e4 e6 e8 e9 e13 =
    let m = met_right kind before best left right in
    let f2 : b2 ≡ least best (fault 2 (unknown_variable (Right left right))) = e2 ∙ ap (λ z. least best (fault 2 (token_if z at))) eu ∙ ap (λ z. least best (fault 2 (token_if (is_var_with (λ ref. not (is_known ref) && is_some ref.index) right.form) z))) eat in
    let f4 : b4 ≡ least b2 (fault 4 (unknown_list before (Right left right))) = e4 ∙ ap (λ z. least b2 (fault 4 (token_if (is_plain_unknown right.form && not z) (token_of right)))) elisted in
    let f6 : b6 ≡ least b4 (fault 6 (kind_mismatch before (Right left right))) =
    e6 ∙ ap (λ z. least b4 (fault 6 (token_if z at))) (es ∙ ap (λ z. not (suits z left right.form) || is_var_with is_misindexed right.form) elisted)
    ∙ ap (λ z. least b4 (fault 6 (token_if (not (suits (is_listed before right.form) left right.form) || is_var_with is_misindexed right.form) z))) eat in
    let f8 : b8 ≡ least b6 (fault 8 (value_out_of_range (Right left right))) = e8 ∙ ap (λ z. least b6 (fault 8 (if z then Some at else range_token right.form))) eg ∙ ap (λ z. least b6 (fault 8 (if is_word_with (is_too_great left) right.form then Some z else range_token right.form))) eat in
    let f13 : b13 ≡ least b9 (fault 13 (read_too_early kind (Right left right))) = e13 ∙ ap (λ z. least b9 (fault 13 (token_if z at))) er ∙ ap (λ z. least b9 (fault 13 (token_if (is_var_with (is_set_later kind) right.form) z))) eat in
    f13 ∙ ap (λ z. least z (fault 13 (read_too_early kind (Right left right)))) (e9 ∙ ap (λ z. least z (fault 9 (mask_misplaced before (Right left right)))) (f8 ∙ ap (λ z. least z (fault 8 (value_out_of_range (Right left right))))
    (f6 ∙ ap (λ z. least z (fault 6 (kind_mismatch before (Right left right)))) (f4 ∙ ap (λ z. least z (fault 4 (unknown_list before (Right left right)))) f2)))) ∙ m
