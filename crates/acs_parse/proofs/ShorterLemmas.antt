-- What is left is shorter.
use Rattle.std.proofs.Common.{◌<◌, ◌≤◌, ℕ, Bool, List, length, arith, ap}
use Rattle.std.specs.Prelude.{Option}
use Rattle.acs_tree.specs.declared.routine.Ref.{Ref}
use Rattle.acs_tree.specs.declared.routine.Operand.{Operand}
use Rattle.acs_tree.specs.declared.routine.Cond.{Cond}
use Rattle.acs_tree.specs.declared.routine.When.{When}
use Rattle.acs_tree.specs.declared.routine.Stmt.{Stmt}
use Rattle.acs_parse.specs.declared.list_kind.ListKind.{ListKind}
use Rattle.acs_symbol.specs.declared.symbol.Symbol.{Symbol}
use Rattle.acs_parse.specs.declared.want.Want.{Want}
use Rattle.acs_parse.specs.Inner.Language.{Takes}
use Rattle.acs_parse.specs.Grammar.{IsIndex, no_index, index, IsRef, ref, IsOperand, literal, word_of, variable}
use Rattle.acs_parse.specs.Grammar.{IsFurther, no_further, after_comma, joined, IsOperands, operands, IsExclude}
use Rattle.acs_parse.specs.Grammar.{no_exclude, exclude, IsLists, including, excluding, IsFilter, filter, IsCode}
use Rattle.acs_parse.specs.Grammar.{no_code, code, IsCond, cond_of, IsOrs, no_or, or_more, IsConj, conj_of, IsAnds}
use Rattle.acs_parse.specs.Grammar.{no_and, and_more, IsPrim, test, group, IsStmt, set, choice, pick, group_of, write}
use Rattle.acs_parse.specs.Grammar.{exit, IsAlternative, no_alternative, alternative, IsChoice, by_value, by_condition}
use Rattle.acs_parse.specs.Grammar.{IsWhen, when_any, when_holds, IsWhens, no_when, more_whens, IsBlock, end_of}
use Rattle.acs_parse.specs.Grammar.{then_more, IsItem, item_filter, item_statement}

pub takes_shorter : (w : Want) {ts rest : List Symbol} → Takes w ts rest → length rest < length ts
takes_shorter w q = omega (arith, ap length q.2)

pub index_shorter : {total at : ℕ} {ts rest : List Symbol} {i : Option (List ℕ)} → IsIndex total ts i at rest → length rest ≤ length ts
index_shorter (no_index e) = omega arith
index_shorter index = omega arith

pub ref_shorter : {total : ℕ} {ts rest : List Symbol} {r : Ref} → IsRef total ts r rest → length rest < length ts
ref_shorter (ref d) = omega (arith, index_shorter d)

pub operand_shorter : {total : ℕ} {kind : ListKind} {ts rest : List Symbol} {o : Operand} → IsOperand total kind ts o rest → length rest < length ts
operand_shorter literal = omega arith
operand_shorter (word_of e) = omega arith
operand_shorter (variable e d) = ref_shorter d

pub further_shorter : {total : ℕ} {kind : ListKind} {ts rest : List Symbol} {os : List Operand} → IsFurther total kind ts os rest → length rest ≤ length ts
further_shorter (no_further e) = omega arith
further_shorter (after_comma d ds) = omega (arith, operand_shorter d, further_shorter ds)
further_shorter (joined e d ds) = omega (arith, operand_shorter d, further_shorter ds)

pub operands_shorter : {total : ℕ} {kind : ListKind} {ts rest : List Symbol} {os : List Operand} → IsOperands total kind ts os rest → length rest < length ts
operands_shorter (operands d ds) = omega (arith, operand_shorter d, further_shorter ds)

pub exclude_shorter : {total : ℕ} {ts rest : List Symbol} {os : List Operand} → IsExclude total ts os rest → length rest ≤ length ts
exclude_shorter (no_exclude e) = omega arith
exclude_shorter (exclude d) = omega (arith, operands_shorter d)

pub lists_shorter : {total : ℕ} {ts rest : List Symbol} {os xs : List Operand} → IsLists total ts os xs rest → length rest < length ts
lists_shorter (including d e) = omega (arith, operands_shorter d, exclude_shorter e)
lists_shorter (excluding d) = omega (arith, operands_shorter d)

pub filter_shorter : {total : ℕ} {ts rest : List Symbol} {s : Stmt} → IsFilter total ts s rest → length rest < length ts
filter_shorter (filter e d) = omega (arith, lists_shorter d)

pub code_shorter : {total : ℕ} {ts rest : List Symbol} {o : Option Operand} → IsCode total ts o rest → length rest ≤ length ts
code_shorter (no_code e) = omega arith
code_shorter code = omega arith

mutual
  pub cond_shorter : {total n m : ℕ} {may : ℕ → Bool} {ts rest : List Symbol} {c : Cond} → IsCond total may n ts c m rest → length rest < length ts
  cond_shorter (cond_of a b) = omega (arith, conj_shorter a, ors_shorter b)

  pub ors_shorter : {total n m : ℕ} {may : ℕ → Bool} {x c : Cond} {ts rest : List Symbol} → IsOrs total may n x ts c m rest → length rest ≤ length ts
  ors_shorter (no_or e) = omega arith
  ors_shorter (or_more f e a b) = omega (arith, conj_shorter a, ors_shorter b)

  pub conj_shorter : {total n m : ℕ} {may : ℕ → Bool} {ts rest : List Symbol} {c : Cond} → IsConj total may n ts c m rest → length rest < length ts
  conj_shorter (conj_of a b) = omega (arith, prim_shorter a, ands_shorter b)

  pub ands_shorter : {total n m : ℕ} {may : ℕ → Bool} {x c : Cond} {ts rest : List Symbol} → IsAnds total may n x ts c m rest → length rest ≤ length ts
  ands_shorter (no_and e) = omega arith
  ands_shorter (and_more f e a b) = omega (arith, prim_shorter a, ands_shorter b)

  pub prim_shorter : {total n m : ℕ} {may : ℕ → Bool} {ts rest : List Symbol} {c : Cond} → IsPrim total may n ts c m rest → length rest < length ts
  prim_shorter (test a e b) = omega (arith, ref_shorter a, operand_shorter b)
  prim_shorter (group e a) = omega (arith, cond_shorter a)

mutual
  pub stmt_shorter : {total n : ℕ} {may : ℕ → Bool} {ts rest : List Symbol} {s : Stmt} → IsStmt total may n ts s rest → length rest < length ts
  stmt_shorter (set a e b) = omega (arith, ref_shorter a, operands_shorter b)
  stmt_shorter (choice e a b c) = omega (arith, cond_shorter a, stmt_shorter b, alternative_shorter c)
  stmt_shorter (pick e a b) = omega (arith, choice_shorter a, alternative_shorter b)
  stmt_shorter (group_of e a) = omega (arith, block_shorter a)
  stmt_shorter (write a) = omega (arith, operands_shorter a)
  stmt_shorter (exit a) = omega (arith, code_shorter a)

  pub alternative_shorter : {total n : ℕ} {may : ℕ → Bool} {w : Want} {ts rest : List Symbol} {s : Option Stmt} → IsAlternative total may w n ts s rest → length rest ≤ length ts
  alternative_shorter (no_alternative e) = omega arith
  alternative_shorter (alternative e a) = omega (arith, stmt_shorter a)

  pub choice_shorter : {total n : ℕ} {may : ℕ → Bool} {ts rest : List Symbol} {r : Option Ref} {ws : List When} → IsChoice total may n ts r ws rest → length rest < length ts
  choice_shorter (by_value a b c) = omega (arith, ref_shorter a, when_shorter b, whens_shorter c)
  choice_shorter (by_condition b c) = omega (arith, when_shorter b, whens_shorter c)

  pub when_shorter : {total n : ℕ} {may : ℕ → Bool} {v : Bool} {ts rest : List Symbol} {w : When} → IsWhen total may v n ts w rest → length rest < length ts
  when_shorter (when_any a b) = omega (arith, operands_shorter a, stmt_shorter b)
  when_shorter (when_holds a b) = omega (arith, cond_shorter a, stmt_shorter b)

  pub whens_shorter : {total n : ℕ} {may : ℕ → Bool} {v : Bool} {ts rest : List Symbol} {ws : List When} → IsWhens total may v n ts ws rest → length rest ≤ length ts
  whens_shorter (no_when e) = omega arith
  whens_shorter (more_whens a b) = omega (arith, when_shorter a, whens_shorter b)

  pub block_shorter : {total n : ℕ} {may : ℕ → Bool} {top : Bool} {ts rest : List Symbol} {ss : List Stmt} → IsBlock total may top n ts ss rest → length rest < length ts
  block_shorter end_of = omega arith
  block_shorter (then_more a b) = omega (arith, item_shorter a, block_shorter b)

  pub item_shorter : {total n : ℕ} {may : ℕ → Bool} {top : Bool} {ts rest : List Symbol} {s : Stmt} → IsItem total may top n ts s rest → length rest < length ts
  item_shorter (item_filter a) = filter_shorter a
  item_shorter (item_statement a) = stmt_shorter a
