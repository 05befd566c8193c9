-- The definitions at worked examples.
use Rattle.std.proofs.Common.{◌≡◌, ℕ, true, false, List, [], ◌∷◌, ◌++◌, refl}
use Rattle.std.specs.Fmt.{digits}
use Rattle.std.specs.Prelude.{codes, Some, None, replicate}
use Rattle.acs_tree.specs.declared.input.Input.{Input}
use Rattle.acs_tree.specs.declared.routine.Compare.TheVariants.{Eq, Ne, Gt, Lt, Ng, Nl}
use Rattle.acs_tree.specs.declared.kind.Kind.TheVariants.{StorClas, StorGrp}
use Rattle.acs_tree.specs.declared.routine.Form.TheVariants.{Filt}
use Rattle.acs_tree.specs.declared.routine.Operand.{Operand}
use Rattle.acs_tree.specs.declared.routine.OperandForm.TheVariants.{Literal, Word, Var}
use Rattle.acs_tree.specs.declared.routine.Ref.{Ref}
use Rattle.acs_tree.specs.declared.routine.Stmt.{Stmt}
use Rattle.acs_tree.specs.declared.ending.Ending.TheVariants.{Falls, Exit}
use Rattle.acs_tree.specs.Numbers.{size_of}
use Rattle.acs_tree.specs.Conditions.{comparison, equals_any}
use Rattle.acs_tree.specs.Inputs.{bare_input, no_values}
use Rattle.acs_tree.specs.Meaning.{first_of, in_turn, writes, Arm}
use Rattle.acs_tree.specs.Outcome.{nothing, exits}
use Rattle.acs_tree.specs.Setting.{sets}
use Rattle.acs_tree.specs.Writing.{line_of}
use Rattle.acs_tree.specs.Variables.{variable_of, variable_value}
use Rattle.acs_tree.specs.Value.{Text, Number}

-- a request of JOB1 for a data set A.B, on two volumes
abbrev ab : Input
ab = record (bare_input (codes "A.B")) {
  origin = record { job = codes "JOB1"; user = []; group = []; pgm = []; dd = []; applic = [] };
  accounting = record { acct_job = codes "A1" ∷ codes "A2" ∷ []; acct_step = [] };
  amounts = record { retpd = 7; blksize = 0; size = 56; maxsize = 886 };
  volumes = codes "V1" ∷ codes "V2" ∷ [];
}

abbrev variable : List ℕ → Ref
variable name = record { at = 0; name = name; index = None; index_at = 0 }

abbrev indexed : List ℕ → List ℕ → Ref
indexed name index = record { at = 0; name = name; index = Some index; index_at = 0 }

abbrev quoted : List ℕ → Operand
quoted text = record { at = 0; form = Literal text }

abbrev word : List ℕ → Operand
word text = record { at = 0; form = Word text }

abbrev value : Ref → Operand
value ref = record { at = 0; form = Var ref }

-- variables

hlq : variable_value (codes "HLQ") 0 ab no_values ≡ Text (codes "A")
unfolding variable_value
hlq = refl

past_the_last : variable_value (codes "DSN") 3 ab no_values ≡ Text []
unfolding variable_value
past_the_last = refl

second_field : variable_value (codes "ACCT_JOB") 2 ab no_values ≡ Text (codes "A2")
unfolding variable_value
second_field = refl

no_field : variable_value (codes "ACCT_JOB") 0 ab no_values ≡ Text []
unfolding variable_value
no_field = refl

always_null : variable_value (codes "LIBNAME") 0 ab no_values ≡ Text []
unfolding variable_value
always_null = refl

count_of_volumes : variable_value (codes "NVOL") 0 ab no_values ≡ Number 2
unfolding variable_value
count_of_volumes = refl

-- sizes
sizes : line_of (value (variable (codes "SIZE")) ∷ quoted (codes " ") ∷ value (variable (codes "MAXSIZE")) ∷ []) ab no_values ≡ codes "56KB 886KB"
unfolding variable_value digits
sizes = refl

megabytes : size_of (codes "3MB") ≡ Some 3072
megabytes = refl

-- a line of 100 letters and 20 is cut to 110
cut : line_of (quoted (replicate 100 65) ∷ quoted (replicate 20 66) ∷ []) ab no_values ≡ replicate 100 65 ++ replicate 10 66
cut = refl

-- first match: the first WHEN sets the class, and the second, which holds too, is not reached
abbrev first_arm : Arm
first_arm = record { test = λ subject. comparison [] (variable (codes "HLQ")) Eq (quoted (codes "A")); body = sets StorClas (variable (codes "STORCLAS")) (quoted (codes "SC1") ∷ []) }

abbrev second_arm : Arm
second_arm = record { test = λ subject. comparison [] (variable (codes "DSN")) Eq (word (codes "A.**")); body = λ input values. exits 8 values }

first_match : first_of None (first_arm ∷ second_arm ∷ []) nothing ab no_values ≡ record { values = record { dataclas = []; storclas = codes "SC1"; mgmtclas = []; groups = [] }; lines = []; ending = Falls }
unfolding variable_value variable_of
first_match = refl

-- one of two WHENs is the other's ELSE: where none holds the other is done
with_none : first_of None (second_arm ∷ []) (writes (quoted (codes "NONE") ∷ [])) (record ab { dsn = codes "B.A" }) no_values ≡ record { values = no_values; lines = codes "NONE" ∷ []; ending = Falls }
unfolding variable_value variable_of
with_none = refl

-- nothing follows an EXIT, and what was written before stands
exit_ends : in_turn (writes (quoted (codes "NO ") ∷ value (variable (codes "JOB")) ∷ []) ∷ (λ input values. exits 12 values) ∷ writes (quoted (codes "X") ∷ []) ∷ []) ab no_values
    ≡ record { values = no_values; lines = codes "NO JOB1" ∷ []; ending = Exit 12 }
unfolding variable_value
exit_ends = refl

-- filter lists

abbrev list : List ℕ → List Operand → List Operand → Stmt
list name include exclude = record { at = 0; form = Filt name 0 include exclude }

abbrev a_without_b : Stmt
a_without_b = list (codes "F") (quoted (codes "A") ∷ quoted (codes "B") ∷ []) (quoted (codes "B") ∷ [])

exclude_wins : comparison (a_without_b ∷ []) (variable (codes "LLQ")) Eq (value (variable (codes "F"))) ab no_values ≡ false
unfolding variable_value variable_of
exclude_wins = refl

included : comparison (a_without_b ∷ []) (variable (codes "HLQ")) Eq (value (variable (codes "F"))) ab no_values ≡ true
unfolding variable_value variable_of
included = refl

-- a list of EXCLUDE alone takes every other value
exclude_alone : comparison (list (codes "F") [] (word (codes "A.**") ∷ []) ∷ []) (variable (codes "DSN")) Eq (value (variable (codes "F"))) (record ab { dsn = codes "B.A" }) no_values ≡ true
unfolding variable_value variable_of
exclude_alone = refl

-- numbers: NG is LE and NL is GE, at the equal value too

not_greater : comparison [] (variable (codes "RETPD")) Ng (word (codes "7")) ab no_values ≡ true
unfolding variable_value variable_of
not_greater = refl

not_less : comparison [] (variable (codes "RETPD")) Nl (word (codes "007")) ab no_values ≡ true
unfolding variable_value variable_of
not_less = refl

greater : comparison [] (variable (codes "RETPD")) Gt (word (codes "7")) ab no_values ≡ false
unfolding variable_value variable_of
greater = refl

size_below : comparison [] (variable (codes "MAXSIZE")) Lt (word (codes "1MB")) ab no_values ≡ true
unfolding variable_value variable_of
size_below = refl

-- volumes

any_volume : comparison [] (variable (codes "ANYVOL")) Eq (quoted (codes "V2")) ab no_values ≡ true
unfolding variable_value variable_of
any_volume = refl

all_volumes : comparison [] (variable (codes "ALLVOL")) Eq (word (codes "V%")) ab no_values ≡ true
unfolding variable_value variable_of
all_volumes = refl

not_all_volumes : comparison [] (variable (codes "ALLVOL")) Eq (quoted (codes "V2")) ab no_values ≡ false
unfolding variable_value variable_of
not_all_volumes = refl

-- NE is the negation of EQ: it holds of no volumes, and not of volumes with an equal one
not_any_of_none : comparison [] (variable (codes "ANYVOL")) Ne (quoted (codes "V2")) (record ab { volumes = [] }) no_values ≡ true
unfolding variable_value variable_of
not_any_of_none = refl

not_any : comparison [] (variable (codes "ANYVOL")) Ne (quoted (codes "V2")) ab no_values ≡ false
unfolding variable_value variable_of
not_any = refl

all_of_none : comparison [] (variable (codes "ALLVOL")) Eq (word (codes "*")) (record ab { volumes = [] }) no_values ≡ false
unfolding variable_value variable_of
all_of_none = refl

volumes_written : line_of (value (variable (codes "ANYVOL")) ∷ []) ab no_values ≡ codes "V1,V2"
unfolding variable_value
volumes_written = refl

-- storage groups: an empty list is compared as the null text

empty_is_null : comparison [] (variable (codes "STORGRP")) Eq (quoted []) ab no_values ≡ true
unfolding variable_value variable_of
empty_is_null = refl

empty_fits_star : comparison [] (variable (codes "STORGRP")) Eq (word (codes "*")) ab no_values ≡ true
unfolding variable_value variable_of
empty_fits_star = refl

some_group : comparison [] (variable (codes "STORGRP")) Eq (word (codes "SG*")) ab (record no_values { groups = codes "X" ∷ codes "SG1" ∷ [] }) ≡ true
unfolding variable_value variable_of
some_group = refl

groups_are_not_null : comparison [] (variable (codes "STORGRP")) Eq (quoted []) ab (record no_values { groups = codes "X" ∷ [] }) ≡ false
unfolding variable_value variable_of
groups_are_not_null = refl

replaced : sets StorGrp (variable (codes "STORGRP")) (quoted (codes "SG2") ∷ quoted (codes "SG1") ∷ []) ab (record no_values { groups = codes "X" ∷ [] }) ≡ record { values = record no_values { groups = codes "SG2" ∷ codes "SG1" ∷ [] }; lines = []; ending = Falls }
replaced = refl

emptied : sets StorGrp (variable (codes "STORGRP")) (quoted [] ∷ []) ab (record no_values { groups = codes "X" ∷ [] }) ≡ record { values = no_values; lines = []; ending = Falls }
emptied = refl

-- SELECT of a variable: a list, a mask, a literal and a variable
selected : equals_any (a_without_b ∷ []) (variable (codes "LLQ")) (value (variable (codes "F")) ∷ word (codes "X*") ∷ quoted (codes "C") ∷ value (indexed (codes "DSN") (codes "2")) ∷ []) ab no_values ≡ true
unfolding variable_value variable_of
selected = refl
