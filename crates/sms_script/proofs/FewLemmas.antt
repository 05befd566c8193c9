-- A command has few words.
use Rattle.std.proofs.Common.{◌≡◌, ◌≤◌, ◌<◌, ◌+◌, ℕ, Bool, true, false, List, [], ◌∷◌, length, refl, arith}
use Rattle.std.specs.Prelude.{Option, None, Some, not, ◌&&◌, ◌||◌, is_some, if◌then◌else◌}
use Rattle.std.specs.List.{cons_option, list_all, list_any}
use Rattle.dsn_mask.specs.DataSetName.{dsn_of}
use Rattle.dsn_mask.specs.Name.{name_of}
use Rattle.sms_script.specs.declared.command.Command.{Command}
use Rattle.sms_script.specs.declared.verb.Verb.{Verb}
use Rattle.sms_script.specs.declared.verb.Verb.TheVariants as verbs
use Rattle.sms_script.specs.Commands.{command_in, is_admin, request_of}
use Rattle.sms_script.specs.Found.{◌⊳◌}
use Rattle.sms_script.specs.Operands.{are_many, are_operands, has_key, is_once, is_operand, keys, request_in, values_of}
use Rattle.sms_script.specs.Ops.{may_ask, number_in, op_in, op_with, verb_of}
use Rattle.sms_construct.specs.Parts.{behind_front}
use Rattle.sms_script.proofs.ListLemmas.{both_parts}

-- how many values stand behind these keys
abbrev total : List (List ℕ) → List (List ℕ) → ℕ
total [] operands = 0
total (key ∷ keys) operands = length (values_of key operands) + total keys operands

longer : (o : Option (List ℕ)) (vs : List (List ℕ)) → length vs ≤ length (cons_option o vs)
longer None vs = omega arith
longer (Some v) vs = omega arith

longer_by : (o : Option (List ℕ)) (vs : List (List ℕ)) → is_some o ≡ true → length vs + 1 ≤ length (cons_option o vs)
longer_by None vs is = absurd (cc is)
longer_by (Some v) vs is = omega arith

no_less : (ks : List (List ℕ)) (word : List ℕ) (operands : List (List ℕ)) → total ks operands ≤ total ks (word ∷ operands)
no_less [] word operands = omega arith
no_less (key ∷ ks) word operands = let a = longer (behind_front key word) (values_of key operands) in let b = no_less ks word operands in omega (arith, a, b)

rest_any : (b c : Bool) → (b || c) ≡ true → b ≡ false → c ≡ true
rest_any true c any is = absurd (cc is)
rest_any false c any is = any

more_where : (b : Bool) (key : List ℕ) (ks : List (List ℕ)) (word : List ℕ) (operands : List (List ℕ)) → has_key word key ≡ b
    → (list_any (has_key word) ks ≡ true → total ks operands + 1 ≤ total ks (word ∷ operands)) → list_any (has_key word) (key ∷ ks) ≡ true
    → total (key ∷ ks) operands + 1 ≤ total (key ∷ ks) (word ∷ operands)
more_where true key ks word operands is more any =
    let a = longer_by (behind_front key word) (values_of key operands) is in let b = no_less ks word operands in omega (arith, a, b)
more_where false key ks word operands is more any =
    let a = longer (behind_front key word) (values_of key operands) in let b = more (rest_any (has_key word key) (list_any (has_key word) ks) any is) in omega (arith, a, b)

one_more : (ks : List (List ℕ)) (word : List ℕ) (operands : List (List ℕ)) → list_any (has_key word) ks ≡ true → total ks operands + 1 ≤ total ks (word ∷ operands)
one_more [] word operands any = absurd (cc any)
one_more (key ∷ ks) word operands any = more_where (has_key word key) key ks word operands refl (one_more ks word operands) any

at_least : (operands : List (List ℕ)) → list_all is_operand operands ≡ true → length operands ≤ total keys operands
at_least [] all = omega arith
at_least (word ∷ operands) all =
    let parts = both_parts (is_operand word) (list_all is_operand operands) all in
    let a = one_more keys word operands parts.0 in
    let b = at_least operands parts.1 in
    omega (arith, a, b)

one_at_most : (vs : List (List ℕ)) → not (are_many vs) ≡ true → length vs ≤ 1
one_at_most [] is = omega arith
one_at_most (v ∷ []) is = omega arith
one_at_most (v ∷ w ∷ vs) is = absurd (cc is)

at_most : (ks : List (List ℕ)) (operands : List (List ℕ)) → list_all (is_once operands) ks ≡ true → total ks operands ≤ length ks
at_most [] operands all = omega arith
at_most (key ∷ ks) operands all =
    let parts = both_parts (is_once operands key) (list_all (is_once operands) ks) all in
    let a = one_at_most (values_of key operands) parts.0 in
    let b = at_most ks operands parts.1 in
    omega (arith, a, b)

few_operands : (operands : List (List ℕ)) → are_operands operands ≡ true → length operands ≤ 29
few_operands operands are =
    let parts = both_parts (list_all is_operand operands) (list_all (is_once operands) keys) are in
    let a = at_least operands parts.0 in
    let b = at_most keys operands parts.1 in
    omega (arith, a, b)

no_request : {X : Type 0} (b : Bool) (operands : List (List ℕ)) (o : Option X) → are_operands operands ≡ b → 29 < length operands → (if b then o else None) ≡ None
no_request true operands o are many = let a = few_operands operands are in absurd (omega (arith, a, many))
no_request false operands o are many = refl

no_alloc : (dsn : Option (List ℕ)) (operands : List (List ℕ)) → 29 < length operands → (dsn ⊳ λ name. if are_operands operands then request_in name operands else None) ≡ None
no_alloc None operands many = refl
no_alloc (Some name) operands many = no_request (are_operands operands) operands (request_in name operands) refl many

none_with : (verb : Verb) (operands : List (List ℕ)) → 30 < length operands → op_with verb operands ≡ None
none_with verb [] many = absurd (omega (arith, many))
none_with verb (a ∷ []) many = absurd (omega (arith, many))
none_with verb (a ∷ b ∷ []) many = absurd (omega (arith, many))
none_with verbs.Alloc (a ∷ b ∷ c ∷ operands) many = rw (no_alloc (dsn_of a) (b ∷ c ∷ operands) (omega (arith, many))) refl
none_with verbs.Extend (a ∷ b ∷ c ∷ operands) many = refl
none_with verbs.Delete (a ∷ b ∷ c ∷ operands) many = refl
none_with verbs.Release (a ∷ b ∷ c ∷ operands) many = refl
none_with verbs.Used (a ∷ b ∷ c ∷ operands) many = refl
none_with verbs.Display (a ∷ b ∷ c ∷ operands) many = refl
none_with verbs.Vary (a ∷ b ∷ c ∷ operands) many = refl
none_with verbs.Purge (a ∷ b ∷ c ∷ operands) many = refl

none_asked : (may : Bool) (verb : Verb) (operands : List (List ℕ)) → 30 < length operands → (if may then op_with verb operands else None) ≡ None
none_asked true verb operands many = none_with verb operands many
none_asked false verb operands many = refl

none_named : (admin : Bool) (verb : Option Verb) (operands : List (List ℕ)) → 30 < length operands → (verb ⊳ λ v. if may_ask admin v then op_with v operands else None) ≡ None
none_named admin None operands many = refl
none_named admin (Some verb) operands many = none_asked (may_ask admin verb) verb operands many

-- no op has more than 31 words
pub no_op : (admin : Bool) (words : List (List ℕ)) → 31 < length words → op_in admin words ≡ None
no_op admin [] many = refl
no_op admin (word ∷ operands) many = none_named admin (verb_of word) operands (omega (arith, many))

nothing_behind : {A B : Type 0} (o : Option A) (f : A → Option B) → ((x : A) → f x ≡ None) → (o ⊳ f) ≡ None
nothing_behind None f none = refl
nothing_behind (Some x) f none = none x

no_whole : (job number : List ℕ) (words : List (List ℕ)) → 31 < length words → request_of job number words ≡ None
no_whole job number words many =
    nothing_behind (name_of job) _ (λ name. nothing_behind (number_in number) _ (λ n. rw (no_op (is_admin job) words many) refl))

no_line : (b : Bool) (o : Option Command) (job number : List ℕ) (words : List (List ℕ)) → b ≡ false → 31 < length words → (if b then o else request_of job number words) ≡ None
no_line b o job number words is many = rw (is, no_whole job number words many) refl

and_none : (b : Bool) → (b && false) ≡ false
and_none true = refl
and_none false = refl

-- no command has more than 33 words
pub no_command : (words : List (List ℕ)) → 33 < length words → command_in words ≡ None
no_command [] many = refl
no_command (word ∷ []) many = absurd (omega (arith, many))
no_command (job ∷ number ∷ []) many = absurd (omega (arith, many))
no_command (job ∷ number ∷ a ∷ []) many = absurd (omega (arith, many))
no_command (job ∷ number ∷ a ∷ b ∷ words) many = no_line (is_admin job && false) _ job number (a ∷ b ∷ words) (and_none (is_admin job)) (omega (arith, many))
