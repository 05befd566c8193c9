-- The faults of a deck beside its first fault and its configuration.
use Rattle.std.proofs.Common.{◌≡◌, ◌⊎◌, inl, inr, ◌≤◌, ◌<◌, ℕ, List, [], ◌∷◌, length, take, refl, sym, ◌∙◌, ap, subst, arith}
use Rattle.std.specs.Prelude.{◌↔◌, Option, Some, None}
use Rattle.toml.specs.Data.{Members}
use Rattle.sms_construct.specs.declared.fault.Fault.{Fault}
use Rattle.sms_construct.specs.Configuration.{Configuration}
use Rattle.desk_common.specs.Limits.{most_deck_bytes}
use Rattle.deck_meaning.specs.Outcomes.{Outcomes, AreOutcomes, routines_in}
use Rattle.deck_meaning.specs.Reading.{Configures, HasFirstFault, IsNotToml, IsTooLong, MeansTable, configuration_of, fault_of}
use Rattle.deck_meaning.proofs.EitherLemmas.{either, Either}
use Rattle.deck_meaning.proofs.OutcomeLemmas.{one_outcomes}
use Rattle.deck_meaning.proofs.ReadingLemmas.{never_both, one_fault}
use Rattle.deck_faults.specs.Faults.{HasFaults, HasOneFault, HasTableFaults, faults_of, first_in}
use Rattle.deck_faults.proofs.FirstLemmas.{first_of_front, nothing_first, of_deck}

-- the first of the faults of a table is the table's first fault
first_of_table : {bytes : List ℕ} {faults : List Fault} (t : HasTableFaults bytes faults) → first_in faults ≡ fault_of t.top t.outcomes
first_of_table t = ap first_in t.faults_are ∙ first_of_front (faults_of t.top t.outcomes) ∙ of_deck t.top t.outcomes

-- what the table of a deck comes to
table_configures : {bytes : List ℕ} {faults : List Fault} (t : HasTableFaults bytes faults) → fault_of t.top t.outcomes ≡ None → Configures bytes (configuration_of bytes t.top (routines_in t.outcomes))
table_configures t e = record { fits = t.fits; top = t.top; means = t.means; outcomes = t.outcomes; read = t.read; faultless = e; config_is = refl }

table_first : {bytes : List ℕ} {faults : List Fault} (t : HasTableFaults bytes faults) (fault : Fault) → fault_of t.top t.outcomes ≡ Some fault → HasFirstFault bytes fault
table_first t fault e = inr (inr (record { fits = t.fits; top = t.top; means = t.means; outcomes = t.outcomes; read = t.read; first = e }))

one_first : {bytes : List ℕ} {fault : Fault} → IsTooLong bytes fault ⊎ IsNotToml bytes fault → HasFirstFault bytes fault
one_first (inl long) = inl long
one_first (inr none) = inr (inl none)

of_table_first : {bytes : List ℕ} {faults : List Fault} {fault : Fault} (t : HasTableFaults bytes faults) → HasFirstFault bytes fault → (r : Option Fault) → fault_of t.top t.outcomes ≡ r → first_in faults ≡ Some fault
of_table_first t f None e = absurd (never_both (table_configures t e) f)
of_table_first t f (Some other) e = first_of_table t ∙ e ∙ ap Some (one_fault (table_first t other e) f)

pub first_is : {bytes : List ℕ} {faults : List Fault} {fault : Fault} → HasFaults bytes faults → HasFirstFault bytes fault → first_in faults ≡ Some fault
first_is (inl o) f = ap first_in o.faults_are ∙ ap Some (one_fault (one_first o.cause) f)
first_is (inr t) f = of_table_first t f (fault_of t.top t.outcomes) refl

-- a deck without faults is a configuration

none_first : {faults : List Fault} {o : Option Fault} → faults ≡ [] → first_in faults ≡ o → o ≡ None
none_first e f = sym f ∙ ap first_in e

one_is_some : {fault : Fault} {faults : List Fault} → faults ≡ fault ∷ [] → faults ≡ [] → ⊥
one_is_some e f = cc

valid : {bytes : List ℕ} {faults : List Fault} → HasFaults bytes faults → faults ≡ [] → (config : Configuration) × Configures bytes config
valid (inl o) e = absurd (one_is_some o.faults_are e)
valid {bytes} (inr t) e = (configuration_of bytes t.top (routines_in t.outcomes), table_configures t (none_first e (first_of_table t)))

none_of_table : {bytes : List ℕ} {faults : List Fault} {config : Configuration} (t : HasTableFaults bytes faults) → Configures bytes config → (r : Option Fault) → fault_of t.top t.outcomes ≡ r → faults ≡ []
none_of_table {faults = faults} t c None e = nothing_first faults (first_of_table t ∙ e)
none_of_table {faults = faults} t c (Some fault) e = absurd (never_both c (table_first t fault e))

none_found : {bytes : List ℕ} {faults : List Fault} {config : Configuration} → HasFaults bytes faults → Configures bytes config → faults ≡ []
none_found (inl o) c = absurd (never_both c (one_first o.cause))
none_found (inr t) c = none_of_table t c (fault_of t.top t.outcomes) refl

pub none_where : {bytes : List ℕ} {faults : List Fault} → HasFaults bytes faults → (faults ≡ []) ↔ ((config : Configuration) × Configures bytes config)
none_where h = ((λ e. valid h e), (λ c. none_found h c.1))

-- each deck has one list

table_faults_in : {bytes : List ℕ} (top : Members) (outcomes : Outcomes) → length bytes ≤ most_deck_bytes → MeansTable bytes top → AreOutcomes top outcomes → (faults : List Fault) × HasFaults bytes faults
table_faults_in top outcomes fits m a = (take 100 (faults_of top outcomes), inr (record { fits = fits; top = top; means = m; outcomes = outcomes; read = a; faults_are = refl }))

one_fault_in : {bytes : List ℕ} {fault : Fault} → IsTooLong bytes fault ⊎ IsNotToml bytes fault → (faults : List Fault) × HasFaults bytes faults
one_fault_in {bytes} {fault} c = (fault ∷ [], inl (record { fault = fault; cause = c; faults_are = refl }))

some_first : {bytes : List ℕ} {fault : Fault} → HasFirstFault bytes fault → (faults : List Fault) × HasFaults bytes faults
some_first (inl long) = one_fault_in (inl long)
some_first (inr (inl none)) = one_fault_in (inr none)
some_first (inr (inr f)) = table_faults_in f.top f.outcomes f.fits f.means f.read

some_at : {bytes : List ℕ} → Either bytes → (faults : List Fault) × HasFaults bytes faults
some_at (inl c) = table_faults_in c.1.top c.1.outcomes c.1.fits c.1.means c.1.read
some_at (inr f) = some_first f.1

pub some_list : (bytes : List ℕ) → (faults : List Fault) × HasFaults bytes faults
some_list bytes = some_at (either bytes)

same_table : {bytes : List ℕ} {one other : Members} → MeansTable bytes one → MeansTable bytes other → one ≡ other
same_table m n = let first = m.document in let second = n.document in cc

same_read : {bytes : List ℕ} {top other : Members} (one two : Outcomes) → MeansTable bytes top → MeansTable bytes other → AreOutcomes top one → AreOutcomes other two → one ≡ two
same_read one two m n a b = one_outcomes one two a (subst (λ z. AreOutcomes z two) (sym (same_table m n)) b)

not_both : {bytes : List ℕ} {fault : Fault} {faults : List Fault} → IsTooLong bytes fault ⊎ IsNotToml bytes fault → HasTableFaults bytes faults → ⊥
not_both (inl long) t = let a = t.fits in let b = long.long in absurd (omega (arith, a, b))
not_both (inr none) t = none.no_table t.top t.means

pub same_list : {bytes : List ℕ} {one other : List Fault} → HasFaults bytes one → HasFaults bytes other → one ≡ other
same_list (inl a) (inl b) = a.faults_are ∙ ap (λ fault. fault ∷ []) (one_fault (one_first a.cause) (one_first b.cause)) ∙ sym b.faults_are
same_list (inl a) (inr b) = absurd (not_both a.cause b)
same_list (inr a) (inl b) = absurd (not_both b.cause a)
same_list (inr a) (inr b) =
    a.faults_are
    ∙ ap (λ z. take 100 (faults_of z a.outcomes)) (same_table a.means b.means)
    ∙ ap (λ z. take 100 (faults_of b.top z)) (same_read a.outcomes b.outcomes a.means b.means a.read b.read)
    ∙ sym b.faults_are
