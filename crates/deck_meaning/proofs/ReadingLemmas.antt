-- A deck has a configuration or a first fault, and only one of either.
use Rattle.std.proofs.Common.{◌≡◌, ℕ, List, inl, inr, refl, sym, ◌∙◌, ap, subst, arith}
use Rattle.std.specs.Prelude.{Option, Some, None, Result, Ok, Err, IfOk, IfErr}
use Rattle.desk_common.specs.Exact.{IsExact, MayRefuse}
use Rattle.desk_common.proofs.ExactLemmas.{exact_thing, exact_fault, exact_want}
use Rattle.std.specs.Option.{option_or}
use Rattle.toml.specs.Data.{Members}
use Rattle.sms_construct.specs.declared.fault.Fault.{Fault}
use Rattle.acs_tree.specs.declared.kind.Kind.TheVariants.{DataClas, StorClas, MgmtClas, StorGrp}
use Rattle.sms_construct.specs.Configuration.{Configuration, Routines}
use Rattle.deck_meaning.specs.Outcomes.{Outcomes, AreOutcomes, outcomes_from, routines_in}
use Rattle.deck_meaning.specs.Reading.{MeansTable, Configures, HasFirstFault, TellsFirstFault, TellsForm, TellsSources}
use Rattle.deck_meaning.specs.Reading.{TellsTable, IsRead, form_fault, sources_fault, assigned_faults, fault_of}
use Rattle.deck_meaning.specs.Reading.{configuration_of}
use Rattle.deck_meaning.specs.declared.deck_err.DeckErr.{DeckErr}
use Rattle.deck_meaning.specs.declared.deck_err.DeckErr.TheVariants.{Fault as Faulted, NoMemory}
use Rattle.deck_meaning.proofs.OutcomeLemmas.{one_outcomes, some_outcomes, quiet, sound_from}

-- a text has one table
same_table : {bytes : List ℕ} {one other : Members} → MeansTable bytes one → MeansTable bytes other → one ≡ other
same_table m n = let first = m.document in let second = n.document in cc

-- the routines of one table come to one
same_read : {bytes : List ℕ} {top other : Members} (one two : Outcomes) → MeansTable bytes top → MeansTable bytes other → AreOutcomes top one → AreOutcomes other two → one ≡ two
same_read one two m n a b = one_outcomes one two a (subst (λ z. AreOutcomes z two) (sym (same_table m n)) b)

-- what is found in one table is found in the other
same_found : {bytes : List ℕ} {top other : Members} (one two : Outcomes) → MeansTable bytes top → MeansTable bytes other → AreOutcomes top one → AreOutcomes other two → fault_of top one ≡ fault_of other two
same_found {other = other} one two m n a b = ap (λ z. fault_of z one) (same_table m n) ∙ ap (λ z. fault_of other z) (same_read one two m n a b)

none_or_some : {A : Type 0} {o p : Option A} {x : A} → o ≡ None → p ≡ Some x → o ≡ p → ⊥
none_or_some n s e = cc

one_some : {A : Type 0} {o p : Option A} {x y : A} → o ≡ Some x → p ≡ Some y → o ≡ p → x ≡ y
one_some a b e = cc

pub never_both : {bytes : List ℕ} {config : Configuration} {fault : Fault} → Configures bytes config → HasFirstFault bytes fault → ⊥
never_both c (inl long) = let a = c.fits in let b = long.long in absurd (omega (arith, a, b))
never_both c (inr (inl none)) = none.no_table c.top c.means
never_both c (inr (inr f)) = none_or_some c.faultless f.first (same_found c.outcomes f.outcomes c.means f.means c.read f.read)

pub one_fault : {bytes : List ℕ} {one other : Fault} → HasFirstFault bytes one → HasFirstFault bytes other → one ≡ other
one_fault (inl a) (inl b) = a.fault_is ∙ sym b.fault_is
one_fault (inl a) (inr (inl b)) = let x = a.long in let y = b.fits in absurd (omega (arith, x, y))
one_fault (inl a) (inr (inr b)) = let x = a.long in let y = b.fits in absurd (omega (arith, x, y))
one_fault (inr (inl a)) (inl b) = let x = b.long in let y = a.fits in absurd (omega (arith, x, y))
one_fault (inr (inl a)) (inr (inl b)) = a.fault_is ∙ sym b.fault_is
one_fault (inr (inl a)) (inr (inr b)) = absurd (a.no_table b.top b.means)
one_fault (inr (inr a)) (inl b) = let x = b.long in let y = a.fits in absurd (omega (arith, x, y))
one_fault (inr (inr a)) (inr (inl b)) = absurd (b.no_table a.top a.means)
one_fault (inr (inr a)) (inr (inr b)) = one_some a.first b.first (same_found a.outcomes b.outcomes a.means b.means a.read b.read)

pub one_configuration : {bytes : List ℕ} {one other : Configuration} → Configures bytes one → Configures bytes other → one ≡ other
one_configuration {bytes} a b =
    a.config_is
    ∙ ap (λ z. configuration_of bytes z (routines_in a.outcomes)) (same_table a.means b.means)
    ∙ ap (λ z. configuration_of bytes b.top (routines_in z)) (same_read a.outcomes b.outcomes a.means b.means a.read b.read)
    ∙ sym b.config_is

-- an answer that is right is exact

right_thing : {bytes : List ℕ} {config : Configuration} → Configures bytes config → IsExact (Configures bytes) (TellsFirstFault bytes) (Some NoMemory) (Ok config)
right_thing {bytes} c = exact_thing (λ other d. one_configuration c d) (none_told c)
  where
    none_told : {config : Configuration} → Configures bytes config → (err : DeckErr) → TellsFirstFault bytes err → ⊥
    none_told c (Faulted fault) d = never_both c d
    none_told c NoMemory d = d

right_fault : {bytes : List ℕ} {fault : Fault} → HasFirstFault bytes fault → IsExact (Configures bytes) (TellsFirstFault bytes) (Some NoMemory) (Err (Faulted fault))
right_fault {bytes} {fault} f = exact_fault (λ made c. never_both c f) (one_told f)
  where
    one_told : {fault : Fault} → HasFirstFault bytes fault → (other : DeckErr) → TellsFirstFault bytes other → Faulted fault ≡ other
    one_told f (Faulted other) d = ap Faulted (one_fault f d)
    one_told f NoMemory d = absurd d

right_err : {bytes : List ℕ} (err : DeckErr) → MayRefuse (TellsFirstFault bytes) (Some NoMemory) err → IsExact (Configures bytes) (TellsFirstFault bytes) (Some NoMemory) (Err err)
right_err (Faulted fault) (inl d) = right_fault d
right_err (Faulted fault) (inr e) = absurd cc
right_err NoMemory d = exact_want

pub exact : {bytes : List ℕ} (result : Result Configuration DeckErr) → IfOk result (Configures bytes) → IfErr result (MayRefuse (TellsFirstFault bytes) (Some NoMemory))
    → IsExact (Configures bytes) (TellsFirstFault bytes) (Some NoMemory) result
exact (Ok config) c d = right_thing c
exact (Err err) c d = right_err err d

-- how a table is read

none_of_sources : (routines : Routines) → sources_fault (outcomes_from routines) ≡ None
none_of_sources routines = rw (quiet DataClas routines.dataclas, quiet StorClas routines.storclas, quiet MgmtClas routines.mgmtclas, quiet StorGrp routines.storgrp) refl

pub back_from_outcomes : (routines : Routines) → routines_in (outcomes_from routines) ≡ routines
back_from_outcomes routines =
    let a = sound_from routines.dataclas in
    let b = sound_from routines.storclas in
    let c = sound_from routines.mgmtclas in
    let d = sound_from routines.storgrp in
    let e : routines_in (outcomes_from routines) ≡ record { dataclas = routines.dataclas; storclas = routines.storclas; mgmtclas = routines.mgmtclas; storgrp = routines.storgrp } = cc in e

pub tells_form : (top : Members) (err : DeckErr) → TellsForm top err → TellsTable top err
tells_form top (Faulted fault) e = let o = some_outcomes top in (o.0, o.1, rw e refl)
tells_form top NoMemory e = tt

pub tells_sources : (top : Members) (err : DeckErr) → form_fault top ≡ None → TellsSources top err → TellsTable top err
tells_sources top (Faulted fault) n d = (d.0, d.1, rw (n, d.2) refl)
tells_sources top NoMemory n d = tt

past_sources : (top : Members) (outcomes : Outcomes) (r : Option Fault) → form_fault top ≡ None → sources_fault outcomes ≡ None → assigned_faults top (routines_in outcomes) ≡ r → fault_of top outcomes ≡ option_or r None
past_sources top outcomes r n s e =
    ap (λ x. option_or x (option_or (sources_fault outcomes) (option_or (assigned_faults top (routines_in outcomes)) None))) n
    ∙ ap (λ x. option_or x (option_or (assigned_faults top (routines_in outcomes)) None)) s
    ∙ ap (λ x. option_or x None) e

past_all : (top : Members) (routines : Routines) (r : Option Fault) → form_fault top ≡ None → assigned_faults top routines ≡ r → fault_of top (outcomes_from routines) ≡ option_or r None
past_all top routines r n e = past_sources top (outcomes_from routines) r n (none_of_sources routines) (ap (assigned_faults top) (back_from_outcomes routines) ∙ e)

pub tells_assigned : (top : Members) (routines : Routines) (fault : Fault) → form_fault top ≡ None → AreOutcomes top (outcomes_from routines) → assigned_faults top routines ≡ Some fault → TellsTable top (Faulted fault)
tells_assigned top routines fault n a e = (outcomes_from routines, a, past_all top routines (Some fault) n e)

pub is_read : (bytes : List ℕ) (top : Members) (config : Configuration) (routines : Routines) → form_fault top ≡ None → AreOutcomes top (outcomes_from routines) → assigned_faults top routines ≡ None
    → config ≡ configuration_of bytes top routines → IsRead bytes top config
is_read bytes top config routines n a e c = record {
  outcomes = outcomes_from routines;
  read = a;
  faultless = past_all top routines None n e;
  config_is = c ∙ ap (configuration_of bytes top) (sym (back_from_outcomes routines));
}
