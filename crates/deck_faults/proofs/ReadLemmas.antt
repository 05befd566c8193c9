-- The routines of a deck, and all its faults, as they are told one by one.
use Rattle.std.proofs.Common.{◌≡◌, ◌⊎◌, ◌≤◌, ◌<◌, ℕ, List, [], ◌∷◌, ◌++◌, length, take, min, inl, inr, refl, sym, ◌∙◌, ap, subst, arith}
use Rattle.std.specs.Prelude.{Option, Some, None, codes}
use Rattle.std.proofs.lemmas.List.{length-take}
use Rattle.toml.specs.Data.{Members}
use Rattle.acs_translate.specs.declared.fault.RoutineFault.{RoutineFault}
use Rattle.acs_translate.specs.Translation.{IsRoutineFault, IsTranslated}
use Rattle.acs_tree.specs.declared.kind.Kind.{Kind}
use Rattle.acs_tree.specs.declared.kind.Kind.TheVariants.{DataClas, StorClas, MgmtClas, StorGrp}
use Rattle.acs_tree.specs.CheckedRoutine.{CheckedRoutine}
use Rattle.sms_construct.specs.declared.fault.Fault.{Fault}
use Rattle.sms_construct.specs.declared.fault.Fault.TheVariants.{Routine, TooMany}
use Rattle.sms_construct.specs.Configuration.{Routines}
use Rattle.sms_construct.specs.Keys.{key_of}
use Rattle.sms_construct.specs.Path.{below}
use Rattle.desk_common.specs.Limits.{most_deck_bytes}
use Rattle.deck_meaning.specs.Limits.{most_routine_bytes}
use Rattle.deck_meaning.specs.Outcomes.{Absent, Faulty, IsFaulty, IsOutcomeOf, Long, Outcomes, Sound, routines_in, sound_in}
use Rattle.deck_meaning.specs.Outcomes.{source_fault, source_of, text_fault_of}
use Rattle.deck_meaning.specs.Reading.{IsNotToml, IsTooLong, MeansTable}
use Rattle.deck_meaning.proofs.OutcomeLemmas.{comes_long, comes_none, comes_sound}
use Rattle.deck_faults.specs.Faults.{HasFaults, HasTableFaults, faults_of, form_faults, known_faults, sources_faults}
use Rattle.deck_faults.specs.Survey.{alone}
use Rattle.deck_faults.specs.Inner.Telling.{AreReadAs, IsReadAs, TellFaults, put, put_all}
use Rattle.deck_faults.proofs.TellingLemmas.{put_append, told_from_none}

-- what comes of a text

pub read_absent : (kind : Kind) {source : Option (List ℕ)} (told : List Fault) → None ≡ source → IsReadAs kind source told told None
read_absent kind told e = record { outcome = Absent; comes = comes_none kind e; routine_is = refl; told = refl }

pub read_long : (kind : Kind) {source : Option (List ℕ)} {text : List ℕ} (before after : List Fault) → Some text ≡ source → most_routine_bytes < length text
    → after ≡ put before (TooMany (below (codes "routine") (key_of kind))) → IsReadAs kind source before after None
read_long kind before after e long t = record { outcome = Long; comes = comes_long kind e long; routine_is = refl; told = t }

pub read_sound : (kind : Kind) {source : Option (List ℕ)} {text : List ℕ} {routine : CheckedRoutine} {count : ℕ} (told : List Fault) → Some text ≡ source → length text ≤ most_routine_bytes
    → IsTranslated text kind routine.tree count → routine.kind ≡ kind → IsReadAs kind source told told (Some routine)
read_sound kind {routine = routine} told e fits t k = record { outcome = Sound routine; comes = comes_sound kind e fits t k; routine_is = refl; told = refl }

pub read_faulty : (kind : Kind) {source : Option (List ℕ)} {text : List ℕ} {fault : RoutineFault} (before after : List Fault) → Some text ≡ source → length text ≤ most_routine_bytes
    → IsRoutineFault text kind fault → after ≡ put before (Routine kind (text_fault_of fault)) → IsReadAs kind source before after None
read_faulty kind {source} {text} {fault} before after e fits f t =
    let is : IsFaulty kind text fault = record { fits = fits; faulty = f } in
    record { outcome = Faulty fault; comes = subst (λ s. IsOutcomeOf kind s (Faulty fault)) e is; routine_is = refl; told = t }

-- the four texts

told_four : (a f g h k : List Fault) {b c d e : List Fault} → b ≡ put_all a f → c ≡ put_all b g → d ≡ put_all c h → e ≡ put_all d k → e ≡ put_all a (f ++ g ++ h ++ k)
told_four a f g h k one two three four =
    four ∙ ap (λ z. put_all z k) (three ∙ ap (λ z. put_all z h) (two ∙ ap (λ z. put_all z g) one))
    ∙ sym (put_append a (f ++ g ++ h) k ∙ ap (λ z. put_all z k) (put_append a (f ++ g) h ∙ ap (λ z. put_all z h) (put_append a f g)))

abbrev made_of : Option CheckedRoutine → Option CheckedRoutine → Option CheckedRoutine → Option CheckedRoutine → Routines
made_of a b c d = record { dataclas = a; storclas = b; mgmtclas = c; storgrp = d }

same_routines : {a b c d p q r s : Option CheckedRoutine} → a ≡ p → b ≡ q → c ≡ r → d ≡ s → made_of a b c d ≡ made_of p q r s
same_routines e f g h = rw (e, f, g, h) refl

pub are_read : {top : Members} {a b c d e : List Fault} {p q r s : Option CheckedRoutine} → IsReadAs DataClas (source_of DataClas top) a b p → IsReadAs StorClas (source_of StorClas top) b c q
    → IsReadAs MgmtClas (source_of MgmtClas top) c d r → IsReadAs StorGrp (source_of StorGrp top) d e s → AreReadAs top a e (made_of p q r s)
are_read {a = a} one two three four = record {
  outcomes = record { dataclas = one.outcome; storclas = two.outcome; mgmtclas = three.outcome; storgrp = four.outcome };
  read = record { dataclas = one.comes; storclas = two.comes; mgmtclas = three.comes; storgrp = four.comes };
  routines_are = same_routines one.routine_is two.routine_is three.routine_is four.routine_is;
  told = told_four a (alone (source_fault DataClas one.outcome)) (alone (source_fault StorClas two.outcome)) (alone (source_fault MgmtClas three.outcome)) (alone (source_fault StorGrp four.outcome)) one.told two.told three.told four.told;
}

-- the whole deck

told_three : (a f g h : List Fault) {b c d : List Fault} → b ≡ put_all a f → c ≡ put_all b g → d ≡ put_all c h → d ≡ put_all a (f ++ g ++ h)
told_three a f g h one two three =
    three ∙ ap (λ z. put_all z h) (two ∙ ap (λ z. put_all z g) one) ∙ sym (put_append a (f ++ g) h ∙ ap (λ z. put_all z h) (put_append a f g))

pub tell_all : {top : Members} {a b c d : List Fault} {routines : Routines} → b ≡ put_all a (form_faults top) → AreReadAs top b c routines → d ≡ put_all c (known_faults top routines) → TellFaults top a d
tell_all {top} {a} {c = c} form read known = record {
  outcomes = read.outcomes;
  read = read.read;
  told = told_three a (form_faults top) (sources_faults read.outcomes) (known_faults top (routines_in read.outcomes)) form read.told (known ∙ ap (λ r. put_all c (known_faults top r)) read.routines_are);
}

pub table_told : {bytes : List ℕ} {top : Members} {faults : List Fault} → length bytes ≤ most_deck_bytes → MeansTable bytes top → TellFaults top [] faults → HasTableFaults bytes faults
table_told {top = top} fits means tells = record {
  fits = fits;
  top = top;
  means = means;
  outcomes = tells.outcomes;
  read = tells.read;
  faults_are = tells.told ∙ told_from_none (faults_of top tells.outcomes);
}

-- a deck that can't be read has one fault
pub one_told : {bytes : List ℕ} {fault : Fault} {faults : List Fault} → IsTooLong bytes fault ⊎ IsNotToml bytes fault → faults ≡ fault ∷ [] → HasFaults bytes faults
one_told {fault = fault} cause e = inl (record { fault = fault; cause = cause; faults_are = e })

few_front : (xs : List Fault) → length (take 100 xs) ≤ 100
few_front xs = let e = length-take 100 xs in omega (arith, e)

-- a deck has 100 faults at most
pub few_faults : {bytes : List ℕ} {faults : List Fault} → HasFaults bytes faults → length faults ≤ 100
few_faults (inl o) = let e = ap length o.faults_are in omega (arith, e)
few_faults (inr t) = subst (λ z. length z ≤ 100) (sym t.faults_are) (few_front (faults_of t.top t.outcomes))
