-- The text of a routine comes to one outcome.
use Rattle.std.proofs.Common.{◌≡◌, ◌⊎◌, inl, inr, ◌≤◌, ◌<◌, ℕ, List, Bool, true, false, nat_lt, length, refl, ap, sym}
use Rattle.std.proofs.Common.{◌∙◌, subst, arith}
use Rattle.std.proofs.lemmas.Bool.Decides.{nat_tests}
use Rattle.std.specs.Prelude.{Option, Some, None, Result, Ok, Err}
use Rattle.acs_lex.specs.declared.token.Token.{Token}
use Rattle.acs_lex.specs.declared.fault.LexErr.{LexErr}
use Rattle.acs_lex.specs.declared.fault.LexErr.TheVariants as lex
use Rattle.acs_lex.specs.Tokens.{IsCut}
use Rattle.acs_lex.specs.LexFault.{FirstStopsBy, here, behind_gap, behind_token, IsFirstLexFault}
use Rattle.acs_lex.proofs.CutLemmas.{CutOrFault, cut_or_fault, may_refuse}
use Rattle.acs_symbol.specs.Symbols.{symbols_of}
use Rattle.acs_parse.specs.declared.fault.ParseErr.TheVariants as parse
use Rattle.acs_parse.specs.Grammar.{limited, IsRoutine}
use Rattle.acs_parse.specs.ParseFault as met
use Rattle.acs_parse.proofs.ExactLemmas.{HasAnswer, some_answer}
use Rattle.acs_parse.proofs.ExactLemmas as has
use Rattle.acs_tree.specs.declared.kind.Kind.{Kind}
use Rattle.acs_tree.specs.declared.check_err.CheckErr.{CheckErr}
use Rattle.acs_tree.specs.declared.routine.Routine.{Routine}
use Rattle.acs_tree.specs.CheckedRoutine.{CheckedRoutine}
use Rattle.acs_check.specs.Inner.Walk.{first_fault_of}
use Rattle.acs_check.proofs.FirstLemmas.{found, none_found}
use Rattle.acs_translate.specs.declared.fault.Stage.TheVariants.{Scanner, Parser}
use Rattle.acs_translate.specs.declared.fault.RoutineFault.{RoutineFault}
use Rattle.acs_translate.specs.declared.fault.TranslateErr.{TranslateErr}
use Rattle.acs_translate.specs.declared.fault.TranslateErr.TheVariants as told
use Rattle.acs_translate.specs.Translation.{IsTranslated, fault_of, check_fault, IsRoutineFault, in_text, in_tokens}
use Rattle.acs_translate.specs.Translation.{in_tree, IsExact, MayRefuse as TranslateMayRefuse}
use Rattle.acs_translate.proofs.TranslateLemmas.{exact, exact_lex, exact_parse, exact_check}
use Rattle.deck_meaning.specs.Limits.{most_routine_bytes}
use Rattle.deck_meaning.specs.Outcomes.{Outcome, Absent, Long, Sound, Faulty, IsFaulty, IsOutcomeOf, Outcomes, AreOutcomes}
use Rattle.deck_meaning.specs.Outcomes.{TellsSource, outcome_from, sound_in, source_fault, source_of, told_as}
use Rattle.deck_meaning.specs.Reading.{TellsSources}
use Rattle.deck_meaning.specs.declared.deck_err.DeckErr.{DeckErr}
use Rattle.deck_meaning.specs.declared.deck_err.DeckErr.TheVariants.{Fault as Faulted, NoMemory}
use Rattle.toml.specs.Data.{Members}
use Rattle.acs_tree.specs.declared.kind.Kind.TheVariants.{DataClas, StorClas, MgmtClas, StorGrp}

-- what the translator's clause says of a routine and of a fault

routine_exact : {text : List ℕ} {kind : Kind} {tree : Routine} {count : ℕ} → IsTranslated text kind tree count → IsExact text kind (Ok (record { tree = tree; kind = kind }, count))
routine_exact t = exact t.cut t.routine (t.sound, refl) t.counted

abbrev Answer : Type 0
Answer = Result (CheckedRoutine × ℕ) TranslateErr

abbrev made : Routine → Kind → ℕ → Answer
made tree kind count = Ok (record { tree = tree; kind = kind }, count)

abbrev refused : TranslateErr → Answer
refused err = Err err

tree_in : Routine → Answer → Routine
tree_in other (Ok found) = found.0.tree
tree_in other (Err err) = other

fault_in : RoutineFault → Answer → RoutineFault
fault_in other (Ok found) = other
fault_in other (Err (told.Fault fault)) = fault
fault_in other (Err told.NoMemory) = other

never_made : {err : TranslateErr} {tree : Routine} {kind : Kind} {count : ℕ} → made tree kind count ≡ refused err → ⊥
never_made e = cc

never_memory_told : {fault : RoutineFault} → refused (told.Fault fault) ≡ refused told.NoMemory → ⊥
never_memory_told e = cc

no_both_at : {tree : Routine} {kind : Kind} {count : ℕ} {fault : RoutineFault} → (made tree kind count ≡ refused (told.Fault fault)) ⊎ (made tree kind count ≡ refused told.NoMemory) → ⊥
no_both_at (inl e) = never_made e
no_both_at (inr e) = never_made e

pub no_both : {text : List ℕ} {kind : Kind} {tree : Routine} {count : ℕ} {fault : RoutineFault} → IsTranslated text kind tree count → IsRoutineFault text kind fault → ⊥
no_both {fault = fault} t d = no_both_at ((routine_exact t).fault fault d)

one_tree_at : {tree other : Routine} {kind : Kind} {count n : ℕ} → (made tree kind count ≡ made other kind n) ⊎ (made tree kind count ≡ refused told.NoMemory) → tree ≡ other
unfolding tree_in
one_tree_at {tree} (inl e) = ap (tree_in tree) e
one_tree_at (inr e) = absurd (never_made e)

pub one_tree_of : {text : List ℕ} {kind : Kind} {tree other : Routine} {count n : ℕ} → IsTranslated text kind tree count → IsTranslated text kind other n → tree ≡ other
one_tree_of {other = other} {n = n} t s = one_tree_at ((routine_exact t).routine other n s)

fault_exact : {text : List ℕ} {kind : Kind} {fault : RoutineFault} → IsRoutineFault text kind fault → IsExact text kind (Err (told.Fault fault))
fault_exact {text} {kind} (in_text err d e) = subst (λ z. IsExact text kind (Err z)) e (exact_lex text kind err (may_refuse text err d))
fault_exact {text} {kind} (in_tokens tokens err c d e) = subst (λ z. IsExact text kind (Err z)) e (exact_parse kind err c (inl d) refl)
fault_exact {text} {kind} (in_tree tokens tree err c r d e) = subst (λ z. IsExact text kind (Err (told.Fault z))) e (exact_check c r d)

one_fault_at : {one two : RoutineFault} → (refused (told.Fault one) ≡ refused (told.Fault two)) ⊎ (refused (told.Fault one) ≡ refused told.NoMemory) → one ≡ two
unfolding fault_in
one_fault_at {one} (inl e) = ap (fault_in one) e
one_fault_at (inr e) = absurd (never_memory_told e)

pub one_routine_fault : {text : List ℕ} {kind : Kind} {one two : RoutineFault} → IsRoutineFault text kind one → IsRoutineFault text kind two → one ≡ two
one_routine_fault {two = two} d e = one_fault_at ((fault_exact d).fault two e)

-- each text is a routine or has a fault

abbrev Comes : List ℕ → Kind → Type 0
Comes text kind = ((tree : Routine) × (count : ℕ) × IsTranslated text kind tree count) ⊎ ((fault : RoutineFault) × IsRoutineFault text kind fault)

never_memory : {total : ℕ} {text : List ℕ} → FirstStopsBy total text lex.NoMemory → ⊥
never_memory (here s) = elim s [ ]
never_memory (behind_gap s c) = never_memory c
never_memory (behind_token s c) = never_memory c

of_lex_fault : (text : List ℕ) (kind : Kind) (err : LexErr) → IsFirstLexFault text err → Comes text kind
of_lex_fault text kind (lex.OpenComment at) d = inr (fault_of Scanner 1 at, in_text (lex.OpenComment at) d refl)
of_lex_fault text kind (lex.OpenLiteral at) d = inr (fault_of Scanner 2 at, in_text (lex.OpenLiteral at) d refl)
of_lex_fault text kind (lex.BadByte at) d = inr (fault_of Scanner 3 at, in_text (lex.BadByte at) d refl)
of_lex_fault text kind (lex.LongWord at) d = inr (fault_of Scanner 4 at, in_text (lex.LongWord at) d refl)
of_lex_fault text kind lex.NoMemory d = absurd (never_memory d)

of_check : {text : List ℕ} {kind : Kind} (tokens : List Token) (tree : Routine) → IsCut text tokens → IsRoutine limited (symbols_of text tokens) tree → (r : Option CheckErr) → r ≡ first_fault_of tree kind → Comes text kind
of_check {text} {kind} tokens tree c d None e = inl (tree, length tokens, record { tokens = tokens; cut = c; routine = d; sound = none_found tree kind None e refl; counted = refl })
of_check {text} {kind} tokens tree c d (Some err) e = inr (check_fault err, in_tree tokens tree err c d (found tree kind err (Some err) e refl) refl)

of_answer : {text : List ℕ} {kind : Kind} (tokens : List Token) → IsCut text tokens → HasAnswer (symbols_of text tokens) → Comes text kind
of_answer {text} {kind} tokens c (has.tree tree d) = of_check tokens tree c d (first_fault_of tree kind) refl
of_answer {text} {kind} tokens c (has.wrong k d) = inr (fault_of Parser 1 k, in_tokens tokens (parse.Unexpected k) c (met.unexpected d) refl)
of_answer {text} {kind} tokens c (has.deep k d) = inr (fault_of Parser 3 k, in_tokens tokens (parse.Deep k) c (met.deep d) refl)
of_answer {text} {kind} tokens c (has.early d) = inr (fault_of Parser 2 (length tokens), in_tokens tokens parse.Ended c (met.ended d) refl)

of_cut : (text : List ℕ) (kind : Kind) → CutOrFault (length text) text → Comes text kind
of_cut text kind (inl d) = of_answer d.0 d.1 (some_answer (symbols_of text d.0))
of_cut text kind (inr d) = of_lex_fault text kind d.0 d.1

comes : (text : List ℕ) (kind : Kind) → Comes text kind
comes text kind = of_cut text kind (cut_or_fault (length text) text)

-- each text has one outcome

abbrev HasOutcome : Kind → Option (List ℕ) → Type 0
HasOutcome kind source = (outcome : Outcome) × IsOutcomeOf kind source outcome

of_short : (kind : Kind) (text : List ℕ) → length text ≤ most_routine_bytes → Comes text kind → HasOutcome kind (Some text)
of_short kind text fits (inl d) = (Sound (record { tree = d.0; kind = kind }), record { fits = fits; tokens = d.1; translated = d.2; kind_is = refl })
of_short kind text fits (inr d) = (Faulty d.0, record { fits = fits; faulty = d.1 })

of_length : (kind : Kind) (text : List ℕ) (b : Bool) → nat_lt most_routine_bytes (length text) ≡ b → HasOutcome kind (Some text)
of_length kind text true e = (Long, grind (arith, nat_tests))
of_length kind text false e = of_short kind text (grind (arith, nat_tests)) (comes text kind)

pub some_outcome : (kind : Kind) (source : Option (List ℕ)) → HasOutcome kind source
some_outcome kind None = (Absent, tt)
some_outcome kind (Some text) = of_length kind text (nat_lt most_routine_bytes (length text)) refl

checked_at : (one two : CheckedRoutine) → one.tree ≡ two.tree → one.kind ≡ two.kind → one ≡ two
checked_at one two t k = let e : record { tree = one.tree; kind = one.kind } ≡ record { tree = two.tree; kind = two.kind } = cc in e

pub one_outcome : (kind : Kind) (source : Option (List ℕ)) (one two : Outcome) → IsOutcomeOf kind source one → IsOutcomeOf kind source two → one ≡ two
one_outcome kind None Absent Absent c d = refl
one_outcome kind None Absent Long c d = absurd d
one_outcome kind None Absent (Sound s) c d = absurd d
one_outcome kind None Absent (Faulty g) c d = absurd d
one_outcome kind None Long two c d = absurd c
one_outcome kind None (Sound r) two c d = absurd c
one_outcome kind None (Faulty f) two c d = absurd c
one_outcome kind (Some text) Absent two c d = absurd c
one_outcome kind (Some text) Long Absent c d = absurd d
one_outcome kind (Some text) Long Long c d = refl
one_outcome kind (Some text) Long (Sound s) c d = absurd (omega (arith, c, d.fits))
one_outcome kind (Some text) Long (Faulty g) c d = absurd (omega (arith, c, d.fits))
one_outcome kind (Some text) (Sound r) Absent c d = absurd d
one_outcome kind (Some text) (Sound r) Long c d = absurd (omega (arith, d, c.fits))
one_outcome kind (Some text) (Sound r) (Sound s) c d = ap Sound (checked_at r s (one_tree_of c.translated d.translated) (c.kind_is ∙ sym d.kind_is))
one_outcome kind (Some text) (Sound r) (Faulty g) c d = absurd (no_both c.translated d.faulty)
one_outcome kind (Some text) (Faulty f) Absent c d = absurd d
one_outcome kind (Some text) (Faulty f) Long c d = absurd (omega (arith, d, c.fits))
one_outcome kind (Some text) (Faulty f) (Sound s) c d = absurd (no_both d.translated c.faulty)
one_outcome kind (Some text) (Faulty f) (Faulty g) c d = ap Faulty (one_routine_fault c.faulty d.faulty)

pub some_outcomes : (top : Members) → (outcomes : Outcomes) × AreOutcomes top outcomes
some_outcomes top =
    let a = some_outcome DataClas (source_of DataClas top) in
    let b = some_outcome StorClas (source_of StorClas top) in
    let c = some_outcome MgmtClas (source_of MgmtClas top) in
    let d = some_outcome StorGrp (source_of StorGrp top) in
    (record { dataclas = a.0; storclas = b.0; mgmtclas = c.0; storgrp = d.0 }, record { dataclas = a.1; storclas = b.1; mgmtclas = c.1; storgrp = d.1 })

same_outcomes : (one two : Outcomes) → one.dataclas ≡ two.dataclas → one.storclas ≡ two.storclas → one.mgmtclas ≡ two.mgmtclas → one.storgrp ≡ two.storgrp → one ≡ two
same_outcomes one two a b c d =
    let e : record { dataclas = one.dataclas; storclas = one.storclas; mgmtclas = one.mgmtclas; storgrp = one.storgrp } ≡ record { dataclas = two.dataclas; storclas = two.storclas; mgmtclas = two.mgmtclas; storgrp = two.storgrp } = cc in e

pub one_outcomes : {top : Members} (one two : Outcomes) → AreOutcomes top one → AreOutcomes top two → one ≡ two
one_outcomes {top} one two a b =
    same_outcomes one two
    (one_outcome DataClas (source_of DataClas top) one.dataclas two.dataclas a.dataclas b.dataclas)
    (one_outcome StorClas (source_of StorClas top) one.storclas two.storclas a.storclas b.storclas)
    (one_outcome MgmtClas (source_of MgmtClas top) one.mgmtclas two.mgmtclas a.mgmtclas b.mgmtclas)
    (one_outcome StorGrp (source_of StorGrp top) one.storgrp two.storgrp a.storgrp b.storgrp)

-- how the texts are read

pub comes_none : (kind : Kind) {source : Option (List ℕ)} → None ≡ source → IsOutcomeOf kind source Absent
comes_none kind e = subst (λ s. IsOutcomeOf kind s Absent) e tt

pub comes_long : (kind : Kind) {source : Option (List ℕ)} {text : List ℕ} → Some text ≡ source → most_routine_bytes < length text → IsOutcomeOf kind source Long
comes_long kind e long = subst (λ s. IsOutcomeOf kind s Long) e long

pub comes_sound : (kind : Kind) {source : Option (List ℕ)} {text : List ℕ} {routine : CheckedRoutine} {count : ℕ} → Some text ≡ source → length text ≤ most_routine_bytes
    → IsTranslated text kind routine.tree count → routine.kind ≡ kind → IsOutcomeOf kind source (Sound routine)
comes_sound kind {routine = routine} {count = count} e fits t k = subst (λ s. IsOutcomeOf kind s (Sound routine)) e (record { fits = fits; tokens = count; translated = t; kind_is = k })

tells_at : (kind : Kind) (text : List ℕ) (err : TranslateErr) → length text ≤ most_routine_bytes → TranslateMayRefuse text kind err → TellsSource kind (Some text) (told_as kind err)
tells_at kind text (told.Fault fault) fits d = let f : IsFaulty kind text fault = record { fits = fits; faulty = d } in (Faulty fault, f, refl)
tells_at kind text told.NoMemory fits d = tt

pub tells_refusal : (kind : Kind) {source : Option (List ℕ)} {text : List ℕ} (err : TranslateErr) {result : DeckErr} → Some text ≡ source → length text ≤ most_routine_bytes
    → TranslateMayRefuse text kind err → result ≡ told_as kind err → TellsSource kind source result
tells_refusal kind {source} {text} err e fits d r = subst (λ z. TellsSource kind source z) (sym r) (subst (λ s. TellsSource kind s (told_as kind err)) e (tells_at kind text err fits d))

pub quiet : (kind : Kind) (routine : Option CheckedRoutine) → source_fault kind (outcome_from routine) ≡ None
quiet kind None = refl
quiet kind (Some routine) = refl

pub sound_from : (routine : Option CheckedRoutine) → sound_in (outcome_from routine) ≡ routine
sound_from None = refl
sound_from (Some routine) = refl

abbrev Reads : Kind → Members → Option CheckedRoutine → Type 0
Reads kind top routine = IsOutcomeOf kind (source_of kind top) (outcome_from routine)

pub tells_dataclas : (top : Members) (err : DeckErr) → TellsSource DataClas (source_of DataClas top) err → TellsSources top err
tells_dataclas top (Faulted fault) d =
    let s = some_outcome StorClas (source_of StorClas top) in
    let m = some_outcome MgmtClas (source_of MgmtClas top) in
    let g = some_outcome StorGrp (source_of StorGrp top) in
    (record { dataclas = d.0; storclas = s.0; mgmtclas = m.0; storgrp = g.0 }, record { dataclas = d.1; storclas = s.1; mgmtclas = m.1; storgrp = g.1 }, rw d.2 refl)
tells_dataclas top NoMemory d = tt

pub tells_storclas : (top : Members) (a : Option CheckedRoutine) (err : DeckErr) → Reads DataClas top a → TellsSource StorClas (source_of StorClas top) err → TellsSources top err
tells_storclas top a (Faulted fault) r d =
    let m = some_outcome MgmtClas (source_of MgmtClas top) in
    let g = some_outcome StorGrp (source_of StorGrp top) in
    (record { dataclas = outcome_from a; storclas = d.0; mgmtclas = m.0; storgrp = g.0 }, record { dataclas = r; storclas = d.1; mgmtclas = m.1; storgrp = g.1 }, rw (quiet DataClas a, d.2) refl)
tells_storclas top a NoMemory r d = tt

pub tells_mgmtclas : (top : Members) (a b : Option CheckedRoutine) (err : DeckErr) → Reads DataClas top a → Reads StorClas top b → TellsSource MgmtClas (source_of MgmtClas top) err → TellsSources top err
tells_mgmtclas top a b (Faulted fault) r s d =
    let g = some_outcome StorGrp (source_of StorGrp top) in
    (record { dataclas = outcome_from a; storclas = outcome_from b; mgmtclas = d.0; storgrp = g.0 }, record { dataclas = r; storclas = s; mgmtclas = d.1; storgrp = g.1 }, rw (quiet DataClas a, quiet StorClas b, d.2) refl)
tells_mgmtclas top a b NoMemory r s d = tt

pub tells_storgrp : (top : Members) (a b c : Option CheckedRoutine) (err : DeckErr) → Reads DataClas top a → Reads StorClas top b → Reads MgmtClas top c → TellsSource StorGrp (source_of StorGrp top) err → TellsSources top err
tells_storgrp top a b c (Faulted fault) r s m d =
    (record { dataclas = outcome_from a; storclas = outcome_from b; mgmtclas = outcome_from c; storgrp = d.0 }, record { dataclas = r; storclas = s; mgmtclas = m; storgrp = d.1 }, rw (quiet DataClas a, quiet StorClas b, quiet MgmtClas c, d.2) refl)
tells_storgrp top a b c NoMemory r s m d = tt
