-- Each deck has a configuration or a first fault.
use Rattle.std.proofs.Common.{◌≡◌, ◌⊎◌, inl, inr, ◌≤◌, ℕ, List, Bool, true, false, nat_lt, length, refl}
use Rattle.std.proofs.Common.{arith}
use Rattle.std.specs.Prelude.{Option, Some, None, IsUtf8, codes}
use Rattle.std.specs.Str.{is_utf8}
use Rattle.std.proofs.lemmas.Bool.Decides.{nat_tests}
use Rattle.std.proofs.lemmas.Str.{IsUtf8-from_is_utf8, is_utf8-from_IsUtf8}
use Rattle.toml.specs.Data.{Members}
use Rattle.toml.specs.Parse.{parse_document}
use Rattle.sms_construct.specs.declared.fault.Fault.{Fault}
use Rattle.sms_construct.specs.declared.fault.Fault.TheVariants.{NotToml, TooMany}
use Rattle.sms_construct.specs.Configuration.{Configuration}
use Rattle.desk_common.specs.Limits.{most_deck_bytes}
use Rattle.deck_meaning.specs.Outcomes.{Outcomes, AreOutcomes, routines_in}
use Rattle.deck_meaning.specs.Reading.{MeansTable, Configures, HasFirstFault, fault_of, configuration_of}
use Rattle.deck_meaning.proofs.OutcomeLemmas.{some_outcomes}

abbrev pub Either : List ℕ → Type 0
Either bytes = ((config : Configuration) × Configures bytes config) ⊎ ((fault : Fault) × HasFirstFault bytes fault)

of_fault : {bytes : List ℕ} (top : Members) (outcomes : Outcomes) → length bytes ≤ most_deck_bytes → MeansTable bytes top → AreOutcomes top outcomes → (r : Option Fault) → fault_of top outcomes ≡ r → Either bytes
of_fault {bytes} top outcomes fits m a None e =
    inl (configuration_of bytes top (routines_in outcomes), record { fits = fits; top = top; means = m; outcomes = outcomes; read = a; faultless = e; config_is = refl })
of_fault {bytes} top outcomes fits m a (Some fault) e = inr (fault, inr (inr (record { fits = fits; top = top; means = m; outcomes = outcomes; read = a; first = e })))

no_table : {bytes : List ℕ} → length bytes ≤ most_deck_bytes → ((top : Members) → MeansTable bytes top → ⊥) → Either bytes
no_table fits n = inr (NotToml, inr (inl (record { fits = fits; no_table = n; fault_is = refl })))

not_text : {bytes : List ℕ} → is_utf8 bytes ≡ false → IsUtf8 bytes → ⊥
not_text {bytes} f t = let e = is_utf8-from_IsUtf8 bytes t in cc

no_document : {bytes : List ℕ} {top : Members} → parse_document bytes ≡ None → MeansTable bytes top → ⊥
no_document n m = let e = m.document in cc

of_text : (bytes : List ℕ) → length bytes ≤ most_deck_bytes → (b : Bool) → is_utf8 bytes ≡ b → (o : Option Members) → parse_document bytes ≡ o → Either bytes
of_text bytes fits false e o d = no_table fits (λ top m. not_text e m.text)
of_text bytes fits true e None d = no_table fits (λ top m. no_document d m)
of_text bytes fits true e (Some top) d =
    let r = some_outcomes top in
    of_fault top r.0 fits (record { text = IsUtf8-from_is_utf8 bytes e; document = d }) r.1 (fault_of top r.0) refl

of_length : (bytes : List ℕ) (b : Bool) → nat_lt most_deck_bytes (length bytes) ≡ b → Either bytes
of_length bytes true e = inr (TooMany (codes "deck"), inl (record { long = grind (arith, nat_tests); fault_is = refl }))
of_length bytes false e = of_text bytes (grind (arith, nat_tests)) (is_utf8 bytes) refl (parse_document bytes) refl

pub either : (bytes : List ℕ) → Either bytes
either bytes = of_length bytes (nat_lt most_deck_bytes (length bytes)) refl
