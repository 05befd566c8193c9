-- ACTIVATE at two decks: one that is refused, and one that is taken.
use Rattle.std.proofs.Common.{◌≡◌, ℕ, Bool, true, false, List, [], ◌∷◌, nat_lt, refl, arith, inl, inr}
use Rattle.std.proofs.lemmas.Bool.{ltb-true}
use Rattle.std.proofs.lemmas.Str.{IsUtf8-from_ascii}
use Rattle.std.proofs.lemmas.Str.Ascii.{IsAscii-cons, IsAscii-nil}
use Rattle.std.specs.Prelude.{◌&&◌, codes, IsAscii, None, Some, pos}
use Rattle.std.specs.List.{list_all}
use Rattle.toml.specs.Data.{Members, no_members, member, integer}
use Rattle.toml.specs.Parse.{parse_document}
use Rattle.toml.proofs.OnLiterals.{toml_on_literals}
use Rattle.sms_construct.specs.Configuration.{Configuration}
use Rattle.sms_construct.specs.declared.fault.Fault.TheVariants.{Missing}
use Rattle.sms_construct.specs.declared.reply.Reply.TheVariants as replies
use Rattle.deck_meaning.specs.Outcomes.{Outcome, Outcomes}
use Rattle.deck_meaning.specs.Reading.{Configures}
use Rattle.sms_keeper.specs.declared.deck_row.DeckRow.{DeckRow}
use Rattle.desk_law.specs.Activation.{ActivateRule}
use Rattle.desk_law.specs.Decked.{IsDecked}
use Rattle.desk_law.proofs.ExampleDecks.{desk_under, new_desk}

-- there is no routine
abbrev no_routine : Outcomes
no_routine = record { dataclas = Outcome.Absent; storclas = Outcome.Absent; mgmtclas = Outcome.Absent; storgrp = Outcome.Absent }

-- the version is missing
empty_document : parse_document [] ≡ Some no_members
unfolding toml_on_literals
empty_document = refl

deck_refused : ActivateRule new_desk [] (replies.Deck (Missing (codes "version"))) new_desk
deck_refused = inl (record {
  fault = Missing (codes "version");
  found = inr (inr (record {
    fits = omega arith;
    top = no_members;
    means = record { text = ([], (refl, refl)); document = empty_document };
    outcomes = no_routine;
    read = record { dataclas = tt; storclas = tt; mgmtclas = tt; storgrp = tt };
    first = refl;
  }));
  leaves = record { reply_is = refl; after_is = refl };
})

both : (a b : Bool) → (a && b) ≡ true → (a ≡ true) × (b ≡ true)
both true b e = (refl, e)
both false b e = absurd cc

is-ascii : (bytes : List ℕ) → list_all (λ byte. nat_lt byte 128) bytes ≡ true → IsAscii bytes
is-ascii [] all = IsAscii-nil
is-ascii (byte ∷ bytes) all =
    let parts = both _ _ all in IsAscii-cons byte bytes (ltb-true byte 128 parts.0) (is-ascii bytes parts.1)

-- the least deck
abbrev least : List ℕ
least = codes "version = 1"

abbrev least_table : Members
least_table = member (codes "version") (integer (pos 1)) no_members

least_document : parse_document least ≡ Some least_table
unfolding toml_on_literals
least_document = refl

abbrev least_configuration : Configuration
least_configuration = record {
  deck = least;
  system = None;
  sysplex = None;
  data_classes = [];
  storage_classes = [];
  management_classes = [];
  groups = [];
  volumes = [];
  routines = record { dataclas = None; storclas = None; mgmtclas = None; storgrp = None };
}

least_configures : Configures least least_configuration
least_configures = record {
  fits = omega arith;
  top = least_table;
  means = record { text = IsUtf8-from_ascii least (is-ascii least refl); document = least_document };
  outcomes = no_routine;
  read = record { dataclas = tt; storclas = tt; mgmtclas = tt; storgrp = tt };
  faultless = refl;
  config_is = refl;
}

deck_taken : ActivateRule new_desk least (replies.Activated 1) (desk_under least_configuration)
deck_taken = inr (record { config = least_configuration; configures = least_configures; rule = record { reply_is = refl; after_is = refl } })

-- The decks of a state.

abbrev deck : ℕ → DeckRow
deck count = record { count = count; bytes = least }

no_deck : IsDecked [] new_desk
no_deck = record { counted = refl; numbered = tt; last = refl }

one_deck : IsDecked (deck 1 ∷ []) (desk_under least_configuration)
one_deck = record { counted = refl; numbered = (refl, tt); last = record { config = least_configuration; configures = least_configures; active_is = refl } }

-- the first deck has the number 1, and what the last one configures is active

wrong_number : IsDecked (deck 2 ∷ []) (desk_under least_configuration) → ⊥
wrong_number decked = let count : 2 ≡ 1 = decked.numbered.0 in omega (arith, count)

nothing_active : IsDecked (deck 1 ∷ []) (record new_desk { activations = 1 }) → ⊥
nothing_active decked = let active = decked.last.active_is in absurd cc

active_without_deck : IsDecked [] (record (desk_under least_configuration) { activations = 0 }) → ⊥
active_without_deck decked = let last : Some least_configuration ≡ None = decked.last in absurd cc

fewer_decks : IsDecked [] (record new_desk { activations = 1 }) → ⊥
fewer_decks decked = let count : 1 ≡ 0 = decked.counted in omega (arith, count)
