-- Histories at their limits and behind an opening, at worked examples.
use Rattle.std.proofs.Common.{◌≡◌, ◌<◌, Bool, true, false, List, [], ◌∷◌, refl, arith}
use Rattle.std.specs.Prelude.{codes, None, Some, count_by, length, nat_lt}
use Rattle.sms_construct.specs.declared.entry.Entry.{Entry}
use Rattle.desk_law.specs.State.{DeskState, Opening, start_of}
use Rattle.desk_law.specs.Records.{IsTables, kept_rows}
use Rattle.desk_law.specs.Step.{IsStep, activates}
use Rattle.desk_law.specs.History.{WasActive}
use Rattle.desk_law.proofs.ExampleDecks.{one}

-- no step follows 50,000 entries
full_journal : (o : Opening) (before : List Entry) (s after : DeskState) (e : Entry) → length before ≡ 50000 → IsStep o before s e after → ⊥
full_journal o before s after e many step =
    let few : length before < 50000 = step.few in omega (arith, few, many)

-- and after 200 activations none that asks for an activation
no_activation : (o : Opening) (before : List Entry) (s after : DeskState) (e : Entry) → count_by activates before ≡ 200 → activates e ≡ true → IsStep o before s e after → ⊥
no_activation o before s after e many asked step =
    let few : count_by activates before < 200 = step.few_activations asked in omega (arith, few, many)

-- an opening with one deck, whose configuration is active
abbrev opened : Opening
opened = record {
  rows = record { sets = []; replies = []; decks = record { count = 1; bytes = codes "D" } ∷ []; statuses = []; floors = [] };
  config = Some (one 100);
  base = 7;
}

was_active : WasActive opened [] 1 (one 100)
was_active = record { front = []; rest = []; whole = refl; state = start_of opened; reaches = refl; counted = refl; active = refl }

-- behind it the tables of no entries are what is recorded
nothing_kept : (below : Bool) → [] ≡ kept_rows below None
nothing_kept true = refl
nothing_kept false = refl

recorded : IsTables opened [] (start_of opened) opened.rows
recorded = record {
  sets_are = λ dsn. refl;
  kept_are = record { replies_are = λ job number. nothing_kept (nat_lt number 0); floors_are = λ job. refl };
  decks_are = λ count. refl;
  statuses_are = λ target. refl;
}
