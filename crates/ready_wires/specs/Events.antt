-- What contracts see of who tells when connections are ready.
use Rattle.std.specs.Prelude.{ℕ, Bool, true, ◌≡◌, ◌≢◌, ◌⊎◌, List, [], ◌∷◌, ◌++◌, Option, None, Some, Result, Ok, Err}
use Rattle.std.specs.Prelude.{⊤, MatchOption, Contains, ◌≤◌, option_map, length, drop}
use Rattle.sms_base.specs.Counts.{one_call_more}
use Rattle.ready_wires.specs.Wires.{WireSeen, IsTold, no_marks, no_watch}
use Rattle.ready_wires.specs.declared.readiness.Event.{Event}
use Rattle.ready_wires.specs.declared.readiness.Event.TheVariants as events

-- how often an event was asked for and how many connections came, where that is told; the keys that were told of as
-- idle, and those that are still to be told of as ready, where they are told; whether nothing more happens; and how
-- often a call failed
pub record ReadySeen : Type 0 where
  pub calls : Option ℕ
  pub came : Option ℕ
  pub idle : Option (List ℕ)
  pub awaited : Option (List ℕ)
  pub ended : Bool
  pub faults : ℕ

-- where a list is told, it has these behind it, or is told no longer
abbrev pub Tells : {A : Type 0} → Option (List A) → Option (List A) → List A → Type 0
Tells told told' more =
    MatchOption told (told' ≡ None) (λ before. (told' ≡ Some (before ++ more)) ⊎ (told' ≡ None))

-- where keys are told, this is one of them
abbrev pub IsAmong : Option (List ℕ) → ℕ → Type 0
IsAmong told key = MatchOption told ⊤ (λ keys. Contains keys key)

-- where it is told, the key is still to be told of as ready
abbrev pub IsAwaited : Option (List ℕ) → ℕ → Type 0
IsAwaited told key = IsAmong told key

-- where it is told, so many keys were told of
abbrev pub count_told : Option (List ℕ) → Option ℕ
count_told told = option_map (λ keys. length keys) told

-- where keys are told, this is one of those behind the first ones, of which there were so many
abbrev pub WasToldSince : Option ℕ → Option (List ℕ) → ℕ → Type 0
WasToldSince since told key = MatchOption since ⊤ (λ count. IsAmong (option_map (λ keys. drop count keys) told) key)

-- where keys are told, this is none of those behind the first ones, of which there were so many
abbrev pub IsQuietSince : Option ℕ → Option (List ℕ) → ℕ → Type 0
IsQuietSince since told key =
    MatchOption since ⊤ (λ count. MatchOption told ⊤
    (λ keys. (count ≤ length keys) × (Contains (drop count keys) key → ⊥)))

module _ {C E : Type 0} where
  -- it came with no bytes read and none taken, and no call was made of it
  abbrev pub IsFresh : (C → WireSeen) → Result (Event C) E → Type 0
  IsFresh seen (Ok (events.Came conn)) =
      IsTold (seen conn).came [] × IsTold (seen conn).taken [] × ((seen conn).marks ≡ no_marks)
      × ((seen conn).watch ≡ no_watch)
  IsFresh seen (Ok (events.Ready key)) = ⊤
  IsFresh seen (Ok (events.Idle key)) = ⊤
  IsFresh seen (Ok events.Quiet) = ⊤
  IsFresh seen (Ok events.Ended) = ⊤
  IsFresh seen (Err e) = ⊤

  -- how many connections came, with this event's
  abbrev pub came_after : Option ℕ → Result (Event C) E → Option ℕ
  came_after came (Ok (events.Came conn)) = one_call_more came
  came_after came (Ok (events.Ready key)) = came
  came_after came (Ok (events.Idle key)) = came
  came_after came (Ok events.Quiet) = came
  came_after came (Ok events.Ended) = came
  came_after came (Err e) = came

  -- the keys that were told of as idle, with this event's
  abbrev pub TellsIdle : Option (List ℕ) → Option (List ℕ) → Result (Event C) E → Type 0
  TellsIdle told told' (Ok (events.Came conn)) = told' ≡ told
  TellsIdle told told' (Ok (events.Ready key)) = told' ≡ told
  TellsIdle told told' (Ok (events.Idle key)) = Tells told told' (key ∷ [])
  TellsIdle told told' (Ok events.Quiet) = told' ≡ told
  TellsIdle told told' (Ok events.Ended) = told' ≡ told
  TellsIdle told told' (Err e) = told' ≡ told

  -- whatever was to be told of as ready still is, but for what was told just now
  abbrev pub KeepsAwaited : Option (List ℕ) → Option (List ℕ) → Result (Event C) E → Type 0
  KeepsAwaited told told' (Ok (events.Came conn)) = (other : ℕ) → IsAwaited told other → IsAwaited told' other
  KeepsAwaited told told' (Ok (events.Ready key)) =
      (other : ℕ) → other ≢ key → IsAwaited told other → IsAwaited told' other
  KeepsAwaited told told' (Ok (events.Idle key)) = (other : ℕ) → IsAwaited told other → IsAwaited told' other
  KeepsAwaited told told' (Ok events.Quiet) = (other : ℕ) → IsAwaited told other → IsAwaited told' other
  KeepsAwaited told told' (Ok events.Ended) = (other : ℕ) → IsAwaited told other → IsAwaited told' other
  KeepsAwaited told told' (Err e) = (other : ℕ) → IsAwaited told other → IsAwaited told' other

  -- the end is told where nothing more happens
  abbrev pub TellsEnd : Bool → Result (Event C) E → Type 0
  TellsEnd ended (Ok (events.Came conn)) = ⊤
  TellsEnd ended (Ok (events.Ready key)) = ⊤
  TellsEnd ended (Ok (events.Idle key)) = ⊤
  TellsEnd ended (Ok events.Quiet) = ⊤
  TellsEnd ended (Ok events.Ended) = ended ≡ true
  TellsEnd ended (Err e) = ⊤
