-- How often something happened at the tokens of a routine (docs/manual/tool.md, "Coverage of a script").
use Rattle.std.specs.Prelude.{◌≡◌, ◌==◌, ◌-◌, ◌^◌, ◌&&◌, ℕ, Bool, false, not, List, count_by, get_or, min}
use Rattle.acs_coverage.specs.declared.tally.Tally.{Tally}
use Rattle.acs_trace.specs.declared.event.Event.{Event}
use Rattle.acs_trace.specs.declared.event.Event.TheVariants.{Ran, Compared, Taken}

-- a count, as far as 64 bits have it
abbrev pub as_told : ℕ → ℕ
as_told count = min count (2 ^ 64 - 1)

-- the statement at this token is begun
abbrev pub is_ran : ℕ → Event → Bool
is_ran at (Ran place) = place == at
is_ran at _ = false

-- the WHEN at this token is taken
abbrev pub is_taken : ℕ → Event → Bool
is_taken at (Taken place) = place == at
is_taken at _ = false

-- what is at the left is compared with the operand at this token, and that holds
abbrev pub is_held : ℕ → Event → Bool
is_held at (Compared left op right value holds) = right == at && holds
is_held at _ = false

-- and that doesn't hold
abbrev pub is_failed : ℕ → Event → Bool
is_failed at (Compared left op right value holds) = right == at && not holds
is_failed at _ = false

-- nothing happened
abbrev pub no_tally : Tally
no_tally = record { ran = 0; taken = 0; held = 0; failed = 0 }

-- how many of these events happened at a token
abbrev pub tally_of : List Event → ℕ → Tally
tally_of events at = record {
  ran = as_told (count_by (is_ran at) events);
  taken = as_told (count_by (is_taken at) events);
  held = as_told (count_by (is_held at) events);
  failed = as_told (count_by (is_failed at) events);
}

-- what is counted at a token; of one that isn't listed nothing
abbrev pub tally_at : List Tally → ℕ → Tally
tally_at tallies at = get_or tallies at no_tally

-- these are the counts of these events, at every token
abbrev pub AreCounts : List Event → List Tally → Type 0
AreCounts events tallies = (at : ℕ) → tally_at tallies at ≡ tally_of events at
