-- Counting one event more.
use Rattle.std.specs.Prelude.{◌==◌, ◌+◌, ℕ, true, false, Option, None, Some, if◌then◌else◌}
use Rattle.acs_coverage.specs.Counts.{as_told}
use Rattle.acs_coverage.specs.declared.tally.Tally.{Tally}
use Rattle.acs_trace.specs.declared.event.Event.{Event}
use Rattle.acs_trace.specs.declared.event.Event.TheVariants.{Ran, Compared, Taken, Set, Wrote, Exited}

-- the token at which an event is counted, if it is
abbrev pub place_in : Event → Option ℕ
place_in (Ran at) = Some at
place_in (Compared left op right value holds) = Some right
place_in (Taken at) = Some at
place_in (Set target value) = None
place_in (Wrote line) = None
place_in (Exited code) = None

-- one more
abbrev pub one_more : ℕ → ℕ
one_more count = as_told (count + 1)

-- counts, with one event more
abbrev pub tally_with : Tally → Event → Tally
tally_with tally (Ran at) = record tally { ran = one_more tally.ran }
tally_with tally (Compared left op right value true) = record tally { held = one_more tally.held }
tally_with tally (Compared left op right value false) = record tally { failed = one_more tally.failed }
tally_with tally (Taken at) = record tally { taken = one_more tally.taken }
tally_with tally (Set target value) = tally
tally_with tally (Wrote line) = tally
tally_with tally (Exited code) = tally

-- the counts at a token, with one event more at a place
abbrev pub tally_if : Tally → Event → ℕ → ℕ → Tally
tally_if tally event place at = if place == at then tally_with tally event else tally

-- the counts at a token, with one event more at that place, if it has one
abbrev pub tally_after : Tally → Event → Option ℕ → ℕ → Tally
tally_after tally event None at = tally
tally_after tally event (Some place) at = tally_if tally event place at
