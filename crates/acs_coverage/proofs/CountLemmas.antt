-- Counting one event more.
use Rattle.std.proofs.Common.{◌≡◌, ◌<◌, ◌+◌, ◌++◌, ℕ, List, [], ◌∷◌, length, get_or, take, sym, ap, subst, ◌∙◌, append_assoc}
use Rattle.std.proofs.lemmas.List.{take_more}
use Rattle.acs_coverage.specs.Counts.{AreCounts}
use Rattle.acs_coverage.specs.declared.tally.Tally.{Tally}
use Rattle.acs_trace.specs.declared.event.Event.{Event}

-- events that were gone over, and the next one
pub next_counted : (before events : List Event) (e : Event) (i : ℕ) (old new : List Tally) → i < length events → e ≡ get_or events i e
    → ((all : List Event) → AreCounts all old → AreCounts (all ++ e ∷ []) new) → AreCounts (before ++ take i events) old → AreCounts (before ++ take (i + 1) events) new
next_counted before events e i old new within read adds counts =
    subst (λ (all : List Event). AreCounts all new)
    (append_assoc before (take i events) (e ∷ []) ∙ ap (λ (next : List Event). before ++ next) (ap (λ (x : Event). take i events ++ x ∷ []) read ∙ sym (take_more events i e within)))
    (adds (before ++ take i events) counts)
