-- The longest run of bytes that pass a test.
use Rattle.std.proofs.Common.{◌≡◌, ◌≤◌, ℕ, Bool, true, false, List, [], ◌∷◌, length, refl, arith}
use Rattle.std.specs.Prelude.{if◌then◌else◌}
use Rattle.acs_lex.specs.Lexical.{Runs, stop, on}
use Rattle.acs_lex.specs.Inner.Scanning.{after}

-- the test at the first byte, if there is one
abbrev pub starts : (ℕ → Bool) → List ℕ → Bool
starts test [] = false
starts test (b ∷ bytes) = test b

runs_at : (test : ℕ → Bool) (b : ℕ) (bytes : List ℕ) (v : Bool) → test b ≡ v → Runs test bytes (after test bytes) → Runs test (b ∷ bytes) (if v then after test bytes else b ∷ bytes)
runs_at test b bytes true e d = on e d
runs_at test b bytes false e d = stop

pub runs_after : (test : ℕ → Bool) (bytes : List ℕ) → Runs test bytes (after test bytes)
runs_after test [] = stop
runs_after test (b ∷ bytes) = runs_at test b bytes (test b) refl (runs_after test bytes)

pub runs_shorter : {test : ℕ → Bool} {bytes rest : List ℕ} → Runs test bytes rest → length rest ≤ length bytes
runs_shorter stop = omega arith
runs_shorter (on e d) = omega (arith, runs_shorter d)

after_shorter : (test : ℕ → Bool) (bytes : List ℕ) → length (after test bytes) ≤ length bytes
after_shorter test bytes = runs_shorter (runs_after test bytes)

pub after_least : {test : ℕ → Bool} {bytes rest : List ℕ} → Runs test bytes rest → length (after test bytes) ≤ length rest
after_least {test} {bytes} stop = after_shorter test bytes
after_least (on e d) = rw e (after_least d)

stop_at : (test : ℕ → Bool) (b : ℕ) (bytes : List ℕ) (v : Bool) → length (b ∷ bytes) ≤ length (if v then after test bytes else b ∷ bytes) → b ∷ bytes ≡ (if v then after test bytes else b ∷ bytes)
stop_at test b bytes true h = absurd (omega (arith, after_shorter test bytes))
stop_at test b bytes false h = refl

stop_most : (test : ℕ → Bool) (bytes : List ℕ) → length bytes ≤ length (after test bytes) → bytes ≡ after test bytes
stop_most test [] h = refl
stop_most test (b ∷ bytes) h = stop_at test b bytes (test b) h

-- a run with the least behind it is the longest one
pub runs_most : {test : ℕ → Bool} {bytes rest : List ℕ} → Runs test bytes rest → length rest ≤ length (after test bytes) → rest ≡ after test bytes
runs_most {test} {bytes} stop h = stop_most test bytes h
runs_most (on e d) h = rw e (runs_most d (rw e at h))

stop_end : (test : ℕ → Bool) (rest : List ℕ) → starts test rest ≡ false → after test rest ≡ rest
stop_end test [] h = refl
stop_end test (b ∷ bytes) h = rw h refl

-- so is a run behind which the test fails
pub runs_end : {test : ℕ → Bool} {bytes rest : List ℕ} → Runs test bytes rest → starts test rest ≡ false → after test bytes ≡ rest
runs_end {test} {bytes} stop h = stop_end test bytes h
runs_end (on e d) h = rw e (runs_end d h)

stops_at : (test : ℕ → Bool) (b : ℕ) (bytes : List ℕ) (v : Bool) → test b ≡ v → starts test (after test bytes) ≡ false → starts test (if v then after test bytes else b ∷ bytes) ≡ false
stops_at test b bytes true e h = h
stops_at test b bytes false e h = e

pub after_stops : (test : ℕ → Bool) (bytes : List ℕ) → starts test (after test bytes) ≡ false
after_stops test [] = refl
after_stops test (b ∷ bytes) = stops_at test b bytes (test b) refl (after_stops test bytes)
