use Rattle.std.proofs.Common.{◌≡◌, ◌-◌, ℕ, List, length, drop}
use Rattle.desk_law.specs.Volumes.{tracks_of}
use Rattle.sms_open.specs.Inner.Targets.{number_on}
use Rattle.sms_open.proofs.sets.tracks_on.Given as goal

-- the tracks of the volumes that were gone over, from the last on
abbrev pub invariant-loop-place : goal.invariant-loop-place
invariant-loop-place l = (volser : List ℕ) → number_on volser l.tracks ≡ tracks_of volser (drop (length l.volumes - l.place) l.volumes)
