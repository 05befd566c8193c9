-- Whether enough of the routines of a deck is covered (docs/manual/tool.md, "Coverage of a script").
use Rattle.std.specs.Prelude.{◌*◌, ◌||◌, ℕ, Bool, false, Option, None, Some, count_by, length, nat_lt}
use Rattle.acs_coverage.specs.CoverageText.{is_covered_by}
use Rattle.acs_coverage.specs.Points.{points_of}
use Rattle.acs_coverage.specs.declared.tally.Tally.{Tally}
use Rattle.acs_tree.specs.CheckedRoutine.{CheckedRoutine}
use Rattle.acs_tree.specs.declared.kind.Kind.{Kind}
use Rattle.acs_tree.specs.declared.kind.Kind.TheVariants.{DataClas, StorClas, MgmtClas, StorGrp}
use Rattle.sms_construct.specs.Configuration.{Configuration, routine_of}

-- less than so many per cent of the points of a routine are covered; never of a missing one
abbrev pub routine_short : ℕ → (ℕ → Tally) → Option CheckedRoutine → Bool
routine_short least tallies None = false
routine_short least tallies (Some routine) =
    nat_lt (100 * count_by (is_covered_by tallies) (points_of routine.tree)) (least * length (points_of routine.tree))

-- the same of the routine of a kind, by the counts of each
abbrev pub kind_short : ℕ → Configuration → (Kind → ℕ → Tally) → Kind → Bool
kind_short least config counts kind = routine_short least (counts kind) (routine_of kind config.routines)

-- the same of any of the four routines
abbrev pub deck_short : ℕ → Configuration → (Kind → ℕ → Tally) → Bool
deck_short least config counts =
    kind_short least config counts DataClas || (kind_short least config counts StorClas
    || (kind_short least config counts MgmtClas || kind_short least config counts StorGrp))
