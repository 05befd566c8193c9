use Rattle.std.proofs.Common.{◌≡◌, ℕ, List, take}
use Rattle.desk_law.specs.State.{set_named}
use Rattle.desk_state.specs.Catalog.{set_in}
use Rattle.desk_restoring.proofs.cataloguing.catalog_of.Given as goal

-- the data sets that were gone over are found by their names
abbrev pub invariant-loop-set : goal.invariant-loop-set
invariant-loop-set l = (dsn : List ℕ) → set_in dsn l.catalog.sets ≡ set_named dsn (take l.set-index l.sets)
