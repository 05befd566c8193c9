-- What a checked routine is (docs/manual/acs-language.md, Checks).
use Rattle.std.specs.Prelude.{◌≡◌}
use Rattle.acs_tree.specs.declared.kind.Kind.{Kind}
use Rattle.acs_tree.specs.declared.routine.Routine.{Routine}
use Rattle.acs_tree.specs.Sound.{IsSound}

-- a tree and the kind for which it was checked
pub record CheckedRoutine : Type 0 where
  pub tree : Routine
  pub kind : Kind

-- a tree that breaks no check, with the kind for which it was checked
abbrev pub IsCheckedOf : Routine → Kind → CheckedRoutine → Type 0
IsCheckedOf tree kind checked = IsSound tree kind × (checked ≡ record { tree = tree; kind = kind })
