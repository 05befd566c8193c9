-- What a store in memory may hold.
use Rattle.std.specs.Prelude.{◌≡◌, ◌⊎◌, List, [], ◌∷◌, true}
use Rattle.row_store.specs.declared.contents.Contents.{Contents}
use Rattle.row_store.specs.declared.engine.Engine.{Engine}
use Rattle.row_store.specs.Contents.{IsAfter, IsTaken}

-- it is one of these
abbrev pub IsOneOf : List Contents → Contents → Type 0
IsOneOf [] c = ⊥
IsOneOf (one ∷ others) c = (c ≡ one) ⊎ IsOneOf others c

-- a change to which no answer came makes this; it can be made while the guard is the one that was seen last
abbrev pub IsLate : Engine → Contents → Type 0
IsLate e c = (e.held.guard ≡ e.seen.guard) × IsOneOf e.late c

-- another desk has the prefix, and this comes after what is there
abbrev pub IsOthers : Engine → Contents → Type 0
IsOthers e c = (e.has_other ≡ true) × IsAfter e.held.guard c.guard

-- what it may hold, now and at any later moment before the next call: what it holds, what a change to which no answer
-- came makes of it, or what another desk does that takes the prefix or has it
abbrev pub MayHold : Engine → Contents → Type 0
MayHold e c = (c ≡ e.held) ⊎ (IsLate e c ⊎ (IsTaken e.held.guard c ⊎ IsOthers e c))
