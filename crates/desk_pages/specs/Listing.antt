-- Data sets, some of them at a time (docs/manual/smsd.md, "What pages show").
use Rattle.std.specs.Prelude.{ℕ, ◌≡◌, ◌⊎◌, ◌≤◌, Bool, true, false, List, [], ◌∷◌, filter, length, Option, None, Some, ⊤}
use Rattle.sms_construct.specs.declared.data_set.DataSet.{DataSet}
use Rattle.dsn_mask.specs.MaskTest.{mask_fits}
use Rattle.dsn_mask.specs.Name.{short_of}
use Rattle.desk_state.specs.Following.{IsFirstBehind, IsLastName}

-- so many data sets, or extents, stand on a page
abbrev pub most_shown : ℕ
most_shown = 200

-- so many are looked at for it
abbrev pub most_looked : ℕ
most_looked = 20000

-- a value, if it is one, fits the mask
abbrev pub value_fits : List ℕ → Option (List ℕ) → Bool
value_fits mask None = false
value_fits mask (Some value) = mask_fits mask value

-- a name fits the mask; each fits none
abbrev pub fits : Option (List ℕ) → List ℕ → Bool
fits None dsn = true
fits (Some mask) dsn = value_fits mask (short_of dsn)

-- data sets behind a name, each the next one
abbrev pub IsWalk : List DataSet → Option (List ℕ) → List DataSet → Type 0
IsWalk sets from [] = ⊤
IsWalk sets from (set ∷ walked) = IsFirstBehind from sets set × IsWalk sets (Some set.dsn) walked

-- the name of the last of them
abbrev pub last_name : Option (List ℕ) → List DataSet → Option (List ℕ)
last_name from [] = from
last_name from (set ∷ walked) = last_name (Some set.dsn) walked

-- where a page ends: behind the last data set of all, or at the last name that was looked at, when the page is full or
-- enough were looked at
abbrev pub IsPageEnd : List DataSet → Option (List ℕ) → List DataSet → List DataSet → Option (List ℕ) → Type 0
IsPageEnd sets from walked shown None = IsLastName (last_name from walked) sets
IsPageEnd sets from walked shown (Some name) =
    (last_name from walked ≡ Some name) × ((length shown ≡ most_shown) ⊎ (length walked ≡ most_looked))

-- data sets behind a name, those of them that fit the mask, as many as a page shows; and the name behind which the next
-- page begins, where one may follow
pub record IsListing (sets : List DataSet) (mask from : Option (List ℕ)) (shown : List DataSet)
    (after : Option (List ℕ)) : Type 0 where
  pub walked : List DataSet
  pub walks : IsWalk sets from walked
  pub shown_are : shown ≡ filter (λ set. fits mask set.dsn) walked
  pub few : length shown ≤ most_shown
  pub bounded : length walked ≤ most_looked
  pub end : IsPageEnd sets from walked shown after
