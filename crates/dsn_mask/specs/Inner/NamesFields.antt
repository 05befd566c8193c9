-- The fields of a list of names, from the names.
use Rattle.std.specs.Prelude.{ℕ, ◌≡◌, List, length, take}
use Rattle.std.proofs.Common.{sym}
use Rattle.dsn_mask.specs.Names.{filled}
use Rattle.dsn_mask.specs.declared.names.Names.TheInside.{Inside}

-- a list of names by its two fields
abbrev pub inside_of : List (List ℕ) → ℕ → Inside
inside_of items count = record { items = items; count = count }

same_fields : (b b' : List (List ℕ)) (c c' : ℕ) → b ≡ b' → c ≡ c' → inside_of b c ≡ inside_of b' c'
same_fields b b' c c' p q = cc

-- a list of names is made of its names and of unused ones behind them
pub fields_back : (a : Inside) → a.count ≡ length (take a.count a.items) → a.items ≡ filled (take a.count a.items)
    → inside_of (filled (take a.count a.items)) (length (take a.count a.items)) ≡ a
fields_back a p q = same_fields _ _ _ _ (sym q) (sym p)
