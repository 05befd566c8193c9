-- The fields of a text, from its bytes.
use Rattle.std.specs.Prelude.{ℕ, ◌≡◌, List, length, take}
use Rattle.std.proofs.Common.{sym}
use Rattle.dsn_mask.specs.Inner.Text.{padded}
use Rattle.dsn_mask.specs.declared.text.Text.TheInside.{Inside}

-- a text by its two fields
abbrev pub inside_of : (size : ℕ) → List ℕ → ℕ → Inside size
inside_of size buffer count = record { buffer = buffer; count = count }

same_fields : (size : ℕ) (b b' : List ℕ) (c c' : ℕ) → b ≡ b' → c ≡ c' → inside_of size b c ≡ inside_of size b' c'
same_fields size b b' c c' p q = cc

-- a text is made of its bytes and of unused ones behind them
pub fields_back : (size : ℕ) (a : Inside size) → a.count ≡ length (take a.count a.buffer)
    → a.buffer ≡ padded size (take a.count a.buffer)
    → inside_of size (padded size (take a.count a.buffer)) (length (take a.count a.buffer)) ≡ a
fields_back size a p q = same_fields size _ _ _ _ (sym q) (sym p)
