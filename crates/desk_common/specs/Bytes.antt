-- The bytes with a meaning of their own.
use Rattle.std.specs.Prelude.{ℕ}

-- the space
abbrev pub space_byte : ℕ
space_byte = 32

-- the quote, which begins and ends a literal
abbrev pub quote : ℕ
quote = 39

-- the parenthesis that closes
abbrev pub closing : ℕ
closing = 41

-- the asterisk, which stands for other bytes in a mask
abbrev pub star : ℕ
star = 42

-- the comma, which parts a list
abbrev pub comma : ℕ
comma = 44

-- the full stop, which parts qualifiers
abbrev pub full_stop : ℕ
full_stop = 46
