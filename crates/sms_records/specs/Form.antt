-- How values are written as bytes, one behind the other, and read off the front of bytes (docs/manual/records.md, "The
-- record form").
use Rattle.std.specs.Prelude.{◌≡◌, ◌==◌, ℕ, zero, suc, ◌++◌, ◌<◌, List, [], ◌∷◌, length, take, drop, Option, Some, None}
use Rattle.std.specs.Prelude.{nat_lt, get_or, slice_get, if◌then◌else◌}
use Rattle.std.specs.List.{flat_map}
use Rattle.std.specs.Int.{w64, to_be_bytes, from_be_bytes}
use Rattle.desk_common.specs.Limits.{up_to}

infixl 10 ◌>>=◌
-- the next step, where there is a value
abbrev pub ◌>>=◌ : {A B : Type 0} → Option A → (A → Option B) → Option B
(Some x) >>= f = f x
None >>= f = None

-- the bytes of a value, and the value at the front of bytes with the bytes behind it
pub record Form (T : Type 0) : Type 0 where
  pub write : T → List ℕ
  pub read : List ℕ → Option (T × List ℕ)

-- each is a byte
abbrev pub AreBytes : List ℕ → Type 0
AreBytes bytes = (i : ℕ) → get_or bytes i 0 < 256

-- what is read is written so
pub record Takes (bytes front rest : List ℕ) : Type 0 where
  pub parts : bytes ≡ front ++ rest
  pub rest_fits : AreBytes rest

-- what a form reads, it writes so
abbrev pub IsExact : {T : Type 0} → Form T → Type 0
IsExact {T} form = (bytes rest : List ℕ) (x : T) → AreBytes bytes → form.read bytes ≡ Some (x, rest)
    → Takes bytes (form.write x) rest

-- what is written of this value is read as it, whatever stands behind
abbrev pub IsReadable : {T : Type 0} → Form T → T → Type 0
IsReadable form x = (rest : List ℕ) → form.read (form.write x ++ rest) ≡ Some (x, rest)

-- a number: eight bytes, the greatest first
abbrev pub number_at : List ℕ → Option (ℕ × List ℕ)
number_at bytes = if nat_lt (length bytes) 8 then None else Some (from_be_bytes w64 (take 8 bytes), drop 8 bytes)

-- the form of a number
abbrev pub number_form : Form ℕ
number_form = record { write = λ n. to_be_bytes w64 n; read = number_at }

-- one byte
abbrev pub byte_at : List ℕ → Option (ℕ × List ℕ)
byte_at [] = None
byte_at (byte ∷ rest) = Some (byte, rest)

-- a text: its length as a number, and its bytes
unfoldable pub text_at : List ℕ → Option (List ℕ × List ℕ)
text_at bytes = do
  n ← number_at bytes
  if nat_lt (length n.1) n.0 then None else Some (take n.0 n.1, drop n.0 n.1)

-- the form of a text
abbrev pub text_form : Form (List ℕ)
text_form = record { write = λ bytes. to_be_bytes w64 (length bytes) ++ bytes; read = text_at }

-- values of A seen as values of B, where the test lets them
unfoldable pub seen_at : {A B : Type 0} → Form A → (A → Option B) → List ℕ → Option (B × List ℕ)
seen_at form test bytes = do
  found ← form.read bytes
  made ← test found.0
  Some (made, found.1)

-- the form of values of B, written as values of A
abbrev pub seen : {A B : Type 0} → Form A → (A → Option B) → (B → A) → Form B
seen form test back = record { write = λ x. form.write (back x); read = seen_at form test }

-- the form of a number up to this one
abbrev pub small : ℕ → Form ℕ
small most = seen number_form (up_to most) (λ n. n)

-- a number of 32 bits
abbrev pub number_32_form : Form ℕ
number_32_form = small 4294967295

-- a number of 16 bits
abbrev pub number_16_form : Form ℕ
number_16_form = small 65535

-- a number of 8 bits
abbrev pub number_8_form : Form ℕ
number_8_form = small 255

-- one behind the other
unfoldable pub both_at : {A B : Type 0} → Form A → Form B → List ℕ → Option ((A × B) × List ℕ)
both_at first second bytes = do
  a ← first.read bytes
  b ← second.read a.1
  Some ((a.0, b.0), b.1)

infixr 60 ◌&◌
abbrev pub ◌&◌ : {A B : Type 0} → Form A → Form B → Form (A × B)
first & second = record { write = λ x. first.write x.0 ++ second.write x.1; read = both_at first second }

-- so many, one behind the other
unfoldable pub many_at : {T : Type 0} → Form T → ℕ → List ℕ → Option (List T × List ℕ)
many_at form zero bytes = Some ([], bytes)
many_at form (suc n) bytes = do
  first ← form.read bytes
  others ← many_at form n first.1
  Some (first.0 ∷ others.0, others.1)

-- so many items as the number at the front says
unfoldable pub list_at : {T : Type 0} → Form T → List ℕ → Option (List T × List ℕ)
list_at form bytes = do
  n ← number_at bytes
  many_at form n.0 n.1

-- a list: its length as a number, and its items
abbrev pub list : {T : Type 0} → Form T → Form (List T)
list form = record { write = λ xs. to_be_bytes w64 (length xs) ++ flat_map form.write xs; read = list_at form }

-- a struct is made of its fields
abbrev pub made : {A B : Type 0} → Form A → (A → B) → (B → A) → Form B
made form make back = seen form (λ a. Some (make a)) back

-- a variant: what stands behind its byte, made into the whole
unfoldable pub made_at : {P T : Type 0} → Form P → (P → T) → List ℕ → Option (T × List ℕ)
made_at payload make bytes = do
  p ← payload.read bytes
  Some (make p.0, p.1)

-- a variant without fields
abbrev pub bare_at : {T : Type 0} → T → List ℕ → Option (T × List ℕ)
bare_at x = λ bytes. Some (x, bytes)

-- the variant at this position is written so
abbrev pub IsVariant : {T : Type 0} → (T → List ℕ) → ℕ → (List ℕ → Option (T × List ℕ)) → Type 0
IsVariant {T} write tag reader = (bytes rest : List ℕ) (x : T) → AreBytes (tag ∷ bytes)
    → reader bytes ≡ Some (x, rest) → Takes (tag ∷ bytes) (write x) rest

-- each of the readers is that of its variant, whose positions count from this one
abbrev pub AreVariants : {T : Type 0} → (T → List ℕ) → ℕ → List (List ℕ → Option (T × List ℕ)) → Type 0
AreVariants write at [] = Unit {0}
AreVariants write at (reader ∷ readers) = IsVariant write at reader × AreVariants write (suc at) readers

-- what the reader at the position of the first byte reads
unfoldable pub variant_at : {T : Type 0} → List (List ℕ → Option (T × List ℕ)) → List ℕ → Option (T × List ℕ)
variant_at variants bytes = do
  tag ← byte_at bytes
  reader ← slice_get variants tag.0
  reader tag.1

-- an enum: the position of its variant as a byte, and the variant's fields
abbrev pub variants : {T : Type 0} → (T → List ℕ) → List (List ℕ → Option (T × List ℕ)) → Form T
variants write readers = record { write = write; read = variant_at readers }

-- an option: a byte 0, or a byte 1 and the value
unfoldable pub option_at : {T : Type 0} → Form T → List ℕ → Option (Option T × List ℕ)
option_at form [] = None
option_at form (zero ∷ rest) = Some (None, rest)
option_at form (suc zero ∷ rest) = do
  x ← form.read rest
  Some (Some x.0, x.1)
option_at form (suc (suc byte) ∷ rest) = None

-- the bytes of an option
abbrev pub option_write : {T : Type 0} → Form T → Option T → List ℕ
option_write form None = 0 ∷ []
option_write form (Some x) = 1 ∷ form.write x

-- the form of an option
abbrev pub option : {T : Type 0} → Form T → Form (Option T)
option form = record { write = option_write form; read = option_at form }

-- all of the bytes
unfoldable pub whole : {T : Type 0} → Form T → List ℕ → Option T
whole form bytes = do
  found ← form.read bytes
  if length found.1 == 0 then Some found.0 else None
