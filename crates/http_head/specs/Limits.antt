-- The limits of a message over HTTP (docs/manual/http.md, "Limits" and "Refusals").
use Rattle.std.specs.Prelude.{ℕ}

-- the most bytes of a head
abbrev pub most_head_bytes : ℕ
most_head_bytes = 8192

-- the most headers of a head
abbrev pub most_headers : ℕ
most_headers = 32

-- the line feeds of a first line and of one header more than that
abbrev pub feeds_past_headers : ℕ
feeds_past_headers = 34

-- the most digits of a length
abbrev pub most_length_digits : ℕ
most_length_digits = 10

-- the greatest length that so many digits write
abbrev pub most_length : ℕ
most_length = 9999999999
