-- Where the line feed can stand that ends as many headers as a head may have.
use Rattle.std.specs.Prelude.{◌≡◌, ◌<◌, ℕ, List, [], ◌∷◌, if◌then◌else◌, length, slice_index_or, take}
use Rattle.httparse.specs.Ascii.{line_feed}
use Rattle.httparse.specs.Pieces.{is_newline}
use Rattle.http_head.specs.Heads.{line_feeds}

-- the bytes behind the empty lines at the front
abbrev pub behind_empty : List ℕ → List ℕ
behind_empty [] = []
behind_empty (byte ∷ bytes) = if is_newline byte then behind_empty bytes else byte ∷ bytes

-- at this place of the text stands a line feed that has so many before it
pub record IsFeedBehind (text : List ℕ) (count at : ℕ) : Type 0 where
  pub within : at < length text
  pub feed : slice_index_or text at 0 ≡ line_feed
  pub before : line_feeds (take at text) ≡ count
