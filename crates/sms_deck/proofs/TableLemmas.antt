-- A map of values beside the members that it stands for.
use Rattle.std.proofs.Common.{◌≡◌, List, [], ◌∷◌, length, refl, arith}
use Rattle.toml.specs.View.{members_view}
use Rattle.toml.proofs.Views.{Entry}
use Rattle.deck_meaning.specs.Layout.{key_count}

-- a table has as many keys as its map has entries
pub key_count-view : (es : List Entry) → length es ≡ key_count (members_view es)
key_count-view [] = refl
key_count-view (e ∷ es) = omega (arith, key_count-view es)
