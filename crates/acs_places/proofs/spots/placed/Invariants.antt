use Rattle.std.proofs.Common.{◌≡◌, ◌≤◌, take, drop, length, map}
use Rattle.acs_lex.specs.Tokens.{InOrder}
use Rattle.acs_places.specs.Places.{place_in, spot_of}
use Rattle.acs_places.proofs.spots.placed.Given as goal

abbrev pub invariant-loop-token : goal.invariant-loop-token
invariant-loop-token l = record {
  order : InOrder l.at (length l.text) (drop l.token-index l.tokens);
  place : l.place ≡ place_in l.text l.at;
  spots : l.spots ≡ map (spot_of l.text) (take l.token-index l.tokens);
}
