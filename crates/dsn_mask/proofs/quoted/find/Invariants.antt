use Rattle.std.proofs.Common.{◌≡◌, length, map, bytes_eq}
use Rattle.std.specs.List.{list_any}
use Rattle.dsn_mask.specs.Quoted.{text_at}
use Rattle.dsn_mask.proofs.Halving.{Halved, Rises}
use Rattle.dsn_mask.proofs.quoted.find.Given as goal

abbrev pub invariant-loop-rest : goal.invariant-loop-rest
invariant-loop-rest g l = record {
  found : list_any (λ text. bytes_eq text l.value) (map (text_at l.entries) l.places) ≡ list_any (λ text. bytes_eq text l.value) (map (text_at l.entries) l.rest);
  rises : Rises l.value (map (text_at l.entries) l.rest);
  halved : Halved l.initial.steps l.steps (length l.rest) (length l.places);
}

abbrev pub decreases-loop-rest : goal.decreases-loop-rest
decreases-loop-rest g l = length l.rest
