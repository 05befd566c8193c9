-- Two neighbours: the key belongs to the second where that begins by it, else to the first.
use Rattle.std.proofs.Common.{◌≡◌, ◌<◌, List, [], ◌++◌, length, true, false, Ordering, sym, subst, append-nil}
use Rattle.std.specs.Cmp.{IsTotalOrder}
use Rattle.ordered_index.specs.Rows.{AreRows}
use Rattle.ordered_index.specs.Chunks.{AreBefore, AreBehind, starts_by}
use Rattle.ordered_index.proofs.ChunkLemmas.{before-first, behind-first, sorted-right}

module _ {K V : Type 0} {R : K → K → Ordering} (total : IsTotalOrder R) (k : K) (front behind : List (K × V)) (sorted : AreRows R (front ++ behind)) where
  pub front-before : starts_by R k behind ≡ true → AreBefore R k front
  front-before starts = before-first total k front behind [] (subst (λ l. AreRows R (front ++ l)) (sym (append-nil behind)) sorted) starts

  pub back-behind : 0 < length behind → starts_by R k behind ≡ false → AreBehind R k behind
  back-behind some starts =
      subst (AreBehind R k) (append-nil behind) (behind-first total k behind [] some (subst (AreRows R) (sym (append-nil behind)) (sorted-right R front behind sorted)) starts)
