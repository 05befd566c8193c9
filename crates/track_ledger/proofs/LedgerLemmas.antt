-- What is known of a ledger, whatever pieces it stands for.
use Rattle.std.proofs.Common.{◌≡◌, ◌≤◌, ℕ, List, ◌++◌, sym, ap, ◌∙◌, subst, arith}
use Rattle.std.specs.Prelude.{IfSome, None, Option, Some, length, option_map}
use Rattle.std.specs.List.{All}
use Rattle.desk_common.specs.Limits.{most_pieces}
use Rattle.track_ledger.specs.declared.need.Need.{Need}
use Rattle.track_ledger.specs.declared.piece.Piece.{Piece}
use Rattle.track_ledger.specs.Extents.{AreAlike, LieInGaps, LiesInside, NoTrackTwice}
use Rattle.track_ledger.specs.Gaps.{gaps_of}
use Rattle.track_ledger.specs.Grants.{IsGrant}
use Rattle.track_ledger.specs.Ledger.{IsLedgerOf, LedgerView}
use Rattle.track_ledger.specs.Need.{grant_beside, granted_for}
use Rattle.track_ledger.proofs.AlikeLemmas.{beside-alike, gaps-alike}
use Rattle.track_ledger.proofs.HolderLemmas.{times-append}
use Rattle.track_ledger.proofs.TimesLemmas.{from-gaps, into-gaps, runs-held}

-- other pieces that hold each track as often, and are as many
pub ledger-alike : (held others : List Piece) (ledger : LedgerView) → IsLedgerOf held ledger → AreAlike held others → All (LiesInside ledger.capacity) others → IsLedgerOf others ledger
ledger-alike held others ledger is alike inside = record {
  inside = inside;
  once = λ t. subst (λ n. n ≤ 1) (alike.times t) (is.once t);
  gaps = is.gaps ∙ gaps-alike ledger.capacity others held alike.times;
  extents = is.extents ∙ alike.count;
}

-- what it grants is what is granted beside them
pub ledger-grants : (held : List Piece) (ledger : LedgerView) (need : Need) → IsLedgerOf held ledger → granted_for ledger need ≡ grant_beside ledger.capacity held need
ledger-grants held ledger need is =
    ap (λ (l : List Piece). grant_beside ledger.capacity (gaps_of ledger.capacity l) need) is.gaps
    ∙ beside-alike ledger.capacity held (gaps_of ledger.capacity (gaps_of ledger.capacity held)) need (λ t. runs-held ledger.capacity held t is.once is.inside)

-- pieces in its gaps hold no track that is held
pub ledger-into : (held pieces : List Piece) (ledger : LedgerView) → IsLedgerOf held ledger → All (LiesInside ledger.capacity) pieces → NoTrackTwice (held ++ pieces) → LieInGaps ledger.gaps pieces
ledger-into held pieces ledger is inside both = subst (λ (l : List Piece). LieInGaps l pieces) (sym is.gaps) (into-gaps ledger.capacity held pieces is.once inside both)

pub ledger-from : (held pieces : List Piece) (ledger : LedgerView) → IsLedgerOf held ledger → LieInGaps ledger.gaps pieces → NoTrackTwice (held ++ pieces)
ledger-from held pieces ledger is in_gaps = from-gaps ledger.capacity held pieces is.once (subst (λ (l : List Piece). LieInGaps l pieces) is.gaps in_gaps)

-- a grant lies in the gaps, and has few pieces
pub grant-lies : (held pieces : List Piece) (ledger : LedgerView) (need : Need) → IsLedgerOf held ledger → IsGrant ledger.capacity held need pieces → LieInGaps ledger.gaps pieces
grant-lies held pieces ledger need is grant = ledger-into held pieces ledger is grant.inside (λ t. omega (arith, grant.once t, times-append held pieces t))

pub grant-few : (capacity : ℕ) (held pieces : List Piece) (need : Need) → IsGrant capacity held need pieces → length pieces ≤ most_pieces
grant-few capacity held pieces need grant = omega (arith, grant.few)

-- what holds of the pieces that are found holds of the list that is answered
pub if-granted : {V : Type 0} (items : V → List Piece) (answer : Option V) (found : Option (List Piece)) (P : List Piece → Type 0) → option_map items answer ≡ found
    → ((pieces : List Piece) → found ≡ Some pieces → P pieces) → IfSome answer (λ v. P (items v))
if-granted items None found P is all = tt
if-granted items (Some v) found P is all = all (items v) (sym is)
