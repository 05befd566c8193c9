-- Each data set lies on at most as many volumes as it may.
use Rattle.std.proofs.Common.{◌≡◌, ◌≤◌, List, [], sym, subst, arith, inr}
use Rattle.std.specs.Prelude.{Some}
use Rattle.sms_construct.specs.declared.data_set.DataSet.{DataSet}
use Rattle.sms_construct.specs.declared.volume.VolumeDef.{VolumeDef}
use Rattle.track_ledger.specs.declared.piece.Piece.{Piece}
use Rattle.desk_law.specs.State.{DeskState}
use Rattle.desk_law.specs.Extents.{extents_at}
use Rattle.desk_law.specs.Extension.{extended, last_volume}
use Rattle.desk_law.specs.Releasing.{tracks_kept}
use Rattle.desk_law.specs.Lawful.{IsSpread}
use Rattle.desk_law.proofs.EachLemmas.{StaysWith}
use Rattle.desk_law.proofs.FrontLemmas.{front-spread}
use Rattle.desk_law.proofs.GrantLemmas.{last-is}
use Rattle.desk_law.proofs.SpreadLemmas.{spread-more, spread-one, spread-same}

last-spread : (s : DeskState) (set : DataSet) (volume : VolumeDef) (pieces : List Piece) → last_volume s set.extents ≡ Some volume → IsSpread set → IsSpread (extended set (extents_at volume.volser pieces))
last-spread s set volume pieces last spread =
    subst (λ n. n ≤ set.volumes) (sym (spread-same volume.volser pieces set.extents [] (inr (last-is s set.extents volume last).0))) spread

pub spread-stays : StaysWith IsSpread
spread-stays = record {
  new = λ s alloc wish volume pieces lawful is granted.
      let some = is.volumes in omega (arith, some, spread-one volume.volser pieces []);
  used = λ set tracks spread. spread;
  kept = λ set spread. omega (arith, spread, front-spread (tracks_kept set) set.extents []);
  last = λ s set volume pieces last spread. last-spread s set volume pieces last spread;
  further = λ s set volume pieces fewer spread. omega (arith, fewer, spread-more volume.volser pieces set.extents []);
}
