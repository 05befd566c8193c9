use Rattle.std.proofs.Common.{◌≡◌, ◌≤◌, ap, arith, length}
use Rattle.sms_construct.specs.declared.data_set.DataSet.{DataSet}
use Rattle.desk_law.specs.Extents.{front_tracks, tracks_of_set}
use Rattle.desk_law.specs.Releasing.{kept_of, tracks_kept}
use Rattle.desk_state.proofs.ExtentLemmas.{front-length, front-tracks}
use Rattle.desk_state.proofs.data_sets.freed.Goals as goal

pub tracks_of_set-requires-2 : goal.tracks_of_set-requires-2
tracks_of_set-requires-2 c =
    let set = c.args.set.now in
    let same : length c.args.kept.now.extents ≡ length (front_tracks (tracks_kept set) set.extents) = ap (λ (d : DataSet). length d.extents) c.requires.kept in
    omega (arith, same, front-length (tracks_kept set) set.extents, c.requires.few)

pub overflow_sub-result : goal.overflow_sub-result
overflow_sub-result c =
    let set = c.args.set.now in
    let same : tracks_of_set c.args.kept.now ≡ tracks_of_set (kept_of set) = ap tracks_of_set c.requires.kept in
    let less : tracks_of_set (kept_of set) ≤ tracks_of_set set = front-tracks (tracks_kept set) set.extents in
    omega (arith, same, less, c.tracks_of_set.ensures, c.tracks_of_set-2.ensures)
