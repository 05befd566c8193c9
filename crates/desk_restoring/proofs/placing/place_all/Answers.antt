use Rattle.std.proofs.Common.{◌≡◌, ◌+◌, ◌∙◌, ◌∷◌, ◌++◌, [], ap, drop, subst, sym, take}
use Rattle.std.proofs.lemmas.List.{take-append-drop, take_all}
use Rattle.sms_construct.specs.declared.data_set.DataSet.{DataSet}
use Rattle.desk_law.specs.State.{DeskState}
use Rattle.sms_volumes.specs.Holding.{AreVolumesOf}
use Rattle.desk_restoring.specs.Inner.Placing.{CanPlace}
use Rattle.desk_restoring.specs.Inner.Replaying.{with_sets}
use Rattle.desk_restoring.proofs.ListLemmas.{take-next}
use Rattle.desk_restoring.proofs.PartLemmas.{lawful-front}
use Rattle.desk_restoring.proofs.placing.place_all.Goals as goal

pub place-requires : goal.place-requires
place-requires c =
    let sets = c.args.sets.now in
    let i = c.loop-set.set-index in
    let set = c.set-item.result in
    let can = c.requires in
    subst (λ (d : DataSet). CanPlace d c.loop-set.volumes) (sym c.get.ensures) (record {
      state = with_sets can.state (take (i + 1) sets);
      front = take i sets;
      lawful = lawful-front can.state (take (i + 1) sets) (drop (i + 1) sets) can.lawful (can.sets_are ∙ sym (take-append-drop (i + 1) sets));
      sets_are = take-next sets i set c.loop-set-test.true c.set-item.is;
      stand = c.loop-set.invariant can.state can.lawful can.sets_are can.stand;
    })

pub loop-set-preserved : goal.loop-set-preserved
loop-set-preserved c = λ s lawful is are.
    let sets = c.args.sets.now in
    let i = c.loop-set.set-index in
    let set = c.set-item.result in
    let last : take (i + 1) sets ≡ take i sets ++ c.get.result.now ∷ [] =
    take-next sets i set c.loop-set-test.true c.set-item.is ∙ ap (λ (d : DataSet). take i sets ++ d ∷ []) (sym c.get.ensures) in
    c.in_ok-place.ensures (with_sets s (take (i + 1) sets)) (take i sets) (lawful-front s (take (i + 1) sets) (drop (i + 1) sets) lawful (is ∙ sym (take-append-drop (i + 1) sets))) last
    (c.loop-set.invariant s lawful is are)

pub returns : goal.returns
returns c = λ s lawful is are.
    subst (λ (t : DeskState). AreVolumesOf t c.loop-set.volumes) (ap (with_sets s) (take_all c.loop-set.set-index c.args.sets.now c.loop-set-test.false ∙ sym is)) (c.loop-set.invariant s lawful is are)
