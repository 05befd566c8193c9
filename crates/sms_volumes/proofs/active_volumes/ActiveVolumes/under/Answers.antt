use Rattle.std.proofs.Common.{◌∙◌, List, ap, map, subst}
use Rattle.std.specs.List.{AllByRecursion}
use Rattle.sms_construct.specs.declared.storage_group.StorGroup.{StorGroup}
use Rattle.sms_construct.specs.declared.volume.VolumeDef.{VolumeDef}
use Rattle.sms_volumes.specs.Inner.Making.{IsMade, next_group}
use Rattle.sms_volumes.proofs.NextLemmas.{all-next}
use Rattle.sms_volumes.proofs.active_volumes.ActiveVolumes.under.Goals as goal

pub returns-clause-next : goal.returns-clause-next
returns-clause-next c = λ s lawful are.
    let running = c.args.self.now in
    let config = c.args.config.now in
    let groups = c.in_ok-next_groups.ensures
    ∙ (ap (λ (l : List VolumeDef). map (next_group running.groups.items l) c.groups.result.now) c.volumes.ensures ∙ ap (map (next_group running.groups.items config.volumes)) c.groups.ensures) in
    all-next s running _ config lawful are c.deck-deck.ensures.form groups (c.in_ok-next_volumes.ensures.same ∙ c.volumes-2.ensures)
    (subst (λ (l : List StorGroup). AllByRecursion (IsMade running.volumes.items l) c.in_ok-next_volumes.field-0.items) c.groups-2.ensures c.in_ok-next_volumes.ensures.made)
