use Rattle.std.proofs.Common.{◌≡◌, ◌++◌, [], List, drop, subst, take, ap, arith}
use Rattle.std.proofs.lemmas.List.{take_all}
use Rattle.sms_volumes.specs.Inner.Leading.{Leads, candidates_among}
use Rattle.sms_volumes.specs.declared.active_volume.ActiveVolume.{ActiveVolume}
use Rattle.sms_volumes.proofs.LeadLemmas.{lead-none, lead-picked, lead-turned, turned-whole}
use Rattle.sms_volumes.proofs.active_volumes.ActiveVolumes.pick_from.Goals as goal

pub returns : goal.returns
returns c = λ s lawful are.
    let running = c.args.self.now in
    let volumes = running.volumes.items in
    let asked = c.args.asked.now in
    let candidates = c.args.candidates.now in
    let start = c.args.start in
    let none = c.none-lead.ensures in
    let begun = lead-none s running asked candidates c.none-lead.result none.pick none.rank none.tier in
    let whole : [] ++ drop start (take c.len.result volumes) ≡ drop start volumes = ap (drop start) (take_all c.len.result volumes (omega (arith, c.len.ensures))) in
    let behind = subst (λ (l : List ActiveVolume). Leads s running (candidates_among candidates l) asked c.look_over.new.lead) whole (c.look_over.ensures s [] lawful are begun) in
    let lead = c.look_over-2.new.lead in
    lead-picked s running asked candidates lead are
    (subst (λ (l : List ActiveVolume). Leads s running (candidates_among candidates l) asked lead) (turned-whole start volumes)
    (lead-turned s running asked candidates lead (drop start volumes) (drop 0 (take start volumes)) (c.look_over-2.ensures s (drop start volumes) lawful are behind)))
