use Rattle.std.proofs.Common.{◌≡◌, ◌++◌, ◌∷◌, [], ◌∙◌, ℕ, arith, ap, refl, subst, sym}
use Rattle.std.specs.Prelude.{None, Some}
use Rattle.track_ledger.specs.Need.{IsNeed}
use Rattle.volume_lists.specs.Choice.{comes_before, rank_of}
use Rattle.volume_lists.specs.Listing.{listing_of}
use Rattle.desk_law.specs.Candidates.{want_of}
use Rattle.sms_volumes.specs.Asking.{ask_of}
use Rattle.sms_volumes.specs.Inner.Leading.{Leads, candidates_among}
use Rattle.sms_volumes.specs.declared.active_volume.ActiveVolume.{ActiveVolume}
use Rattle.sms_volumes.proofs.LeadLemmas.{lead-behind, lead-full, lead-past, lead-taken}
use Rattle.sms_volumes.proofs.RunningLemmas.{same-at, there-in, there-is}
use Rattle.sms_volumes.proofs.ViewLemmas.{granted-at, needed-at, seen-at}
use Rattle.sms_volumes.proofs.active_volumes.ActiveVolumes.look_at.Goals as goal

pub returns-then-not-has : goal.returns-then-not-has
returns-then-not-has c = λ s looked volume lawful are stands leads.
    let running = c.args.self.now in
    let candidates = c.args.candidates.now in
    let v = c.index-volume.result.now in
    subst (λ (x : ActiveVolume). Leads s running (candidates_among candidates (looked ++ x ∷ [])) c.args.asked.now c.args.lead.now)
    (same-at running.volumes.items c.args.place volume v stands c.index-volume.ensures)
    (lead-past s running c.args.asked.now c.args.lead.now candidates looked v (sym c.if-not-has.ensures) leads)

pub plan-requires : goal.plan-requires
plan-requires c =
    let running = c.args.self.now in
    let stand = c.requires.stand in
    let v = c.index-volume.result.now in
    let group = c.in-Some.group.now in
    let look = c.in-Some.ensures.lookup in
    subst IsNeed (sym c.need.ensures)
    (needed-at stand.state running c.args.asked.now c.args.place v group stand.stand (there-is running.volumes.items c.args.place v c.requires.place c.index-volume.ensures)
    (there-in running.groups.items c.deref.result.now v.group group c.deref.ensures.value look.3.0 look.1) 0 stand.lawful c.requires.asked (omega arith))

pub returns-then-not-comes_before : goal.returns-then-not-comes_before
returns-then-not-comes_before c = λ s looked volume lawful are stands leads.
    let running = c.args.self.now in
    let candidates = c.args.candidates.now in
    let asked = c.args.asked.now in
    let lead = c.args.lead.now in
    let v = c.index-volume.result.now in
    let group = c.in-Some.group.now in
    let look = c.in-Some.ensures.lookup in
    let view = c.view-view.result in
    let at = there-is running.volumes.items c.args.place v c.requires.place c.index-volume.ensures in
    let there = there-in running.groups.items c.deref.result.now v.group group c.deref.ensures.value look.3.0 look.1 in
    let rank : c.rank-rank.result ≡ rank_of (listing_of view (want_of (ask_of asked))) = c.rank-rank.ensures ∙ ap rank_of (c.listing.ensures ∙ ap (listing_of view) c.want.ensures) in
    subst (λ (x : ActiveVolume). Leads s running (candidates_among candidates (looked ++ x ∷ [])) asked lead)
    (same-at running.volumes.items c.args.place volume v stands c.index-volume.ensures)
    (lead-behind s running asked lead candidates looked v view (sym c.if-not-has.ensures) (c.view-view.ensures ∙ seen-at s running asked c.args.place v group are at there)
    (ap (λ (n : ℕ). comes_before n view.tier lead.rank lead.tier) (sym rank) ∙ sym c.if-not-comes_before.ensures) leads)

pub returns-in_default-plan : goal.returns-in_default-plan
returns-in_default-plan c = λ s looked volume lawful are stands leads.
    let running = c.args.self.now in
    let candidates = c.args.candidates.now in
    let asked = c.args.asked.now in
    let v = c.index-volume.result.now in
    let group = c.in-Some.group.now in
    let look = c.in-Some.ensures.lookup in
    let at = there-is running.volumes.items c.args.place v c.requires.place c.index-volume.ensures in
    let there = there-in running.groups.items c.deref.result.now v.group group c.deref.ensures.value look.3.0 look.1 in
    let granted = granted-at s running asked c.args.place v group are at there 0 c.need.result None c.need.ensures c.in_default-plan.ensures.beside in
    subst (λ (x : ActiveVolume). Leads s running (candidates_among candidates (looked ++ x ∷ [])) asked c.args.lead.now)
    (same-at running.volumes.items c.args.place volume v stands c.index-volume.ensures)
    (lead-full s running asked c.args.lead.now candidates looked v (sym c.if-not-has.ensures) (sym granted) leads)

pub returns : goal.returns
returns c = λ s looked volume lawful are stands leads.
    let running = c.args.self.now in
    let candidates = c.args.candidates.now in
    let asked = c.args.asked.now in
    let lead = c.args.lead.now in
    let v = c.index-volume.result.now in
    let group = c.in-Some.group.now in
    let look = c.in-Some.ensures.lookup in
    let view = c.view-view.result in
    let grant = c.in-Some-plan.grant in
    let at = there-is running.volumes.items c.args.place v c.requires.place c.index-volume.ensures in
    let there = there-in running.groups.items c.deref.result.now v.group group c.deref.ensures.value look.3.0 look.1 in
    let rank : c.rank-rank.result ≡ rank_of (listing_of view (want_of (ask_of asked))) = c.rank-rank.ensures ∙ ap rank_of (c.listing.ensures ∙ ap (listing_of view) c.want.ensures) in
    let granted = granted-at s running asked c.args.place v group are at there 0 c.need.result (Some grant.items) c.need.ensures c.in-Some-plan.ensures.beside in
    let taken = lead-taken s running asked lead candidates looked c.args.place v view (record { place = c.args.place; grant = grant }) at (sym c.if-not-has.ensures)
    (c.view-view.ensures ∙ seen-at s running asked c.args.place v group are at there)
    (ap (λ (n : ℕ). comes_before n view.tier lead.rank lead.tier) (sym rank) ∙ sym c.if-not-comes_before.ensures) refl (sym granted)
    (record { inside = c.in-Some-plan.ensures.inside; free = c.in-Some-plan.ensures.free }) c.in-Some-plan.ensures.few leads in
    let ranked = subst (λ (n : ℕ). Leads s running (candidates_among candidates (looked ++ v ∷ [])) asked (record { pick = Some (record { place = c.args.place; grant = grant }); rank = n; tier = view.tier })) (sym rank) taken in
    subst (λ (x : ActiveVolume). Leads s running (candidates_among candidates (looked ++ x ∷ [])) asked (record { pick = Some (record { place = c.args.place; grant = grant }); rank = c.rank-rank.result; tier = view.tier }))
    (same-at running.volumes.items c.args.place volume v stands c.index-volume.ensures) ranked
