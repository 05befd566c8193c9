use Rattle.std.proofs.Common.{◌≡◌, ◌<◌, ◌++◌, ◌∷◌, [], List, drop, length, take, ℕ, ◌+◌, ◌∙◌, arith, sym, subst, ap}
use Rattle.std.proofs.lemmas.List.{append-nil, append_assoc}
use Rattle.sms_volumes.specs.Inner.Leading.{Leads, candidates_among}
use Rattle.sms_volumes.specs.declared.active_volume.ActiveVolume.{ActiveVolume}
use Rattle.sms_volumes.proofs.LeadLemmas.{at-place, lead-first, part-more, part-none, part-rest}
use Rattle.sms_volumes.proofs.RankLemmas.{first-is}
use Rattle.sms_volumes.proofs.active_volumes.ActiveVolumes.look_over.Goals as goal

pub loop-place-init : goal.loop-place-init
loop-place-init c = λ s seen lawful are leads.
    let running = c.args.self.now in
    let same : seen ++ drop c.args.from (take c.args.from running.volumes.items) ≡ seen = ap (λ (l : List ActiveVolume). seen ++ l) (part-none c.args.from running.volumes.items) ∙ append-nil seen in
    subst (λ (l : List ActiveVolume). Leads s running (candidates_among c.args.candidates.now l) c.args.asked.now c.args.lead.now) (sym same) leads

pub loop-place-preserved : goal.loop-place-preserved
loop-place-preserved c = λ s seen lawful are leads.
    let running = c.args.self.now in
    let volumes = running.volumes.items in
    let place = c.loop-place.place in
    let within : place < length volumes = omega (arith, c.loop-place-test.true, c.requires.to) in
    let v = at-place volumes place within in
    let before = drop c.args.from (take place volumes) in
    let same : (seen ++ before) ++ v.value ∷ [] ≡ seen ++ drop c.args.from (take (place + 1) volumes) =
    append_assoc seen before (v.value ∷ []) ∙ ap (λ (l : List ActiveVolume). seen ++ l) (sym (part-more volumes c.args.from place v.value c.loop-place.auto.place within v.there)) in
    subst (λ (l : List ActiveVolume). Leads s running (candidates_among c.args.candidates.now l) c.args.asked.now c.look_at.new.lead) same
    (c.look_at.ensures s (seen ++ before) v.value lawful are v.there (c.loop-place.invariant s seen lawful are leads))

pub returns-then-is_first : goal.returns-then-is_first
returns-then-is_first c = λ s seen lawful are leads.
    let running = c.args.self.now in
    let volumes = running.volumes.items in
    let place = c.loop-place.place in
    let lead = c.loop-place.lead in
    let both = first-is lead.rank lead.tier (sym c.if-is_first.ensures) in
    let before = drop c.args.from (take place volumes) in
    let more = drop place (take c.args.to volumes) in
    let same : (seen ++ before) ++ more ≡ seen ++ drop c.args.from (take c.args.to volumes) =
    append_assoc seen before more
    ∙ ap (λ (l : List ActiveVolume). seen ++ l) (sym (part-rest volumes c.args.from place c.args.to c.loop-place.auto.place (omega (arith, c.loop-place-test.true)) c.requires.to)) in
    subst (λ (l : List ActiveVolume). Leads s running (candidates_among c.args.candidates.now l) c.args.asked.now lead) same
    (lead-first s running c.args.asked.now c.args.candidates.now lead (seen ++ before) more both.0 both.1 (c.loop-place.invariant s seen lawful are leads))

pub returns : goal.returns
returns c = λ s seen lawful are leads.
    let running = c.args.self.now in
    let end : c.loop-place.place ≡ c.args.to = omega (arith, c.loop-place-test.false, c.loop-place.auto.place-end c.requires.from) in
    subst (λ (n : ℕ). Leads s running (candidates_among c.args.candidates.now (seen ++ drop c.args.from (take n running.volumes.items))) c.args.asked.now c.loop-place.lead) end
    (c.loop-place.invariant s seen lawful are leads)
