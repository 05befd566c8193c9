use Rattle.std.proofs.Common.{◌∙◌, sym}
use Rattle.std.specs.Prelude.{Option, bytes_eq, ◌&&◌, not, filter}
use Rattle.sms_construct.specs.declared.volume.VolumeDef.{VolumeDef}
use Rattle.desk_law.specs.Extension.{ask_more, first_volume, others_of}
use Rattle.desk_law.specs.Extents.{is_used}
use Rattle.desk_law.specs.Lawful.{IsLawful}
use Rattle.desk_law.specs.State.{DeskState}
use Rattle.desk_law.specs.Volumes.{volumes_in}
use Rattle.sms_volumes.specs.Asking.{ask_of}
use Rattle.desk_state.specs.Inner.Granting.{IsGrantAmong}
use Rattle.desk_state.specs.Standing.{IsRunning}
use Rattle.desk_state.specs.declared.grant.Grant.{Grant}
use Rattle.desk_state.proofs.ExtensionLemmas.{beside-granted}
use Rattle.desk_state.proofs.OkLemmas.{on-ok}
use Rattle.desk_state.proofs.running.Running.growth_beside.Goals as goal

pub returns-clause-chosen : goal.returns-clause-chosen
returns-clause-chosen c =
    let set = c.args.set.now in
    let es = c.as_slice-extents.result.now in
    let ask = ask_of c.asked_more.result in
    on-ok
    (λ (found : Option Grant). (s : DeskState) → IsLawful s → IsRunning s c.args.self.now → IsGrantAmong s (filter (λ (v : VolumeDef). bytes_eq v.group c.in-Some.group && not (is_used v.volser es)) (volumes_in s.active)) ask found)
    (λ (found : Option Grant). (s : DeskState) → IsLawful s → IsRunning s c.args.self.now → IsGrantAmong s (others_of s set (first_volume s set.extents)) (ask_more set) found)
    c.grant_among.result
    (λ found among. λ s lawful is. beside-granted s set c.in-Some.group es ask found c.as_slice-extents.ensures c.asked_more.ensures.value (sym c.in-Some.is ∙ c.first_group.ensures s is) (among s lawful is))
    c.grant_among.ensures.chosen
