use Rattle.std.proofs.Common.{◌≡◌, true, false, sym, ap, ◌∙◌}
use Rattle.sms_keeper.specs.Log.{floor_in}
use Rattle.desk_law.specs.Kept.{is_fault}
use Rattle.desk_records.proofs.EffectLemmas.{kept-no_fault}
use Rattle.desk_records.proofs.TiedLemmas.{tied-lawful}
use Rattle.sms_core.proofs.CoreLemmas.{if-ok, unmade-behind}
use Rattle.sms_core.proofs.DeedLemmas.{fits-same, possible-same}
use Rattle.sms_core.proofs.ToldLemmas.{told_self}
use Rattle.sms_core.proofs.preparing.prepare_fresh.Goals as goal

pub carry_out-requires-clause-suits : goal.carry_out-requires-clause-suits
carry_out-requires-clause-suits g c =
    let there = c.requires.state in
    (c.in_ok-decision.ensures.decided there.state (λ job. floor_in job c.args.records.now.log.floors) there.lawful there.stands c.old_floor-old.ensures).suits

pub carry_out-requires-clause-possible : goal.carry_out-requires-clause-possible
carry_out-requires-clause-possible g c = possible-same c.decide.new.self c.reserve.new.self c.in_ok-decision.decision.deed c.reserve.ensures.volumes c.reserve.ensures.sets c.in_ok-decision.ensures.possible

pub returns-clause-enters : goal.returns-clause-enters
returns-clause-enters g c = if-ok _ _ c.carry_out.result c.carry_out.ensures.enters (λ made enters o h s mark ready stands.
    let lawful = tied-lawful o h s c.args.records.now.log (g.P.Keeper.told c.args.records.now.keeper) mark (g.P.Keeper.count c.args.records.now.keeper) ready.tied in
    enters o h s mark ready (c.reserve.ensures.same s (c.decide.ensures.same s stands))
    (c.in_ok-decision.ensures.decided s (λ job. floor_in job c.args.records.now.log.floors) lawful stands c.old_floor-old.ensures)
    (fits-same s c.decide.new.self c.reserve.new.self c.in_ok-decision.decision.deed c.reserve.ensures.volumes (c.in_ok-decision.ensures.fits s lawful stands)))

pub returns-clause-cause : goal.returns-clause-cause
returns-clause-cause g c =
    let there = c.requires.state in
    let decided = c.in_ok-decision.ensures.decided there.state (λ job. floor_in job c.args.records.now.log.floors) there.lawful there.stands c.old_floor-old.ensures in
    if-ok _ _ c.carry_out.result c.carry_out.ensures.cause (λ made cause fault. cause fault (λ told.
    let no : true ≡ false = ap is_fault (sym told) ∙ kept-no_fault c.in_ok-decision.decision.reply decided.matches.kept in absurd cc))

pub returns-clause-unmade : goal.returns-clause-unmade
returns-clause-unmade g c = unmade-behind c.args.running.now c.reserve.new.self _ _ _ _ _ _ _ c.carry_out.result (λ s stands. c.reserve.ensures.same s (c.decide.ensures.same s stands)) c.carry_out.ensures.unmade

pub returns-in_err-decision-clause-told : goal.returns-in_err-decision-clause-told
returns-in_err-decision-clause-told g c = told_self (g.P.Keeper.told c.args.records.now.keeper)

pub returns-in_err-reserve-clause-told : goal.returns-in_err-reserve-clause-told
returns-in_err-reserve-clause-told g c = told_self (g.P.Keeper.told c.args.records.now.keeper)
