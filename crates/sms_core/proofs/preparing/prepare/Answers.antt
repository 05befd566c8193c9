use Rattle.std.proofs.Common.{◌≡◌, true, false, refl, sym, ap, ◌∙◌}
use Rattle.sms_construct.specs.declared.entry.Entry.{Entry}
use Rattle.sms_construct.specs.declared.reply.Reply.TheVariants.{KeeperFault}
use Rattle.desk_law.specs.Kept.{is_fault}
use Rattle.desk_records.specs.Recall.{Recalls}
use Rattle.desk_records.proofs.StepLemmas.{quiet-step}
use Rattle.sms_core.proofs.CoreLemmas.{if-ok}
use Rattle.sms_core.proofs.FreshLemmas.{recalled-entered}
use Rattle.sms_core.proofs.ToldLemmas.{told_self}
use Rattle.sms_core.proofs.preparing.prepare.Goals as goal

pub returns-in-Some-clause-enters : goal.returns-in-Some-clause-enters
returns-in-Some-clause-enters g c =
    let answer = c.in-Some.answer in
    let known : Recalls c.args.records.now.log c.args.request.now answer = rw c.in-Some.is at c.in_ok-answer.ensures.known in
    let there : answer.place ≡ c.args.place = rw c.in-Some.is at c.in_ok-answer.ensures.place in
    if-ok _ _ c.recalled.result c.recalled.ensures.entry (λ made is o h s mark ready stands.
    rw is (recalled-entered o h s c.args.records.now.log (g.P.Keeper.told c.args.records.now.keeper) mark (g.P.Keeper.count c.args.records.now.keeper) c.args.place c.args.request.now answer c.args.running.now ready known there stands))

pub returns-in-Some-clause-cause : goal.returns-in-Some-clause-cause
returns-in-Some-clause-cause g c =
    let answer = c.in-Some.answer in
    let known : Recalls c.args.records.now.log c.args.request.now answer = rw c.in-Some.is at c.in_ok-answer.ensures.known in
    let there : answer.place ≡ c.args.place = rw c.in-Some.is at c.in_ok-answer.ensures.place in
    if-ok _ _ c.recalled.result c.recalled.ensures.entry (λ made is o h s mark ready fault.
    let quiet = quiet-step o h s c.args.records.now.log (g.P.Keeper.told c.args.records.now.keeper) mark (g.P.Keeper.count c.args.records.now.keeper) c.args.place c.args.request.now c.args.request.now answer answer ready known there refl refl in
    let told : answer.reply ≡ KeeperFault = ap (λ (e : Entry). e.answer.reply) (sym is) ∙ fault in
    let no : true ≡ false = ap is_fault (sym told) ∙ quiet.no_fault in
    absurd cc)

pub returns-in-Some-clause-told : goal.returns-in-Some-clause-told
returns-in-Some-clause-told g c = told_self (g.P.Keeper.told c.args.records.now.keeper)

pub returns-in_err-answer-clause-told : goal.returns-in_err-answer-clause-told
returns-in_err-answer-clause-told g c = told_self (g.P.Keeper.told c.args.records.now.keeper)
