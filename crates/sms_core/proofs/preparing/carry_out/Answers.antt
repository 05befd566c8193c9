use Rattle.std.proofs.Common.{refl, ap, ◌∙◌}
use Rattle.sms_construct.specs.declared.entry.Entry.{Entry}
use Rattle.desk_records.specs.Logged.{IsDone, IsUntouched}
use Rattle.desk_records.proofs.TiedLemmas.{tied-lawful}
use Rattle.desk_state.specs.Deeds.{effect_of}
use Rattle.sms_core.proofs.CoreLemmas.{on-err, unmade-self}
use Rattle.sms_core.proofs.FreshLemmas.{failed-entered, made-entered}
use Rattle.sms_core.proofs.ToldLemmas.{told_applies, told_self, told_stays}
use Rattle.sms_core.proofs.preparing.carry_out.Goals as goal

pub commit-requires-clause-suits : goal.commit-requires-clause-suits
commit-requires-clause-suits g c = rw c.in_ok-change.ensures c.requires.suits

pub returns-then-branch-clause-enters : goal.returns-then-branch-clause-enters
returns-then-branch-clause-enters g c = λ o h s mark ready stands decided fits.
    let done : IsDone (record { place = c.args.place; request = c.args.request.now; reply = c.args.decision.reply; effect = effect_of c.args.decision.deed })
    (g.P.Keeper.told c.args.records.now.keeper) (g.P.Keeper.told c.commit.new.self.keeper) c.args.records.now.log c.commit.new.self.log
    = rw (c.if-branch.true, c.in_ok-change.ensures) at c.in_ok-commit.ensures.done in
    rw c.in_ok-made.ensures.entry
    (made-entered o h s c.args.records.now.log c.commit.new.self.log (g.P.Keeper.told c.args.records.now.keeper) (g.P.Keeper.told c.commit.new.self.keeper) mark _ _ c.args.place
    c.args.request.now c.args.request.now c.args.request.now c.args.decision.reply c.args.decision.reply (effect_of c.args.decision.deed) c.args.decision.deed c.apply.new.self
    ready c.requires.unknown decided refl refl refl refl done c.commit.ensures.rises
    (c.apply.ensures s (tied-lawful o h s c.args.records.now.log (g.P.Keeper.told c.args.records.now.keeper) mark _ ready.tied) stands fits))

pub returns-clause-enters : goal.returns-clause-enters
returns-clause-enters g c = λ o h s mark ready stands decided fits.
    let same : IsUntouched (g.P.Keeper.told c.args.records.now.keeper) (g.P.Keeper.told c.commit.new.self.keeper) c.args.records.now.log c.commit.new.self.log
    = rw c.if-branch.false at c.in_ok-commit.ensures.done in
    rw c.failed.ensures.entry
    (failed-entered o h s c.args.records.now.log c.commit.new.self.log (g.P.Keeper.told c.args.records.now.keeper) (g.P.Keeper.told c.commit.new.self.keeper) mark _ _ c.args.place
    c.args.request.now c.in_ok-made.made.entry.request c.args.running.now ready c.requires.unknown (ap (λ (e : Entry). e.request) c.in_ok-made.ensures.entry) same (c.in_ok-commit.ensures.cause c.if-branch.false) stands)

pub returns-then-branch-clause-made : goal.returns-then-branch-clause-made
returns-then-branch-clause-made g c = record { request_is = ap (λ (e : Entry). e.request) c.in_ok-made.ensures.entry; answer_is = c.in_ok-made.ensures.answer; stands = λ _. c.in_ok-commit.ensures.stands c.if-branch.true }

pub returns-clause-made : goal.returns-clause-made
returns-clause-made g c = record {
  request_is = ap (λ (e : Entry). e.request) c.failed.ensures.entry ∙ ap (λ (e : Entry). e.request) c.in_ok-made.ensures.entry;
  answer_is = c.failed.ensures.answer;
  stands = λ other. absurd (other (ap (λ (e : Entry). e.answer.reply) c.failed.ensures.entry));
}

pub returns-in_err-made-clause-unmade : goal.returns-in_err-made-clause-unmade
returns-in_err-made-clause-unmade g c = on-err _ c.from_residual.result (unmade-self c.args.running.now c.args.records.now.log (g.P.Keeper.told c.args.records.now.keeper) (g.P.Keeper.count c.args.records.now.keeper))

pub returns-in_err-change-clause-unmade : goal.returns-in_err-change-clause-unmade
returns-in_err-change-clause-unmade g c = on-err _ c.from_residual-in_err-change.result (unmade-self c.args.running.now c.args.records.now.log (g.P.Keeper.told c.args.records.now.keeper) (g.P.Keeper.count c.args.records.now.keeper))

pub returns-then-branch-clause-told : goal.returns-then-branch-clause-told
returns-then-branch-clause-told g c =
    let done : IsDone c.in_ok-change.change (g.P.Keeper.told c.args.records.now.keeper) (g.P.Keeper.told c.commit.new.self.keeper) c.args.records.now.log c.commit.new.self.log
    = rw c.if-branch.true at c.in_ok-commit.ensures.done in
    told_applies c.in_ok-change.change (g.P.Keeper.told c.args.records.now.keeper) (g.P.Keeper.told c.commit.new.self.keeper) done.applies

pub returns-clause-told : goal.returns-clause-told
returns-clause-told g c =
    let same : IsUntouched (g.P.Keeper.told c.args.records.now.keeper) (g.P.Keeper.told c.commit.new.self.keeper) c.args.records.now.log c.commit.new.self.log
    = rw c.if-branch.false at c.in_ok-commit.ensures.done in
    told_stays (g.P.Keeper.told c.args.records.now.keeper) (g.P.Keeper.told c.commit.new.self.keeper) same.stays

pub returns-in_err-made-clause-told : goal.returns-in_err-made-clause-told
returns-in_err-made-clause-told g c = told_self (g.P.Keeper.told c.args.records.now.keeper)

pub returns-in_err-change-clause-told : goal.returns-in_err-change-clause-told
returns-in_err-change-clause-told g c = told_self (g.P.Keeper.told c.args.records.now.keeper)

pub returns-in_err-commit-clause-told : goal.returns-in_err-commit-clause-told
returns-in_err-commit-clause-told g c = told_stays (g.P.Keeper.told c.args.records.now.keeper) (g.P.Keeper.told c.commit.new.self.keeper) c.in_err-commit.ensures.err.stays
