-- The core is opened from the tables of the keeper.
use Rattle.std.proofs.Common.{◌≡◌, ◌∙◌, [], refl, sym, true}
use Rattle.page_clerk.specs.Filling.{has_room_behind}
use Rattle.sms_core.specs.Core.{CoreView}
use Rattle.smsd_serving.specs.Epochs.{IsOpenedBehind}
use Rattle.smsd_serving.proofs.keeping.open_clerk.Goals as goal

pub returns-in-Ok-clause-start : goal.returns-in-Ok-clause-start
returns-in-Ok-clause-start g c =
    let opened = c.in-Ok.ensures in
    let own : IsOpenedBehind g.P.Keeper.told g.P.Keeper.count c.args.keeper c.args.place c.in-Ok.core = record { kept = opened.kept; stands = opened.stands; opened = opened.opened; new = opened.journal; mark = opened.mark ∙ sym opened.stands } in
    rw c.new.ensures.start own

pub returns-in-Ok-clause-roomy : goal.returns-in-Ok-clause-roomy
returns-in-Ok-clause-roomy g c =
    let own : has_room_behind c.in-Ok.core.journal [] ≡ true = rw c.in-Ok.ensures.journal refl in
    rw (c.new.ensures.start, c.new.ensures.talks) own

pub returns-in-Err-clause-unopened : goal.returns-in-Err-clause-unopened
returns-in-Err-clause-unopened g c =
    let refused = c.in-Err.ensures in
    record { names = refused.refused; own = refused.own; kept = refused.left; cause = refused.cause }
