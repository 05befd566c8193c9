use Rattle.std.proofs.Common.{◌∙◌}
use Rattle.desk_calls.specs.Headline.{seen_keeper}
use Rattle.store_calls.proofs.DayLemmas.{cut_day, free_unused, recorded_day, whole_day}
use Rattle.store_calls.proofs.managing.do_day.Goals as goal

pub run_day_from-acts-requires : goal.run_day_from-acts-requires
run_day_from-acts-requires g c = free_unused c.args.core.opening c.args.core.journal c.args.first c.requires.journal c.requires.free

pub returns-clause-done : goal.returns-clause-done
returns-clause-done g c =
    let day = c.run_day_from-acts.ensures in
    let closed = c.into_parts-keeper.ensures in
    let seen = seen_keeper g.P.Keeper.told g.P.Keeper.count in
    rw closed.keeper (whole_day c.args.core.opening c.args.day (seen c.args.core.keeper) (seen c.run_day_from-acts.new.core.keeper) c.run_day_from-acts.result c.args.first c.args.core.journal c.run_day_from-acts.new.core.journal
    c.requires.free c.requires.journal day.asking
    (recorded_day _ _ _ _ _ _ _ day.opening c.journal-journal.ensures.sound (day.mark ∙ c.requires.mark) closed.legal closed.counted closed.tables c.legal_is_lawful.ensures) day.managed)

pub returns-clause-cut : goal.returns-clause-cut
returns-clause-cut g c =
    let day = c.run_day_from-acts.ensures in
    let closed = c.into_parts-keeper.ensures in
    let seen = seen_keeper g.P.Keeper.told g.P.Keeper.count in
    rw closed.keeper (cut_day c.args.core.opening c.args.day (seen c.args.core.keeper) (seen c.run_day_from-acts.new.core.keeper) c.run_day_from-acts.result c.args.first c.args.core.journal c.run_day_from-acts.new.core.journal
    c.requires.free c.requires.journal day.asking
    (recorded_day _ _ _ _ _ _ _ day.opening c.journal-journal.ensures.sound (day.mark ∙ c.requires.mark) closed.legal closed.counted closed.tables c.legal_is_lawful.ensures) day.begun)
