use Rattle.std.proofs.Common.{inr, ◌∙◌}
use Rattle.desk_law.specs.Records.{empty_opening}
use Rattle.sms_manage.proofs.SoFarLemmas.{whole-begun}
use Rattle.manage_calls.proofs.ManagedLemmas.{answered-alone, begun, recorded-whole, unused-behind}
use Rattle.manage_calls.proofs.managing.manage_script.Goals as goal

-- the script asks nothing as the job of space management
pub manage_day-acts-requires : goal.manage_day-acts-requires
manage_day-acts-requires g c =
    let ran = c.run_script-answers.ensures in
    unused-behind c.args.script.now c.in-Ok.answers _ _ _ (ran.opening ∙ c.new.ensures.opening) c.new.ensures.journal (rw c.in-Ok.is at ran.answered) ran.legal c.requires.free

-- the script was answered, and some of the acts may have been asked for
pub returns-in_default-acts-clause-left : goal.returns-in_default-acts-clause-left
returns-in_default-acts-clause-left g c = λ bytes script.
    let ran = c.run_script-answers.ensures in
    let managed = c.manage_day-acts.ensures in
    let closed = c.into_parts-keeper-2.ensures in
    let opening = ran.opening ∙ c.new.ensures.opening in
    inr (begun c.args.script.now c.in-Ok.answers _ _ _ opening c.new.ensures.journal (rw c.in-Ok.is at ran.answered) ran.legal c.new_is_lawful.ensures bytes script c.manage_day-acts.new.core.journal managed.asking c.args.day (rw (c.in_default-acts.is, opening) at managed.begun) _ _
    (rw closed.keeper (recorded-whole _ _ _ _ _ _ (managed.opening ∙ opening) (managed.mark ∙ ran.mark ∙ c.new.ensures.mark) closed.legal closed.counted closed.tables c.new_is_lawful.ensures)))

pub returns-clause-left : goal.returns-clause-left
returns-clause-left g c = λ bytes script.
    let ran = c.run_script-answers.ensures in
    let managed = c.manage_day-acts.ensures in
    let closed = c.into_parts-keeper-2.ensures in
    let opening = ran.opening ∙ c.new.ensures.opening in
    inr (begun c.args.script.now c.in-Ok.answers _ _ _ opening c.new.ensures.journal (rw c.in-Ok.is at ran.answered) ran.legal c.new_is_lawful.ensures bytes script c.manage_day-acts.new.core.journal managed.asking c.args.day (whole-begun 1 empty_opening c.args.day _ _ _ (rw (c.in-Ok-acts.is, opening) at managed.managed)) _ _
    (rw closed.keeper (recorded-whole _ _ _ _ _ _ (managed.opening ∙ opening) (managed.mark ∙ ran.mark ∙ c.new.ensures.mark) closed.legal closed.counted closed.tables c.new_is_lawful.ensures)))

-- the script was answered, and all that was due was asked for
pub returns-in-Ok-text_with_acts-clause-answered : goal.returns-in-Ok-text_with_acts-clause-answered
returns-in-Ok-text_with_acts-clause-answered g c = λ bytes script.
    let ran = c.run_script-answers.ensures in
    let managed = c.manage_day-acts.ensures in
    let closed = c.into_parts-keeper-2.ensures in
    let opening = ran.opening ∙ c.new.ensures.opening in
    record {
      phases = c.args.script.now;
      answers = c.in-Ok.answers;
      history = c.run_script-answers.result.1.journal;
      acts = c.in-Ok-acts.acts;
      script = script;
      printed = rw (c.as_slice.ensures, c.as_slice-2.ensures, c.journal.ensures.entries) at c.in-Ok-text_with_acts.ensures;
      run = record {
        run = answered-alone c.args.script.now c.in-Ok.answers _ _ _ opening c.new.ensures.journal (rw c.in-Ok.is at ran.answered) ran.legal c.new_is_lawful.ensures;
        whole = c.manage_day-acts.new.core.journal;
        managed = rw (c.in-Ok-acts.is, opening) at managed.managed;
        recorded = rw closed.keeper (recorded-whole _ _ _ _ _ _ (managed.opening ∙ opening) (managed.mark ∙ ran.mark ∙ c.new.ensures.mark) closed.legal closed.counted closed.tables c.new_is_lawful.ensures);
      };
    }
