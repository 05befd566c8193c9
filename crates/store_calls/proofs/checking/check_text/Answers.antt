use Rattle.std.proofs.Common.{[], ◌++◌, ◌∙◌, None, ap, subst}
use Rattle.desk_restoring.specs.Opened.{opening_of}
use Rattle.sms_construct.specs.declared.request.Request.{Request}
use Rattle.sms_core.specs.Core.{Enters}
use Rattle.store_calls.specs.Checked.{lines_text}
use Rattle.store_calls.proofs.checking.check_text.Goals as goal

pub returns : goal.returns
returns c =
    let asked = c.in_ok-request.ensures in
    let answered = c.in_ok-answer.ensures in
    let answer = c.in_ok-answer.answer in
    record {
      number = c.in_ok-request.request.number;
      free = asked.free;
      answer = answer;
      journal = answered.0;
      enters = subst (λ (r : Request). Enters (opening_of c.args.rows c.args.config) [] answered.0 None None 0 0 r answer) asked.request answered.1;
      good_is = c.is_activated.ensures;
      changed = c.in_ok-request.changes.items;
      difference = asked.changes;
      text_is = c.in_ok-text.ensures ∙ ap (λ told. lines_text answer ++ told) c.deref.ensures.value;
    }
