use Rattle.std.proofs.Common.{◌++◌, ap, ◌∙◌}
use Rattle.acs_tree.specs.Slates.{SlateLines}
use Rattle.acs_tree.specs.declared.values.Values.{Values}
use Rattle.desk_law.specs.Classification.{classes_of}
use Rattle.sms_construct.specs.declared.stop.Stop.{Stop}
use Rattle.sms_outcomes.specs.ItemRecords.{record_in}
use Rattle.sms_outcomes.proofs.simulating.push_alloc.Goals as goal

pub returns : goal.returns
returns c =
    let item = c.args.item.now in
    let classes = classes_of c.args.config.now item.request.job c.args.allocation.now in
    let before = c.args.text.now.items in
    let made = c.classify-made.result in
    c.in_ok-push_record.ensures
    ∙ ap (λ (slate : SlateLines). before ++ record_in c.args.form item (record { values = made.values; written = slate; stop = made.stop })) c.classify-made.ensures.slate
    ∙ ap (λ (stop : Stop). before ++ record_in c.args.form item (record { values = made.values; written = classes.written; stop = stop })) c.classify-made.ensures.stop
    ∙ ap (λ (values : Values). before ++ record_in c.args.form item (record { values = values; written = classes.written; stop = classes.stop })) c.classify-made.ensures.values
