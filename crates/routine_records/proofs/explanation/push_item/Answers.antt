use Rattle.std.proofs.Common.{◌≡◌, ◌++◌, ℕ, List, sym, ap, subst, ◌∙◌}
use Rattle.std.specs.Prelude.{OnOk}
use Rattle.sms_construct.specs.declared.alloc.Alloc.{Alloc}
use Rattle.sms_construct.specs.declared.request.Op.{Op}
use Rattle.sms_simulation.specs.Simulation.{alloc_of}
use Rattle.routine_records.specs.EventRecords.{alloc_records, item_records, records_if}
use Rattle.routine_records.proofs.explanation.push_item.Goals as goal

pub returns-in-Alloc : goal.returns-in-Alloc
returns-in-Alloc c =
    let item = c.args.item.now in
    let config = c.args.config.now in
    let sources = c.args.sources.now in
    let form = c.args.form in
    let same : alloc_records form config sources item c.get.result.now ≡ item_records form config sources item =
    ap (λ (alloc : Alloc). alloc_records form config sources item alloc) c.get.ensures
    ∙ ap (λ (op : Op). records_if form config sources item (alloc_of op)) (sym c.in-Alloc.is) in
    subst (λ (text : List ℕ). OnOk c.push_alloc.result (c.push_alloc.new.text.items ≡ c.args.text.now.items ++ text)) same c.push_alloc.ensures
