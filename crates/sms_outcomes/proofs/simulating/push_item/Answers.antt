use Rattle.std.proofs.Common.{◌≡◌, ◌++◌, ℕ, List, sym, ap, subst, ◌∙◌}
use Rattle.std.specs.Prelude.{OnOk}
use Rattle.sms_construct.specs.declared.alloc.Alloc.{Alloc}
use Rattle.sms_construct.specs.declared.request.Op.{Op}
use Rattle.desk_law.specs.Classification.{classes_of}
use Rattle.sms_simulation.specs.Simulation.{alloc_of}
use Rattle.sms_outcomes.specs.ItemRecords.{item_record, record_if, record_in}
use Rattle.sms_outcomes.proofs.simulating.push_item.Goals as goal

pub returns-in-Alloc : goal.returns-in-Alloc
returns-in-Alloc c =
    let item = c.args.item.now in
    let config = c.args.config.now in
    let form = c.args.form in
    let same : record_in form item (classes_of config item.request.job c.get.result.now) ≡ item_record form config item =
    ap (λ (alloc : Alloc). record_in form item (classes_of config item.request.job alloc)) c.get.ensures
    ∙ ap (λ (op : Op). record_if form config item (alloc_of op)) (sym c.in-Alloc.is) in
    subst (λ (text : List ℕ). OnOk c.push_alloc.result (c.push_alloc.new.text.items ≡ c.args.text.now.items ++ text)) same c.push_alloc.ensures
