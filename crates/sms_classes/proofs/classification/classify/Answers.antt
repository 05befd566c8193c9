use Rattle.std.proofs.Common.{◌≡◌, ◌∙◌, ap, subst, sym}
use Rattle.desk_law.specs.Classification.{Classes, classes_of}
use Rattle.sms_classes.specs.Known.{AreKnown}
use Rattle.sms_classes.specs.Inner.Onward.{classes}
use Rattle.sms_classes.proofs.OnwardLemmas.{all_routines}
use Rattle.sms_classes.proofs.classification.classify.Goals as goal

pub returns-clause-values : goal.returns-clause-values
returns-clause-values c = ap (λ (came : Classes). came.values) (all_routines c.args.config.now c.args.job.now c.args.alloc.now _ c.from_data_class-stop.ensures c.under-input.ensures c.system.ensures c.sysplex.ensures c.named_classes-values.ensures c.clear.ensures)

pub returns-clause-stop : goal.returns-clause-stop
returns-clause-stop c = ap (λ (came : Classes). came.stop) (all_routines c.args.config.now c.args.job.now c.args.alloc.now _ c.from_data_class-stop.ensures c.under-input.ensures c.system.ensures c.sysplex.ensures c.named_classes-values.ensures c.clear.ensures)

pub returns-clause-slate : goal.returns-clause-slate
returns-clause-slate c = ap (λ (came : Classes). came.written) (all_routines c.args.config.now c.args.job.now c.args.alloc.now _ c.from_data_class-stop.ensures c.under-input.ensures c.system.ensures c.sysplex.ensures c.named_classes-values.ensures c.clear.ensures)

pub returns-clause-known : goal.returns-clause-known
returns-clause-known c done =
    let came : Classes = classes c.from_data_class-stop.new.values c.from_data_class-stop.new.slate c.from_data_class-stop.result in
    let same : came ≡ classes_of c.args.config.now c.args.job.now c.args.alloc.now =
    all_routines c.args.config.now c.args.job.now c.args.alloc.now _ c.from_data_class-stop.ensures c.under-input.ensures c.system.ensures c.sysplex.ensures c.named_classes-values.ensures c.clear.ensures in
    subst (λ (came : Classes). AreKnown c.args.config.now came.values) (sym same)
    (c.classes_are_known.ensures c.args.job.now c.args.alloc.now (ap (λ (came : Classes). came.stop) (sym same) ∙ done))
