use Rattle.desk_law.specs.Classification.{begin, meanings_of}
use Rattle.sms_classes.proofs.KnownLemmas.{done_known}
use Rattle.sms_classes.proofs.knowing.classes_are_known.Goals as goal

pub returns : goal.returns
returns c = λ job alloc done.
    done_known c.args.config.now (meanings_of c.args.config.now) _ (begin alloc) c.leave_others.ensures.storage c.leave_others.ensures.management c.leave_others.ensures.groups done
