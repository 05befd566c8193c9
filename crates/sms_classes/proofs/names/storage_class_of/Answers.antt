use Rattle.std.proofs.Common.{◌∙◌}
use Rattle.sms_construct.specs.declared.storage_class.StorClass.{StorClass}
use Rattle.sms_classes.proofs.NameLemmas.{find_turned}
use Rattle.sms_classes.proofs.names.storage_class_of.Goals as goal

pub returns : goal.returns
returns c = c.stor_class_for.ensures ∙ find_turned (λ (class : StorClass). class.name) c.args.class.now c.args.config.now.storage_classes
