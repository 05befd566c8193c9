use Rattle.std.proofs.Common.{◌∙◌, ap, bytes_eq, find, option_map}
use Rattle.acs_tree.specs.declared.kind.Kind.TheVariants.{DataClas, StorClas, MgmtClas, StorGrp}
use Rattle.sms_construct.specs.declared.data_class.DataClass.{DataClass}
use Rattle.sms_construct.specs.declared.management_class.MgmtClass.{MgmtClass}
use Rattle.sms_construct.specs.declared.storage_class.StorClass.{StorClass}
use Rattle.sms_construct.specs.declared.storage_group.StorGroup.{StorGroup}
use Rattle.sms_classes.proofs.NameLemmas.{found_name, named_is}
use Rattle.sms_classes.proofs.names.named.Goals as goal

pub returns-in-DataClas : goal.returns-in-DataClas
returns-in-DataClas c = named_is c.args.kind DataClas c.args.config.now c.args.class.now _ c.in-DataClas.is
    (c.data_class_name.ensures ∙ ap (option_map (λ (class : DataClass). class.name)) c.data_class_for.ensures ∙ found_name (λ (class : DataClass). class.name) c.args.class.now c.args.config.now.data_classes)

pub returns-in-StorClas : goal.returns-in-StorClas
returns-in-StorClas c = named_is c.args.kind StorClas c.args.config.now c.args.class.now _ c.in-StorClas.is
    (c.storage_class_name.ensures ∙ ap (option_map (λ (class : StorClass). class.name)) c.stor_class_for.ensures ∙ found_name (λ (class : StorClass). class.name) c.args.class.now c.args.config.now.storage_classes)

pub returns-in-MgmtClas : goal.returns-in-MgmtClas
returns-in-MgmtClas c = named_is c.args.kind MgmtClas c.args.config.now c.args.class.now _ c.in-MgmtClas.is
    (c.management_class_name.ensures ∙ ap (option_map (λ (class : MgmtClass). class.name)) c.mgmt_class_for.ensures ∙ found_name (λ (class : MgmtClass). class.name) c.args.class.now c.args.config.now.management_classes)

pub returns-in-StorGrp : goal.returns-in-StorGrp
returns-in-StorGrp c = named_is c.args.kind StorGrp c.args.config.now c.args.class.now _ c.in-StorGrp.is
    (c.group_name.ensures ∙ ap (option_map (λ (group : StorGroup). group.name)) c.group_named.ensures
    ∙ ap (λ groups. option_map (λ (group : StorGroup). group.name) (find (λ (group : StorGroup). bytes_eq c.args.class.now group.name) groups)) c.groups.ensures
    ∙ found_name (λ (group : StorGroup). group.name) c.args.class.now c.args.config.now.groups)
