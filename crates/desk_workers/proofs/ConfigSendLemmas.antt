-- Routines and configurations may go to other threads, and be shared by them.
use denote.RattleType.{RattleType}
use denote.Param.Send.{IsSend, IsSync, plain_send, plain_sync, sendable, enum_send, enum_sync, struct_send, struct_sync}
use denote.Param.Send.{recorded_send, recorded_sync, view_send, view_sync}
use denote.Plain.{UInt}
use mir.Syntax.{w8}
use denote.Enum.Declared as declared_enum
use denote.Struct.Declared as declared_struct
use Rattle.acs_tree.specs.contracts.routine.Cond as cond
use Rattle.acs_tree.specs.contracts.routine.Form as form
use Rattle.acs_tree.specs.contracts.routine.Stmt as stmt
use Rattle.acs_tree.specs.contracts.routine.WhenTest as when_test
use Rattle.acs_tree.specs.contracts.routine.Routine as routine
use Rattle.acs_tree.specs.contracts.checked.Checked as checked
use Rattle.acs_tree.proofs.routine.Cond.TheLaws.TheKnot as cond_knot
use Rattle.acs_tree.proofs.routine.Form.TheLaws.TheKnot as form_knot
use Rattle.acs_tree.proofs.ident.Ident.TheSendSync as ident
use Rattle.acs_tree.proofs.routine.Ref.TheSendSync as reference
use Rattle.acs_tree.proofs.routine.Operand.TheSendSync as operand
use Rattle.acs_tree.proofs.routine.Compare.TheSendSync as compare
use Rattle.desk_common.proofs.Boxed.TheSendSync as boxed
use Rattle.desk_common.proofs.Items.TheSendSync as items
use Rattle.std.proofs.option.Option.TheSendSync as option
use Rattle.acs_code.proofs.code.Code.TheSendSync as code
use Rattle.deck_meaning.specs.contracts.compiled.Compiled as compiled
use Rattle.deck_meaning.specs.contracts.config.Config as config
use Rattle.deck_meaning.specs.contracts.config.Config.TheInside as config_inside
use Rattle.dsn_mask.specs.contracts.name.Name as names
use Rattle.dsn_mask.proofs.name.Name.TheSendSync as name
use Rattle.desk_common.specs.contracts.shared.Shared as shares
use Rattle.desk_common.proofs.shared.Shared.TheSendSync as shared
use Rattle.sms_construct.specs.contracts.data_class.DataClass as data_classes
use Rattle.sms_construct.specs.contracts.storage_class.StorClass as storage_classes
use Rattle.sms_construct.specs.contracts.management_class.MgmtClass as management_classes
use Rattle.sms_construct.specs.contracts.storage_group.StorGroup as groups
use Rattle.sms_construct.specs.contracts.volume.VolumeDef as volumes
use Rattle.sms_construct.proofs.data_class.DataClass.TheSendSync as data_class
use Rattle.sms_construct.proofs.storage_class.StorClass.TheSendSync as storage_class
use Rattle.sms_construct.proofs.management_class.MgmtClass.TheSendSync as management_class
use Rattle.sms_construct.proofs.storage_group.StorGroup.TheSendSync as group
use Rattle.sms_construct.proofs.volume.VolumeDef.TheSendSync as volume
use Rattle.acs_tree.specs.contracts.routine.Operand as operands
use Rattle.acs_tree.specs.contracts.routine.Ref as references
use Rattle.desk_common.specs.contracts.Boxed as boxes
use Rattle.std.specs.contracts.option.Option as options
use Rattle.desk_common.specs.contracts.Items as lists

pub cond-send : IsSend (cond.the_field).row
cond-send = cond_knot.send-Cond boxed.the_send reference.the_field_send compare.the_field_send (plain_send _ _ _ _ _) operand.the_field_send

pub cond-sync : IsSync (cond.the_field).row
cond-sync = cond_knot.sync-Cond boxed.the_sync reference.the_field_sync compare.the_field_sync (plain_sync _ _ _ _ _) operand.the_field_sync

pub cond-row-send : IsSend cond.the_row
cond-row-send = recorded_send (cond.the_field).row _ _ (cond.the_type).to_one cond-send

pub cond-row-sync : IsSync cond.the_row
cond-row-sync = recorded_sync (cond.the_field).row _ _ (cond.the_type).to_one cond-sync

pub when-send : IsSend (when_test.the_field).row
when-send = enum_send (declared_enum.shape when_test.the_type) ((items.the_send operands.the_row operand.the_send, tt), ((boxed.the_send cond.the_row cond-row-send, tt), tt))

pub when-sync : IsSync (when_test.the_field).row
when-sync = enum_sync (declared_enum.shape when_test.the_type) ((items.the_sync operands.the_row operand.the_sync, tt), ((boxed.the_sync cond.the_row cond-row-sync, tt), tt))

boxed_or_none-send : (T : RattleType) → IsSend T → IsSend (options.the_row (boxes.the_row T))
boxed_or_none-send T s = option.the_send (boxes.the_row T) (boxed.the_send T s)

form-send : IsSend (form.the_field).row
form-send = form_knot.send-Form ident.the_send (plain_send _ _ _ _ _) (items.the_send operands.the_row operand.the_send) reference.the_field_send
    (boxed.the_send cond.the_row cond-row-send) boxed.the_send boxed_or_none-send (option.the_field_send references.the_row reference.the_send) items.the_send
    (option.the_field_send operands.the_row operand.the_send) when-send

stmt-send : IsSend (stmt.the_field).row
stmt-send = form_knot.send-Stmt ident.the_send (plain_send _ _ _ _ _) (items.the_send operands.the_row operand.the_send) reference.the_field_send
    (boxed.the_send cond.the_row cond-row-send) boxed.the_send boxed_or_none-send (option.the_field_send references.the_row reference.the_send) items.the_send
    (option.the_field_send operands.the_row operand.the_send) when-send

stmt-row-send : IsSend stmt.the_row
stmt-row-send = recorded_send (stmt.the_field).row _ _ (stmt.the_type).to_one stmt-send

pub routine-send : IsSend (routine.the_field).row
routine-send = struct_send (declared_struct.shape routine.the_type) (ident.the_send, (plain_send _ _ _ _ _, (items.the_send stmt.the_row stmt-row-send, tt)))

pub checked-send : IsSend checked.the_row
checked-send = search (sendable, routine-send) depth 20

boxed_or_none-sync : (T : RattleType) → IsSync T → IsSync (options.the_row (boxes.the_row T))
boxed_or_none-sync T s = option.the_sync (boxes.the_row T) (boxed.the_sync T s)

form-sync : IsSync (form.the_field).row
form-sync = form_knot.sync-Form ident.the_sync (plain_sync _ _ _ _ _) (items.the_sync operands.the_row operand.the_sync) reference.the_field_sync
    (boxed.the_sync cond.the_row cond-row-sync) boxed.the_sync boxed_or_none-sync (option.the_field_sync references.the_row reference.the_sync) items.the_sync
    (option.the_field_sync operands.the_row operand.the_sync) when-sync

stmt-sync : IsSync (stmt.the_field).row
stmt-sync = form_knot.sync-Stmt ident.the_sync (plain_sync _ _ _ _ _) (items.the_sync operands.the_row operand.the_sync) reference.the_field_sync
    (boxed.the_sync cond.the_row cond-row-sync) boxed.the_sync boxed_or_none-sync (option.the_field_sync references.the_row reference.the_sync) items.the_sync
    (option.the_field_sync operands.the_row operand.the_sync) when-sync

stmt-row-sync : IsSync stmt.the_row
stmt-row-sync = recorded_sync (stmt.the_field).row _ _ (stmt.the_type).to_one stmt-sync

pub routine-sync : IsSync (routine.the_field).row
routine-sync = struct_sync (declared_struct.shape routine.the_type) (ident.the_sync, (plain_sync _ _ _ _ _, (items.the_sync stmt.the_row stmt-row-sync, tt)))

pub checked-sync : IsSync checked.the_row
checked-sync = search (sendable, routine-sync) depth 20

compiled-send : IsSend compiled.the_row
compiled-send = search (sendable, checked-send, code.the_send) depth 20

bytes-send : IsSend (lists.the_row (UInt w8))
bytes-send = items.the_send (UInt w8) (plain_send _ _ _ _ _)

bytes-sync : IsSync (lists.the_row (UInt w8))
bytes-sync = items.the_sync (UInt w8) (plain_sync _ _ _ _ _)

deck-send : IsSend (shares.the_row (lists.the_row (UInt w8)))
deck-send = shared.the_send (lists.the_row (UInt w8)) bytes-send bytes-sync

deck-sync : IsSync (shares.the_row (lists.the_row (UInt w8)))
deck-sync = shared.the_sync (lists.the_row (UInt w8)) bytes-send bytes-sync

data_classes-send : IsSend (lists.the_row data_classes.the_row)
data_classes-send = items.the_send data_classes.the_row data_class.the_send

storage_classes-send : IsSend (lists.the_row storage_classes.the_row)
storage_classes-send = items.the_send storage_classes.the_row storage_class.the_send

management_classes-send : IsSend (lists.the_row management_classes.the_row)
management_classes-send = items.the_send management_classes.the_row management_class.the_send

groups-send : IsSend (lists.the_row groups.the_row)
groups-send = items.the_send groups.the_row group.the_send

volumes-send : IsSend (lists.the_row volumes.the_row)
volumes-send = items.the_send volumes.the_row volume.the_send

names-send : IsSend (options.the_field names.the_row).row
names-send = option.the_field_send names.the_row name.the_send

routines-send : IsSend (options.the_field compiled.the_row).row
routines-send = option.the_field_send compiled.the_row compiled-send

pub config-send : IsSend config.the_row
config-send = view_send config_inside.the_row _ _ _ _ (recorded_send (config_inside.the_field).row _ _ (config_inside.the_type).to_one
    (struct_send (declared_struct.shape config_inside.the_type) (
      deck-send,
      (
        names-send,
        (
          names-send,
          (
            data_classes-send,
            (
              storage_classes-send,
              (
                management_classes-send,
                (
                  groups-send,
                  (
                    volumes-send,
                    (routines-send, (routines-send, (routines-send, (routines-send, tt)))),
                  ),
                ),
              ),
            ),
          ),
        ),
      ),
    )))

compiled-sync : IsSync compiled.the_row
compiled-sync = search (sendable, checked-sync, code.the_sync) depth 20

data_classes-sync : IsSync (lists.the_row data_classes.the_row)
data_classes-sync = items.the_sync data_classes.the_row data_class.the_sync

storage_classes-sync : IsSync (lists.the_row storage_classes.the_row)
storage_classes-sync = items.the_sync storage_classes.the_row storage_class.the_sync

management_classes-sync : IsSync (lists.the_row management_classes.the_row)
management_classes-sync = items.the_sync management_classes.the_row management_class.the_sync

groups-sync : IsSync (lists.the_row groups.the_row)
groups-sync = items.the_sync groups.the_row group.the_sync

volumes-sync : IsSync (lists.the_row volumes.the_row)
volumes-sync = items.the_sync volumes.the_row volume.the_sync

names-sync : IsSync (options.the_field names.the_row).row
names-sync = option.the_field_sync names.the_row name.the_sync

routines-sync : IsSync (options.the_field compiled.the_row).row
routines-sync = option.the_field_sync compiled.the_row compiled-sync

pub config-sync : IsSync config.the_row
config-sync = view_sync config_inside.the_row _ _ _ _ (recorded_sync (config_inside.the_field).row _ _ (config_inside.the_type).to_one
    (struct_sync (declared_struct.shape config_inside.the_type) (
      deck-sync,
      (
        names-sync,
        (
          names-sync,
          (
            data_classes-sync,
            (
              storage_classes-sync,
              (
                management_classes-sync,
                (
                  groups-sync,
                  (
                    volumes-sync,
                    (routines-sync, (routines-sync, (routines-sync, (routines-sync, tt)))),
                  ),
                ),
              ),
            ),
          ),
        ),
      ),
    )))
