-- Volumes with their ledgers may go to other threads.
use denote.Param.Send.{IsSend, plain_send, struct_send, recorded_send}
use denote.Struct.Declared as declared_struct
use denote.Builtin.{usize}
use Rattle.std.proofs.Crossing.{Vec-send}
use Rattle.std.proofs.option.Option.TheSendSync as option
use Rattle.sms_volumes.specs.contracts.active_group.ActiveGroup as active_group
use Rattle.sms_volumes.specs.contracts.active_volume.ActiveVolume as active_volume
use Rattle.sms_volumes.specs.contracts.active_volumes.ActiveVolumes as active_volumes
use Rattle.sms_volumes.proofs.active_group.ActiveGroup.TheSendSync as group
use Rattle.sms_construct.proofs.status.Status.TheSendSync as status
use Rattle.sms_construct.proofs.volume.VolumeDef.TheSendSync as volume
use Rattle.track_ledger.proofs.SendLemmas.{ledger-send}

volume-send : IsSend active_volume.the_row
volume-send = recorded_send (active_volume.the_field).row _ _ (active_volume.the_type).to_one
    (struct_send (declared_struct.shape active_volume.the_type) (volume.the_field_send, (status.the_field_send, (plain_send _ _ _ _ _, (ledger-send, tt)))))

pub volumes-send : IsSend (active_volumes.the_field).row
volumes-send = struct_send (declared_struct.shape active_volumes.the_type) (Vec-send active_group.the_row group.the_send, (Vec-send active_volume.the_row volume-send, (Vec-send _ (option.the_send usize (plain_send _ _ _ _ _)), tt)))
