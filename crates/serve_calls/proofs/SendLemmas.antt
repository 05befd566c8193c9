-- Workers may go to other threads.
use denote.RattleType.{RattleType}
use denote.Param.Send.{IsSend, plain_send, struct_send, recorded_send}
use denote.Struct.Declared as declared_struct
use Rattle.std.proofs.alloc.Global.TheSendSync as heap
use Rattle.std.proofs.option.Option.TheSendSync as option
use Rattle.sqlite_items.specs.contracts.items.Items as items
use Rattle.sqlite_items.proofs.items.Items.TheSendSync as item_list
use Rattle.sms_keeper.specs.declared.keeper.Keeper.{Ghosts}
use Rattle.sms_desk.specs.contracts.job_seat.JobSeat as job_seat
use Rattle.serve_door.specs.contracts.visit.Visit as visits
use Rattle.serve_door.proofs.visit.Visit.TheSendSync as visit
use Rattle.serve_door.proofs.door_end.DoorEnd.TheSendSync as door_end
use Rattle.desk_workers.proofs.SendLemmas.{job_seat-send}
use Rattle.serve_calls.specs.contracts.worker.Worker as worker

visits-send : IsSend (items.the_row visits.the_row)
visits-send = item_list.the_send visits.the_row visit.the_send

pub worker-send : (A P : RattleType) (keeper : Ghosts P.Denot) → IsSend A → IsSend P → IsSend (worker.the_row A P keeper)
worker-send A P keeper a s = recorded_send (worker.the_field A P keeper).row _ _ (worker.the_type A P keeper).to_one
    (struct_send (declared_struct.shape (worker.the_type A P keeper))
    (heap.the_field_send, (plain_send _ _ _ _ _, (option.the_field_send (job_seat.the_row P keeper) (job_seat-send P keeper s), (a, (visits-send, (door_end.the_field_send, tt)))))))
