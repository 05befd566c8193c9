-- Seats may go to other threads, and desks be shared by them.
use Rattle.std.specs.contracts.impls.GlobalAllocator.TheImpl.{ghosts as heap_ghosts}
use denote.RattleType.{RattleType}
use denote.Param.Send.{IsSend, IsSync, plain_send, sendable, struct_send, struct_sync, recorded_send, recorded_sync}
use denote.Param.Send.{view_send}
use denote.Plain.{UInt}
use mir.Syntax.{w32}
use denote.Struct.Declared as declared_struct
use Rattle.std.proofs.Crossing.{crosses}
use Rattle.std.proofs.option.Option.TheSendSync as option
use Rattle.deck_meaning.specs.contracts.config.Config as config
use Rattle.desk_common.specs.contracts.shared.Shared as shares
use Rattle.desk_common.proofs.shared.Shared.TheSendSync as shared
use Rattle.sms_volumes.proofs.SendLemmas.{volumes-send}
use Rattle.desk_state.proofs.catalog.Catalog.TheSendSync as catalog
use Rattle.desk_state.proofs.blank_trace.BlankTrace.TheSendSync as blank
use Rattle.desk_state.specs.contracts.running.Running as running
use Rattle.sms_construct.specs.contracts.entry.Entry as entries
use Rattle.sms_construct.proofs.entry.Entry.TheSendSync as entry
use Rattle.sms_core.specs.contracts.core_state.Core as core
use Rattle.sms_core.specs.contracts.core_state.Core.TheInside as core_inside
use Rattle.desk_records.proofs.records.Records.TheSendSync as records
use Rattle.sms_keeper.specs.declared.keeper.Keeper.{Ghosts}
use Rattle.std.proofs.alloc.Global.TheSendSync as heap_facts
use Rattle.sms_construct.specs.contracts.entry.Answer as answers
use Rattle.sms_construct.proofs.entry.Answer.TheSendSync as answer
use Rattle.acs_tree.proofs.slate.Slate.TheSendSync as slate
use Rattle.desk_signing.specs.contracts.event.Event as event
use Rattle.turn_lock.specs.contracts.seat.Seat as seats
use Rattle.turn_lock.proofs.seat.Seat.TheSendSync as seat
use Rattle.turn_lock.proofs.lock.TurnLock.TheSendSync as lock
use Rattle.sms_desk.specs.contracts.signed_core.SignedCore as signed_core
use Rattle.sms_desk.specs.contracts.held.Held as held
use Rattle.sms_desk.specs.contracts.job_seat.JobSeat as job_seat
use Rattle.sms_desk.specs.contracts.desk.Desk as desk
use Rattle.std.specs.contracts.vec.Vec as vec
use Rattle.std.specs.contracts.collections.VecDeque as deque
use Rattle.std.specs.contracts.alloc.Global as heap
use Rattle.std.specs.contracts.option.Option as options
use Rattle.desk_workers.proofs.ConfigSendLemmas.{config-send, config-sync}

shared_config-send : IsSend (shares.the_row config.the_row)
shared_config-send = shared.the_send config.the_row config-send config-sync

active-send : IsSend (options.the_field (shares.the_row config.the_row)).row
active-send = option.the_field_send (shares.the_row config.the_row) shared_config-send

running-send : IsSend (running.the_field).row
running-send = struct_send (declared_struct.shape running.the_type) (heap_facts.the_field_send, (plain_send _ _ _ _ _, (active-send, (volumes-send, (catalog.the_send, (blank.the_send, tt))))))

journal-send : IsSend (vec.the_row entries.the_row heap.the_row heap_ghosts)
journal-send = search (crosses, entry.the_send) depth 10

numbers-send : IsSend (vec.the_row (UInt w32) heap.the_row heap_ghosts)
numbers-send = search (crosses, sendable) depth 10

held-send : IsSend (held.the_field).row
held-send = struct_send (declared_struct.shape held.the_type) (plain_send _ _ _ _ _, (shared_config-send, tt))

held-row-send : IsSend held.the_row
held-row-send = recorded_send (held.the_field).row _ _ (held.the_type).to_one held-send

held-field-send : IsSend (options.the_field held.the_row).row
held-field-send = option.the_field_send held.the_row held-row-send

answers-send : IsSend (deque.the_row answers.the_row heap.the_row heap_ghosts)
answers-send = search (crosses, answer.the_send) depth 10

module _ (P : RattleType) (keeper : Ghosts P.Denot) (s : IsSend P) where
  core-send : IsSend (core.the_row P keeper)
  core-send = view_send (core_inside.the_row P keeper) _ _ _ _ (recorded_send (core_inside.the_field P keeper).row _ _ (core_inside.the_type P keeper).to_one
      (struct_send (declared_struct.shape (core_inside.the_type P keeper)) (search (sendable, crosses) depth 12, (plain_send _ _ _ _ _, (plain_send _ _ _ _ _, (journal-send, (plain_send _ _ _ _ _, (running-send, (records.the_field_send P s, tt)))))))))

  signed_core-field-send : IsSend (signed_core.the_field P keeper).row
  signed_core-field-send = struct_send (declared_struct.shape (signed_core.the_type P keeper)) (core-send, (plain_send _ _ _ _ _, (numbers-send, tt)))

  signed_core-send : IsSend (signed_core.the_row P keeper)
  signed_core-send = recorded_send (signed_core.the_field P keeper).row _ _ (signed_core.the_type P keeper).to_one signed_core-field-send

  seat-send : IsSend (seats.the_row (signed_core.the_row P keeper) event.the_row)
  seat-send = seat.the_send (signed_core.the_row P keeper) event.the_row signed_core-send

  pub job_seat-send : IsSend (job_seat.the_row P keeper)
  job_seat-send = recorded_send (job_seat.the_field P keeper).row _ _ (job_seat.the_type P keeper).to_one
      (struct_send (declared_struct.shape (job_seat.the_type P keeper)) (option.the_field_send (seats.the_row (signed_core.the_row P keeper) event.the_row) seat-send, (slate.the_send, (held-field-send, (answers-send, tt)))))

  pub desk-sync : IsSync (desk.the_row P keeper)
  desk-sync = recorded_sync (desk.the_field P keeper).row _ _ (desk.the_type P keeper).to_one
      (struct_sync (declared_struct.shape (desk.the_type P keeper)) (heap_facts.the_field_sync, (lock.the_field_sync (signed_core.the_row P keeper) event.the_row _ signed_core-send, tt)))
