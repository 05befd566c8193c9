use Rattle.std.proofs.Common.{[]}
use Rattle.desk_workers.proofs.RoomLemmas.{kept-ready}
use Rattle.desk_workers.proofs.SharedLemmas.{on-err, shared-done, shared-jobs, shared-none}
use Rattle.desk_workers.proofs.sharing.answer_all.Goals as goal

-- where room is wanting the seats are as they were
pub returns-in_err-take_rooms-clause-jobs : goal.returns-in_err-take_rooms-clause-jobs
returns-in_err-take_rooms-clause-jobs g c =
    let lock = c.args.desk.now.lock.table.shared.table_id in
    shared-jobs lock [] [] c.args.seats.now c.take_rooms.new.seats c.args.answers.now.items c.args.answers.now.items (shared-none lock c.args.seats.now c.take_rooms.new.seats c.args.answers.now.items c.requires.idle c.take_rooms.ensures.kept)

pub returns-in_err-take_rooms-clause-wanting : goal.returns-in_err-take_rooms-clause-wanting
returns-in_err-take_rooms-clause-wanting g c = on-err c.from_residual.result _ (shared-none c.args.desk.now.lock.table.shared.table_id c.args.seats.now c.take_rooms.new.seats c.args.answers.now.items c.requires.idle c.take_rooms.ensures.kept)

-- each seat has room for the answers of its worker
pub work_all-requires-clause-ready : goal.work_all-requires-clause-ready
work_all-requires-clause-ready g c κs within =
    kept-ready c.args.desk.now.lock.table.shared.table_id c.args.plan.now c.args.seats.now c.take_rooms.new.seats c.requires.idle c.take_rooms.ensures.kept c.in_ok-take_rooms.ensures.room

pub returns-clause-jobs : goal.returns-clause-jobs
returns-clause-jobs g c =
    let lock = c.args.desk.now.lock.table.shared.table_id in
    shared-jobs lock c.args.plan.now c.args.items.now c.args.seats.now c.merge.new.seats c.args.answers.now.items c.merge.new.answers.items
    (shared-done lock c.args.plan.now c.args.items.now c.args.seats.now c.take_rooms.new.seats c.work_all.new.seats c.merge.new.seats c.args.answers.now.items c.merge.new.answers.items c.requires.each c.take_rooms.ensures.kept c.work_all.ensures.count c.work_all.ensures.worked c.merge.ensures.merged)

pub returns-clause-answered : goal.returns-clause-answered
returns-clause-answered g c =
    shared-done c.args.desk.now.lock.table.shared.table_id c.args.plan.now c.args.items.now c.args.seats.now c.take_rooms.new.seats c.work_all.new.seats c.merge.new.seats c.args.answers.now.items c.merge.new.answers.items c.requires.each c.take_rooms.ensures.kept
    c.work_all.ensures.count c.work_all.ensures.worked c.merge.ensures.merged
