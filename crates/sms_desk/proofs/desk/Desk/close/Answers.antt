use Rattle.std.proofs.Common.{◌≡◌, ◌-◌, All, length, sym, ap, subst, ◌∙◌, arith}
use Rattle.turn_lock.specs.Views.{IsBy}
use Rattle.turn_lock.specs.Contract.{Stands, numbers}
use Rattle.desk_signing.specs.Signing.{signed, signed_last}
use Rattle.sms_desk.specs.Seats.{IsJobOf, StandsJob, job_numbers}
use Rattle.sms_desk.proofs.JobLemmas.{by_weaker}
use Rattle.sms_desk.proofs.desk.Desk.close.Goals as goal

pub close-core-requires : goal.close-core-requires
close-core-requires g c =
    let same : c.take_apart-jobs.result.0.items ≡ c.args.seats.jobs.items = ap (λ v. v.items) c.take_apart-jobs.ensures.0 in
    (c.unseat_all.ensures.count ∙ ap length same ∙ c.requires.0, c.unseat_all.ensures.lock c.args.self.lock.table.shared.table_id (subst (All (IsJobOf c.args.self.lock.table.shared.table_id)) (sym same) c.requires.1))

pub returns-clause-stands : goal.returns-clause-stands
returns-clause-stands g c =
    let same : c.take_apart-jobs.result.0.items ≡ c.args.seats.jobs.items = ap (λ v. v.items) c.take_apart-jobs.ensures.0 in
    let v = c.close-core.result in
    let counted = v.counted in
    let base : v.before ≡ length v.core.journal - length v.numbers.items = omega (arith, counted) in
    let list = signed_last v.core.opening v.core.mark v.core.journal v.numbers.items in
    let stands : All (Stands list) c.unseat_all.new.room.items = subst (λ b. All (Stands (signed v.core.opening v.core.mark b v.core.journal v.numbers.items)) c.unseat_all.new.room.items) base c.close-core.ensures.stands in
    rw c.from_vec.ensures (subst (All (StandsJob list)) same (c.unseat_all.ensures.stands list stands))

pub returns-clause-by : goal.returns-clause-by
returns-clause-by g c =
    let same : c.take_apart-jobs.result.0.items ≡ c.args.seats.jobs.items = ap (λ v. v.items) c.take_apart-jobs.ensures.0 in
    let v = c.close-core.result in
    let counted = v.counted in
    let base : v.before ≡ length v.core.journal - length v.numbers.items = omega (arith, counted) in
    let list = signed_last v.core.opening v.core.mark v.core.journal v.numbers.items in
    let by : All (IsBy (numbers c.unseat_all.new.room.items)) list = subst (λ b. All (IsBy (numbers c.unseat_all.new.room.items)) (signed v.core.opening v.core.mark b v.core.journal v.numbers.items)) base c.close-core.ensures.by in
    let all : All (IsBy (job_numbers c.args.seats.jobs.items)) list =
    subst (λ js. All (IsBy (job_numbers js)) list) same (by_weaker (numbers c.unseat_all.new.room.items) (job_numbers c.take_apart-jobs.result.0.items) list c.unseat_all.ensures.numbers by) in
    subst (λ ns. All (IsBy (job_numbers c.args.seats.jobs.items)) (signed_last v.core.opening v.core.mark v.core.journal ns)) (sym c.from_vec.ensures) all
