use Rattle.std.proofs.Common.{◌≡◌, [], All, length, sym, ap, subst, ◌∙◌}
use Rattle.std.proofs.lemmas.List.Elements.{All-weaker}
use Rattle.turn_lock.specs.Views.{AreUnsigned}
use Rattle.desk_signing.specs.Signing.{signed}
use Rattle.desk_signing.proofs.SignLemmas.{signed_unsigned}
use Rattle.sms_desk.specs.Seats.{IsJobOf, IsNewJob}
use Rattle.sms_desk.proofs.JobLemmas.{list-begins}
use Rattle.sms_desk.proofs.desk.Desk.new.Goals as goal

pub new-requires-2-clause-unsigned : goal.new-requires-2-clause-unsigned
new-requires-2-clause-unsigned g c =
    let core = c.args.core in
    let before = length c.journal-before.result.now in
    subst (λ ns. AreUnsigned (signed core.opening core.mark before core.journal ns)) (sym c.new.ensures.items) (signed_unsigned core.opening core.mark before core.journal)

pub returns-in-Ok-new-clause-all : goal.returns-in-Ok-new-clause-all
returns-in-Ok-new-clause-all g c =
    let core = c.args.core in
    let lock = c.in-Ok-new.lock.table.shared.table_id in
    let before = length c.journal-before.result.now in
    let list = signed core.opening core.mark before core.journal c.new.result.items in
    let begun = list-begins core.opening core.mark before core.journal c.new.result.items c.in-Ok.outfits.items c.journal-before.ensures.legal c.in-Ok.ensures.outfits in
    let new : All (IsNewJob lock list) c.seat_all.new.jobs.items = c.seat_all.ensures.new lock list begun.0 begun.1 c.in-Ok-new.ensures.new begun.2 in
    (c.seat_all.ensures.count ∙ c.in-Ok-new.ensures.all.0, All-weaker (IsNewJob lock list) (IsJobOf lock) (λ j h. h.job) c.seat_all.new.jobs.items new)

pub returns-in-Ok-new-clause-new : goal.returns-in-Ok-new-clause-new
returns-in-Ok-new-clause-new g c =
    let core = c.args.core in
    let lock = c.in-Ok-new.lock.table.shared.table_id in
    let before = length c.journal-before.result.now in
    let list = signed core.opening core.mark before core.journal c.new.result.items in
    let begun = list-begins core.opening core.mark before core.journal c.new.result.items c.in-Ok.outfits.items c.journal-before.ensures.legal c.in-Ok.ensures.outfits in
    let new : All (IsNewJob lock list) c.seat_all.new.jobs.items = c.seat_all.ensures.new lock list begun.0 begun.1 c.in-Ok-new.ensures.new begun.2 in
    let base : before ≡ length core.journal = ap length c.journal-before.ensures.entries in
    let same : list ≡ signed core.opening core.mark (length core.journal) core.journal [] =
    ap (λ ns. signed core.opening core.mark before core.journal ns) c.new.ensures.items ∙ ap (λ b. signed core.opening core.mark b core.journal []) base in
    subst (λ xs. All (IsNewJob lock xs) c.seat_all.new.jobs.items) same new
