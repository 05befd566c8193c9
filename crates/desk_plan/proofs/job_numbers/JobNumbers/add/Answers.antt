use Rattle.std.proofs.Common.{◌≡◌, sym, ap, ◌∙◌, false, ℕ, ◌+◌, List, length, bytes_eq, cond, if◌then◌else◌}
use Rattle.std.specs.Prelude.{Some, is_some}
use Rattle.ordered_index.proofs.LookupLemmas.{found-text}
use Rattle.sms_script.specs.Commands.{is_admin}
use Rattle.desk_plan.specs.Plan.{number_in}
use Rattle.desk_plan.proofs.NumberingLemmas.{kept-numbered, kept-admin, length-put, one-more}
use Rattle.desk_plan.proofs.job_numbers.JobNumbers.add.Goals as goal
use Rattle.desk_plan.proofs.job_numbers.JobNumbers.add.Goals.{then-eq-via-then-eq, then-eq-via-else-eq+then-has}

-- the job gets no number, or has one
pub returns-then-eq : goal.returns-then-eq
returns-then-eq c = elim c.then-eq.branch [
  | then-eq-via-then-eq w ↦ record { added = λ jobs are. kept-admin jobs c.args.self.now c.args.job.now are (ap is_admin (sym c.bytes.ensures.bytes) ∙ sym c.eq.ensures ∙ w.if-eq.true) }
  | then-eq-via-else-eq+then-has w ↦ record { added = λ jobs are. kept-numbered jobs c.args.self.now c.args.job.now are (sym w.has.ensures ∙ w.if-has.true) }
]

-- it gets the next number
pub returns : goal.returns
returns c =
    let job = c.args.job.now in
    let rows = c.reserve.new.self.rows in
    let other : is_admin job ≡ false = ap is_admin (sym c.bytes.ensures.bytes) ∙ sym c.eq.ensures ∙ c.if-eq.false in
    let new : is_some (number_in c.args.self.now job) ≡ false = sym c.has.ensures ∙ c.if-has.false in
    let same : rows ≡ c.args.self.now = c.reserve.ensures.rows ∙ c.self.view_is in
    let number : c.self.inside.count ≡ length c.args.self.now = c.self.invariant ∙ ap length c.self.view_is in
    let longer : length c.put.new.self.rows ≡ length c.args.self.now + 1 =
    ap length c.put.ensures.rows ∙ length-put job c.self.inside.count rows (ap (λ n. is_some (number_in n job)) same ∙ new) ∙ ap (λ n. length n + 1) same in
    let put : (q : List ℕ) → number_in c.put.new.self.rows q ≡ (if bytes_eq job q then Some (length c.args.self.now) else number_in c.args.self.now q) =
    λ q. found-text job q (Some c.self.inside.count) rows c.put.new.self.rows (c.put.ensures.found q)
    ∙ ap (λ n. cond (bytes_eq job q) (Some n) (number_in rows q)) number
    ∙ ap (λ n. cond (bytes_eq job q) (Some (length c.args.self.now)) (number_in n q)) same in
    record { added = λ jobs are. one-more jobs c.args.self.now c.put.new.self.rows job are other new put longer }

-- there is one more
pub invariant_of-self-2 : goal.invariant_of-self-2
invariant_of-self-2 c =
    let job = c.args.job.now in
    let rows = c.reserve.new.self.rows in
    let new : is_some (number_in c.args.self.now job) ≡ false = sym c.has.ensures ∙ c.if-has.false in
    let same : rows ≡ c.args.self.now = c.reserve.ensures.rows ∙ c.self.view_is in
    ap (λ n. n + 1) (c.self.invariant ∙ ap length (sym c.reserve.ensures.rows))
    ∙ sym (ap length c.put.ensures.rows ∙ length-put job c.self.inside.count rows (ap (λ n. is_some (number_in n job)) same ∙ new))
