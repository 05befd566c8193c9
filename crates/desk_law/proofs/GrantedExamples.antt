-- What a grant comes from, and what changes nothing, at worked examples.
use Rattle.std.proofs.Common.{◌≡◌, ℕ, false, List, refl, ap, arith, ◌∙◌}
use Rattle.std.specs.Prelude.{codes}
use Rattle.sms_construct.specs.declared.data_set.DataSet.{DataSet}
use Rattle.sms_construct.specs.declared.entry.Entry.{Entry}
use Rattle.sms_construct.specs.declared.reply.Reply.TheVariants as replies
use Rattle.sms_construct.specs.declared.request.Op.TheVariants as ops
use Rattle.sms_construct.specs.declared.trace.Trace.{Trace}
use Rattle.sms_construct.specs.declared.view.View.{View}
use Rattle.desk_law.specs.Changes.{NoChange, consequence_of, may_change}
use Rattle.desk_law.specs.Grants.{WasEntered}
use Rattle.desk_law.specs.State.{Opening}
use Rattle.desk_law.proofs.StepExamples.{entry}

-- what is shown changes nothing
shown : (view : View) → consequence_of (replies.Shown view) ≡ NoChange
shown view = refl

shown-stays : (view : View) → may_change (replies.Shown view) ≡ false
shown-stays view = refl

-- the grant of request 1 isn't that of request 2 of the same job, though they ask for the same
abbrev first : Entry
first = entry (codes "JOB1") 1 (ops.Delete (codes "A.B")) 1 1 replies.NotFound

abbrev second : Entry
second = entry (codes "JOB1") 2 (ops.Delete (codes "A.B")) 2 1 replies.NotFound

other-number : (o : Opening) (front : List Entry) (set : DataSet) (trace : Trace) (was : WasEntered o front second set trace) → was.one ≡ first → ⊥
other-number o front set trace was one =
    let same : 2 ≡ 1 = was.number_is ∙ ap (λ (e : Entry). e.request.number) one in omega (arith, same)
