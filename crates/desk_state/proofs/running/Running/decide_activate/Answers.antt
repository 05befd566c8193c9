use Rattle.std.proofs.Common.{ap, inl, refl, subst, sym, ◌∙◌}
use Rattle.std.specs.Prelude.{Err}
use Rattle.sms_construct.specs.declared.reply.Reply.TheVariants as replies
use Rattle.deck_meaning.specs.Reading.{HasFirstFault}
use Rattle.desk_law.specs.Activation.{ActivateRule}
use Rattle.desk_state.specs.Answering.{Answers}
use Rattle.desk_state.proofs.AnswerLemmas.{quiet-answers}
use Rattle.desk_state.proofs.WorkLemmas.{fault-found}
use Rattle.desk_state.proofs.running.Running.decide_activate.Goals as goal

pub returns-in_ok-fault-in-Err-Fault-clause-answers : goal.returns-in_ok-fault-in-Err-Fault-clause-answers
returns-in_ok-fault-in-Err-Fault-clause-answers c = λ s lawful is.
    let running = c.args.self.now in
    let deck = c.args.deck.now in
    let fault = c.in_ok-fault-in-Err-Fault.fault in
    let found : HasFirstFault deck fault =
    fault-found deck c.configuration.result c.in-Err-Fault.fault fault (c.in-Err-Fault.is ∙ ap Err c.in-Err-Fault.field-0-is) c.in_ok-fault-in-Err-Fault.ensures c.configuration.ensures in
    subst (Answers s running (ActivateRule s deck)) (sym c.quiet.ensures)
    (quiet-answers s running (ActivateRule s deck) (replies.Deck fault) (inl (record { fault = fault; found = found; leaves = record { reply_is = refl; after_is = refl } })) refl)
