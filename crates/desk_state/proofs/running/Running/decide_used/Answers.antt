use Rattle.std.proofs.Common.{◌≡◌, ◌∙◌, ap, arith, false, subst, sym}
use Rattle.std.specs.Prelude.{nat_lt}
use Rattle.std.specs.Option.{option_copied}
use Rattle.std.proofs.lemmas.Bool.Decides.{nat_tests}
use Rattle.sms_construct.specs.declared.data_set.DataSet.{DataSet}
use Rattle.sms_construct.specs.declared.reply.Reply.TheVariants as replies
use Rattle.desk_law.specs.Extents.{tracks_of_set, with_extents}
use Rattle.desk_law.specs.Usage.{UsedRule}
use Rattle.desk_state.specs.Answering.{Answers}
use Rattle.desk_state.specs.declared.deed.Deed.TheVariants as deeds
use Rattle.desk_state.proofs.AnswerLemmas.{used-noted}
use Rattle.desk_state.proofs.running.Running.decide_used.Goals as goal

pub returns-clause-answers : goal.returns-clause-answers
returns-clause-answers c = λ s lawful is.
    let set : DataSet = c.in-Some.set.now in
    let there = sym c.found.ensures.found ∙ ap option_copied c.in-Some.is in
    let granted = c.tracks_of_set-granted.ensures ∙ ap tracks_of_set c.get-set.ensures in
    let fits : nat_lt (tracks_of_set set) c.args.tracks ≡ false = grind (arith, nat_tests) in
    let made : c.in_ok-noted.field-0 ≡ with_extents set c.args.tracks set.extents = c.in_ok-noted.ensures ∙ ap (λ (d : DataSet). with_extents d c.args.tracks d.extents) c.get-set.ensures in
    subst (λ (d : DataSet). Answers s c.args.self.now (UsedRule s c.args.dsn.now c.args.tracks) (record { reply = replies.Noted; deed = deeds.Note d })) (sym made)
    (used-noted s c.args.self.now c.args.dsn.now c.args.tracks set is there fits)
