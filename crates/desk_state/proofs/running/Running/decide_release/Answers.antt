use Rattle.std.proofs.Common.{◌≡◌, ◌-◌, ◌∙◌, ℕ, ap, subst, sym}
use Rattle.std.specs.Prelude.{IfSome}
use Rattle.std.specs.Option.{option_copied}
use Rattle.sms_construct.specs.declared.data_set.DataSet.{DataSet}
use Rattle.sms_construct.specs.declared.reply.Reply.TheVariants as replies
use Rattle.desk_law.specs.Extents.{tracks_of_set}
use Rattle.desk_law.specs.Releasing.{ReleaseRule, kept_of}
use Rattle.sms_volumes.specs.Changing.{IsFront}
use Rattle.desk_state.specs.Answering.{Answers}
use Rattle.desk_state.specs.Catalog.{set_in}
use Rattle.desk_state.specs.declared.deed.Deed.TheVariants as deeds
use Rattle.desk_state.proofs.AnswerLemmas.{release-done}
use Rattle.desk_state.proofs.StandLemmas.{found-front}
use Rattle.desk_state.proofs.running.Running.decide_release.Goals as goal

pub returns-clause-answers : goal.returns-clause-answers
returns-clause-answers c = λ s lawful is.
    let set : DataSet = c.in-Some.set.now in
    let there = sym c.found.ensures.found ∙ ap option_copied c.in-Some.is in
    let made : c.in_ok-kept.kept ≡ kept_of set = c.in_ok-kept.ensures ∙ ap kept_of c.get-set.ensures in
    let tracks : c.freed.result ≡ tracks_of_set set - tracks_of_set (kept_of set) = c.freed.ensures ∙ ap (λ (d : DataSet). tracks_of_set d - tracks_of_set (kept_of d)) c.get-set.ensures in
    subst (λ (d : DataSet). Answers s c.args.self.now (ReleaseRule s c.args.dsn.now) (record { reply = replies.Released c.freed.result; deed = deeds.Keep d })) (sym made)
    (subst (λ (n : ℕ). Answers s c.args.self.now (ReleaseRule s c.args.dsn.now) (record { reply = replies.Released n; deed = deeds.Keep (kept_of set) })) (sym tracks)
    (release-done s c.args.self.now c.args.dsn.now set is there))

pub returns-clause-possible : goal.returns-clause-possible
returns-clause-possible c =
    let set : DataSet = c.in-Some.set.now in
    let there = sym c.found.ensures.found ∙ ap option_copied c.in-Some.is in
    let made : c.in_ok-kept.kept ≡ kept_of set = c.in_ok-kept.ensures ∙ ap kept_of c.get-set.ensures in
    subst (λ (d : DataSet). IfSome (set_in d.dsn c.args.self.now.catalog.sets) (λ (old : DataSet). IsFront d.extents old.extents)) (sym made)
    (found-front c.args.self.now c.requires c.args.dsn.now set there)
