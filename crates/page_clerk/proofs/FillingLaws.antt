-- One more request of a clerk whose journal isn't full.
use Rattle.std.proofs.Common.{◌≡◌, ◌≢◌, ◌++◌, ◌+◌, ◌∷◌, [], ◌∙◌, ℕ, List, ap, append-nil, arith, refl}
use Rattle.std.specs.Prelude.{cond, min, nat_le}
use Rattle.std.proofs.lemmas.List.Elements.{All-push}
use Rattle.std.proofs.lemmas.List.Sums.{sum_by_push}
use Rattle.sms_construct.specs.declared.reply.Reply.TheVariants as replies
use Rattle.http_talk.specs.declared.talk.Talk.{Talk}
use Rattle.desk_law.specs.Step.{is_activation}
use Rattle.sms_core.specs.Core.{CoreView, entry_of}
use Rattle.desk_http.specs.Entered.{HasEntered}
use Rattle.page_clerk.specs.Filling.{AreUnfilled, activations_in, many_activations}

-- a request that is answered that the journal is full isn't entered
pub entered_still : {P : Type 0} (start core core' : CoreView P) (talks : List Talk) (talk : Talk) → HasEntered start core talks → core'.opening ≡ core.opening → core'.mark ≡ core.mark → core'.journal ≡ core.journal ++ entry_of talk.request talk.answer → talk.answer.reply ≡ replies.JournalFull → HasEntered start core' talks
entered_still start core core' talks talk h opening mark journal full =
    let none : entry_of talk.request talk.answer ≡ [] = rw full refl in
    let same : core'.journal ≡ core.journal = journal ∙ ap (λ l. core.journal ++ l) none ∙ append-nil core.journal in
    record { opening = opening ∙ h.opening; mark = mark ∙ h.mark; journal = same ∙ h.journal; placed = rw same h.placed }

pub unfilled_more : (talks : List Talk) (talk : Talk) → AreUnfilled talks → talk.answer.reply ≢ replies.JournalFull → AreUnfilled (talks ++ talk ∷ [])
unfilled_more talks talk h other = All-push (λ (t : Talk). t.answer.reply ≢ replies.JournalFull) talks talk h other

-- the count of activations behind one more request
pub asked_more : (talks : List Talk) (talk : Talk) (asked asked' : ℕ) → asked ≡ min (activations_in talks) many_activations → asked' ≡ min (asked + cond (is_activation talk.request.op) 1 0) many_activations → asked' ≡ min (activations_in (talks ++ talk ∷ [])) many_activations
asked_more talks talk asked asked' before after =
    let push : activations_in (talks ++ talk ∷ []) ≡ activations_in talks + cond (is_activation talk.request.op) 1 0 = sum_by_push (λ (t : Talk). cond (is_activation t.request.op) 1 0) talks talk in
    omega (arith, before, after, push)

-- up to many it tells whether there are many
pub often : (n asked : ℕ) → asked ≡ min n many_activations → nat_le many_activations asked ≡ nat_le many_activations n
often n asked is = grind (arith, is)
