-- What had been sent when the reads were made.
use Rattle.std.proofs.Common.{◌≡◌, ◌<◌, ℕ, List, [], ◌∷◌, ◌++◌, refl, ap, sym, ◌∙◌, subst, append_assoc, append-nil}
use Rattle.std.proofs.lemmas.List.{append_cancel_left}
use Rattle.std.proofs.lemmas.List.Elements.{All-nil, All-push}
use Rattle.std.specs.Prelude.{Option, None, Some}
use Rattle.sms_base.specs.Beside.{ReadMoment, one_moment_more}
use Rattle.sms_base.specs.Observed.{Observed}
use Rattle.http_talk.specs.Hearing.{ClerkMoment, Moment}
use Rattle.http_talk.specs.Inner.Serving.{HasHeard}
use Rattle.http_talk.specs.Prompt.{IsPauseAt, PausedAtReads, IsPrompt}
use Rattle.http_talk.specs.Talking.{all_of, due}
use Rattle.http_talk.specs.declared.talk.Talk.{Talk}

-- no read was made
none_read : (old : Observed) (talks : List Talk) (told : Option (List ReadMoment)) → PausedAtReads old talks told told
none_read old talks None = refl
none_read old talks (Some before) = ([], ap (λ l. Some l) (sym (append-nil before)), All-nil (IsPauseAt old talks))

pub IsPrompt-nil : {S : Type 0} (a : ClerkMoment S) (old : Observed) (told : Option (List ReadMoment)) → IsPrompt a a old told told
IsPrompt-nil a old told = record { talks = []; grown = sym (append-nil a.talks); paused = none_read old [] told }

-- one read more
one_more : (old : Observed) (talks : List Talk) (told mid told' : Option (List ReadMoment)) (moment : ReadMoment)
    → PausedAtReads old talks told mid → IsPauseAt old talks moment → told' ≡ one_moment_more mid moment → PausedAtReads old talks told told'
one_more old talks None None told' moment h p e = e
one_more old talks None (Some mid) told' moment h p e = let is : Some mid ≡ None = h in absurd cc
one_more old talks (Some before) None told' moment h p e = let is : None ≡ Some (before ++ h.0) = h.1 in absurd cc
one_more old talks (Some before) (Some mid) told' moment h p e =
    let is : Some mid ≡ Some (before ++ h.0) = h.1 in
    let same : mid ≡ before ++ h.0 = cc in
    (h.0 ++ moment ∷ [], e ∙ ap (λ l. Some (l ++ moment ∷ [])) same ∙ ap (λ l. Some l) (append_assoc before h.0 (moment ∷ [])), All-push (IsPauseAt old talks) h.0 moment h.2 p)

-- more talks
later_at : (old : Observed) (talks more : List Talk) (moment : ReadMoment) → IsPauseAt old talks moment → IsPauseAt old (talks ++ more) moment
later_at old talks more moment h = record {
  came = h.came;
  messages = h.messages;
  rest = h.rest;
  sent = h.sent;
  firsts = h.firsts;
  others = h.others ++ more;
  consumed = h.consumed;
  reads = h.reads;
  talks_are = ap (λ l. l ++ more) h.talks_are ∙ append_assoc h.firsts h.others more;
  asked = h.asked;
  took = h.took;
  pause = h.pause;
}

later : (old : Observed) (talks more : List Talk) (told told' : Option (List ReadMoment)) → PausedAtReads old talks told told' → PausedAtReads old (talks ++ more) told told'
later old talks more None told' h = h
later old talks more (Some before) told' h = (h.0, h.1, λ k d lt. later_at old talks more _ (h.2 k d lt))

pub IsPrompt-later : {S : Type 0} (a b c : ClerkMoment S) (old : Observed) (told told' : Option (List ReadMoment)) (more : List Talk)
    → IsPrompt a b old told told' → c.talks ≡ b.talks ++ more → IsPrompt a c old told told'
IsPrompt-later a b c old told told' more h grown = record {
  talks = h.talks ++ more;
  grown = grown ∙ ap (λ l. l ++ more) h.grown ∙ append_assoc a.talks h.talks more;
  paused = later old h.talks more told told' h.paused;
}

-- between two pieces all is answered
pause_at : {S : Type 0} (old mid : Moment S) (read need : ℕ) (buffer : List ℕ) (h : HasHeard old mid read buffer need) → IsPauseAt old.link h.talks (record { left = mid.link.left; taken = mid.link.taken })
pause_at old mid read need buffer h = record {
  came = all_of h.pieces;
  messages = h.messages;
  rest = buffer;
  sent = due h.messages h.talks;
  firsts = h.talks;
  others = [];
  consumed = h.came;
  reads = h.reads;
  talks_are = sym (append-nil h.talks);
  asked = h.heard.asked;
  took = h.took;
  pause = record { sent_is = refl; goes_on = h.goes_on; waits = h.waits.now };
}

-- one read is made between two pieces
pub IsPrompt-read : {S : Type 0} (old mid : Moment S) (read need : ℕ) (buffer : List ℕ) (told before after : Option (List ReadMoment)) (beside : Option (List ℕ))
    → HasHeard old mid read buffer need → IsPrompt old.clerk mid.clerk old.link told before → beside ≡ mid.link.taken
    → after ≡ one_moment_more before (record { left = mid.link.left; taken = beside }) → IsPrompt old.clerk mid.clerk old.link told after
IsPrompt-read old mid read need buffer told before after beside h p same more =
    let talks : p.talks ≡ h.talks = append_cancel_left old.clerk.talks p.talks h.talks (sym p.grown ∙ h.heard.grown) in
    record {
      talks = h.talks;
      grown = h.heard.grown;
      paused = one_more old.link h.talks told before after _ (subst (λ l. PausedAtReads old.link l told before) talks p.paused) (pause_at old mid read need buffer h)
          (more ∙ ap (λ b. one_moment_more before (record { left = mid.link.left; taken = b })) same);
    }
