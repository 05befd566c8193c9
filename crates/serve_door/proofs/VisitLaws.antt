-- One more visit.
use Rattle.std.proofs.Common.{◌≡◌, ◌≤◌, ◌<◌, ◌+◌, ◌==◌, ℕ, false, List, [], ◌∷◌, ◌++◌, length, map, refl, ap, sym, ◌∙◌}
use Rattle.std.proofs.Common.{arith, inl, inr, append-nil, length-append, if◌then◌else◌}
use Rattle.std.specs.Prelude.{suc, Option, None, Some, MatchOption}
use Rattle.std.proofs.Math.Bool.{and-false}
use Rattle.std.proofs.lemmas.Bool.{ne_eqb}
use Rattle.std.proofs.lemmas.Grind.{flat_map-append}
use Rattle.std.proofs.lemmas.List.{map_push, length-map}
use Rattle.std.proofs.lemmas.List.Elements.{All-nil, All-push}
use Rattle.desk_common.specs.Causes.{Rose, counted}
use Rattle.sms_base.specs.Counts.{after_calls, one_call_more}
use Rattle.sms_base.specs.Door.{IsFair, faults_behind}
use Rattle.sms_base.specs.Observed.{Observed}
use Rattle.http_message.specs.Message.{Message}
use Rattle.http_talk.specs.Conversation.{IsConversation, IsEnd, NoFault}
use Rattle.http_talk.specs.declared.end.End.{End}
use Rattle.http_talk.specs.declared.end.End.TheVariants as ends
use Rattle.http_talk.specs.declared.talk.Talk.{Talk}
use Rattle.serve_door.specs.declared.visit.Visit.{Visit}
use Rattle.serve_door.specs.Doors.{DoorMoment}
use Rattle.serve_door.specs.Visits.{IsServedLink, IsVisit, Served, Serves, counted_for, counted_over, is_link_fault}
use Rattle.serve_door.specs.Visits.{talks_of}
use Rattle.serve_door.proofs.DoorLaws.{CameBack-more, CameBack-nil, WereGiven-more, WereGiven-nil, if_told}

-- Talks.

pub talks_of-push : (visits : List Visit) (visit : Visit) → talks_of (visits ++ visit ∷ []) ≡ talks_of visits ++ visit.talks
talks_of-push visits visit = flat_map-append (λ (v : Visit). v.talks) visits (visit ∷ []) ∙ ap (λ l. talks_of visits ++ l) (append-nil visit.talks)

-- Calls of the door.

-- one link more was asked for
pub after_calls-push : (told : Option ℕ) (visits : List Visit) (visit : Visit) → after_calls told (length (visits ++ visit ∷ [])) ≡ one_call_more (after_calls told (length visits))
after_calls-push told visits visit =
    let e : length (visits ++ visit ∷ []) ≡ suc (length visits) = omega (arith, length-append visits (visit ∷ [])) in
    rw e refl

-- no call more
pub after_calls-none : (told : Option ℕ) (n : ℕ) → after_calls told (n + 0) ≡ after_calls told n
after_calls-none told n = let e : n + 0 ≡ n = omega arith in rw e refl

-- one call more
pub after_calls-one : (told : Option ℕ) (n : ℕ) → after_calls told (n + 1) ≡ one_call_more (after_calls told n)
after_calls-one told n = let e : n + 1 ≡ suc n = omega arith in rw e refl

-- Counts of link faults.

-- a link without faults isn't counted
unfaulted : (old new : Observed) (faults : ℕ) → old.read_faults ≡ 0 → old.write_faults ≡ 0 → NoFault old new → faults_behind faults new.read_faults new.write_faults ≡ faults
unfaulted old new faults reads writes none = rw (none.reading ∙ reads, none.writing ∙ writes) refl

rose-some : (n : ℕ) → Rose 0 n → (n == 0) ≡ false
rose-some n rose = ne_eqb n 0 (λ is. absurd (omega (arith, rose, is)))

-- a link whose reads failed is counted
read-faulted : (old new : Observed) (faults : ℕ) → old.read_faults ≡ 0 → Rose old.read_faults new.read_faults → faults_behind faults new.read_faults new.write_faults ≡ counted faults
read-faulted old new faults reads rose = rw (rose-some new.read_faults (rw reads at rose)) refl

-- a link whose writes failed is counted
write-faulted : (old new : Observed) (faults : ℕ) → old.write_faults ≡ 0 → Rose old.write_faults new.write_faults → faults_behind faults new.read_faults new.write_faults ≡ counted faults
write-faulted old new faults writes rose = rw (rose-some new.write_faults (rw writes at rose), and-false (new.read_faults == 0)) refl

-- a link is counted where a fault of it ended the conversation
end-counted : (turns : ℕ) (old new : Observed) (pieces : ℕ) (messages : List Message) (talks : List Talk) (rest sent : List ℕ) (end : End) (faults : ℕ)
    → old.read_faults ≡ 0 → old.write_faults ≡ 0 → IsEnd turns old new pieces messages talks rest sent end
    → faults_behind faults new.read_faults new.write_faults ≡ (if is_link_fault end then counted faults else faults)
end-counted turns old new pieces messages talks rest sent (ends.Closed cut) faults reads writes (inl stop) = unfaulted old new faults reads writes stop.0
end-counted turns old new pieces messages talks rest sent (ends.Closed cut) faults reads writes (inr input) = unfaulted old new faults reads writes input.0
end-counted turns old new pieces messages talks rest sent ends.ReadFault faults reads writes end = read-faulted old new faults reads end.3
end-counted turns old new pieces messages talks rest sent ends.WriteFault faults reads writes end = write-faulted old new faults writes end.1
end-counted turns old new pieces messages talks rest sent (ends.Refused status) faults reads writes end = unfaulted old new faults reads writes end.0
end-counted turns old new pieces messages talks rest sent ends.Turns faults reads writes end = unfaulted old new faults reads writes end.0
end-counted turns old new pieces messages talks rest sent ends.NoMemory faults reads writes end = unfaulted old new faults reads writes end.0

visit-counted : (turns : ℕ) (old new : Observed) (visit : Visit) (faults : ℕ) → old.read_faults ≡ 0 → old.write_faults ≡ 0 → IsConversation turns old new visit.talks visit.end
    → faults_behind faults new.read_faults new.write_faults ≡ counted_for faults visit
visit-counted turns old new visit faults reads writes talk = end-counted turns old new _ _ visit.talks _ _ visit.end faults reads writes talk.is_end

counted_over-push : (faults : ℕ) (visits : List Visit) (visit : Visit) → counted_over faults (visits ++ visit ∷ []) ≡ counted_for (counted_over faults visits) visit
counted_over-push faults [] visit = refl
counted_over-push faults (v ∷ visits) visit = counted_over-push (counted_for faults v) visits visit

-- Visits.

-- no link was served
pub Serves-nil : {C : Type 0} (seen : C → Observed) (door : DoorMoment C) → Serves seen door door []
Serves-nil {C} seen door = record {
  served = [];
  visits_are = refl;
  each = All-nil (IsVisit seen);
  given = omega arith;
  waiting = WereGiven-nil door.waiting;
  back = CameBack-nil door.back;
  link_faults = refl;
}

-- the next link was given
pub record WasGiven {C : Type 0} (seen : C → Observed) (old new : DoorMoment C) (link : C) : Type 0 where
  pub given : new.given ≡ old.given + 1
  pub waiting : MatchOption old.waiting (new.waiting ≡ None) (λ all. (rest : List C) × (all ≡ link ∷ rest) × (new.waiting ≡ Some rest))
  pub reads : (seen link).read_faults ≡ 0
  pub writes : (seen link).write_faults ≡ 0
  pub fair : IsFair old.given old.back
  pub back : new.back ≡ old.back
  pub link_faults : new.link_faults ≡ old.link_faults
  pub door_faults : new.door_faults ≡ old.door_faults

-- one more link was served
pub Serves-more : {C : Type 0} (seen : C → Observed) (old mid opened new : DoorMoment C) (visits : List Visit) (link : C) (visit : Visit)
    → Serves seen old mid visits → WasGiven seen mid opened link → IsServedLink seen opened new link visit → Serves seen old new (visits ++ visit ∷ [])
Serves-more {C} seen old mid opened new visits link visit before came served =
    let one : Served C = record { given = link; back = served.after; visit = visit } in
    record {
      served = before.served ++ one ∷ [];
      visits_are = ap (λ l. l ++ visit ∷ []) before.visits_are ∙ sym (map_push (λ (s : Served C). s.visit) before.served one);
      each = All-push (IsVisit seen) before.served one before.each (record { reads = came.reads; writes = came.writes; conversation = served.conversation });
      given = omega (arith, served.given, came.given, before.given, length-append visits (visit ∷ []));
      waiting = rw (served.waiting, map_push (λ (s : Served C). s.given) before.served one)
          (WereGiven-more old.waiting mid.waiting opened.waiting (map (λ (s : Served C). s.given) before.served) link before.waiting came.waiting);
      back = rw (map_push (λ (s : Served C). s.back) before.served one)
          (CameBack-more old.back mid.back new.back opened.given (map (λ (s : Served C). s.back) before.served) served.after before.back (rw came.back at served.back)
          (if_told (λ (back : List C). length back ≤ mid.given) (λ (back : List C). length back < opened.given) mid.back
          (λ back few. omega (arith, few, came.given)) came.fair));
      link_faults = served.link_faults ∙ visit-counted _ (seen link) (seen served.after) visit opened.link_faults came.reads came.writes served.conversation
          ∙ ap (λ n. counted_for n visit) (came.link_faults ∙ before.link_faults) ∙ sym (counted_over-push old.link_faults visits visit);
    }
