-- What a step adds to the signed list.
use Rattle.std.proofs.Common.{◌≡◌, inl, inr, ℕ, ◌+◌, ◌++◌, ◌∷◌, true, false, List, [], length, append-nil, refl, sym}
use Rattle.std.proofs.Common.{ap, ◌∙◌}
use Rattle.std.specs.Prelude.{Option}
use Rattle.sms_construct.specs.declared.entry.Answer.{Answer}
use Rattle.sms_construct.specs.declared.entry.Entry.{Entry}
use Rattle.sms_construct.specs.declared.reply.Reply.TheVariants as replies
use Rattle.sms_construct.specs.declared.request.Request.{Request}
use Rattle.sms_keeper.specs.declared.rows.Rows.{Rows}
use Rattle.turn_lock.specs.declared.signed.Signed.{Signed}
use Rattle.desk_law.specs.State.{Opening}
use Rattle.desk_law.specs.Kept.{is_entered}
use Rattle.sms_core.specs.Core.{Enters, entry_of}
use Rattle.desk_signing.specs.declared.event.Event.{Event}
use Rattle.desk_signing.specs.Signing.{by_seat, entries_in, opening_in, signed}
use Rattle.desk_signing.proofs.SignLemmas.{by_seat_entries, entries_append, signed_entries, signed_push}
use Rattle.sms_desk.specs.Holding.{GoesOn}
use Rattle.sms_desk.specs.Signed.{Adds}

-- the answer has an entry, which got the seat's number
pub adds-made : (o o' : Opening) (mark mark' before : ℕ) (js js' : List Entry) (ns ns' : List ℕ) (told told' : Option Rows) (count count' number : ℕ) (request : Request) (answer : Answer)
    → Enters o js js' told told' count count' request answer → is_entered answer.reply ≡ true → o' ≡ o → mark' ≡ mark → ns' ≡ ns ++ number ∷ [] → length js ≡ before + length ns
    → Adds (signed o mark before js ns) (signed o' mark' before js' ns') number request answer
adds-made o o' mark mark' before js js' ns ns' told told' count count' number request answer enters is same_o same_mark grown counted =
    let one : entry_of request answer ≡ record { request = request; answer = answer } ∷ [] = rw is refl in
    let entries = signed_entries o mark before js ns in
    rw (same_o, same_mark) (record {
      list_is = rw (grown, enters.journal_is, one) (signed_push o mark before js ns (record { request = request; answer = answer }) number counted);
      lawful = λ _. rw entries (enters.lawful is);
      no_place = enters.no_place;
      full = λ full. rw entries (enters.full.0 full);
      told = λ full. inl (enters.full.1 (rw entries at full));
    })

-- the answer has no entry
pub adds-none : (o o' : Opening) (mark mark' before : ℕ) (js js' : List Entry) (ns ns' : List ℕ) (told told' : Option Rows) (count count' number : ℕ) (request : Request) (answer : Answer)
    → Enters o js js' told told' count count' request answer → is_entered answer.reply ≡ false → o' ≡ o → mark' ≡ mark → ns' ≡ ns
    → Adds (signed o mark before js ns) (signed o' mark' before js' ns') number request answer
adds-none o o' mark mark' before js js' ns ns' told told' count count' number request answer enters none same_o same_mark same_ns =
    let nothing : entry_of request answer ≡ [] = rw none refl in
    let entries = signed_entries o mark before js ns in
    let still : js' ≡ js = enters.journal_is ∙ ap (λ es. js ++ es) nothing ∙ append-nil js in
    rw (same_o, same_mark, same_ns, still) (record {
      list_is = rw nothing (sym (append-nil (signed o mark before js ns)));
      lawful = λ is. rw entries (enters.lawful is);
      no_place = enters.no_place;
      full = λ full. rw entries (enters.full.0 full);
      told = λ full. inl (enters.full.1 (rw entries at full));
    })

-- memory was wanting
pub adds-nothing : (list : List (Signed Event)) (number : ℕ) (request : Request) (answer : Answer) → answer ≡ record { place = 0; first = 0; reply = replies.Memory }
    → Adds list list number request answer
adds-nothing list number request answer is = rw is (record {
  list_is = sym (append-nil list);
  lawful = λ entered. (let no : false ≡ true = entered in absurd cc);
  no_place = λ _. (refl, refl);
  full = λ full. (let no : replies.Memory ≡ replies.JournalFull = full in absurd cc);
  told = λ _. inr refl;
})

-- the entries of the list go on by the answer's
pub adds-goes-on : (old new : List (Signed Event)) (number : ℕ) (request : Request) (answer : Answer) → Adds old new number request answer
    → GoesOn (opening_in old) (entries_in old) (entries_in new) request answer
adds-goes-on old new number request answer adds = record {
  grown = ap entries_in adds.list_is ∙ entries_append old (by_seat number (entry_of request answer)) ∙ ap (λ es. entries_in old ++ es) (by_seat_entries number (entry_of request answer));
  lawful = adds.lawful;
}
