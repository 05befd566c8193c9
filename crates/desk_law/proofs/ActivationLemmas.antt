-- How many activations there were, and which deck is active.
use Rattle.std.proofs.Common.{◌≡◌, ◌≤◌, ◌<◌, ℕ, ◌+◌, Bool, true, false, cond, List, [], ◌∷◌, ◌++◌, length, refl, sym}
use Rattle.std.proofs.Common.{ap, ◌∙◌, subst, arith, length-append, inl, inr}
use Rattle.std.specs.Prelude.{◌⊎◌, Option, nat_eq}
use Rattle.std.specs.List.{AllByRecursion}
use Rattle.std.proofs.lemmas.Bool.Decides.{nat_tests}
use Rattle.sms_construct.specs.Configuration.{Configuration}
use Rattle.sms_construct.specs.declared.entry.Entry.{Entry}
use Rattle.sms_construct.specs.declared.reply.Reply.{Reply}
use Rattle.sms_construct.specs.declared.reply.Reply.TheVariants as replies
use Rattle.sms_construct.specs.declared.request.Op.{Op}
use Rattle.deck_meaning.specs.Reading.{Configures}
use Rattle.sms_keeper.specs.Suits.{deck_of}
use Rattle.sms_keeper.specs.declared.deck_row.DeckRow.{DeckRow}
use Rattle.sms_keeper.specs.declared.kept_row.KeptRow.{KeptRow}
use Rattle.sms_keeper.specs.Tables.{is_reply_of}
use Rattle.desk_law.specs.State.{DeskState, Opening, start_of}
use Rattle.desk_law.specs.Activation.{activated}
use Rattle.desk_law.specs.Decked.{AreNumbered, IsActive, IsDecked, IsLastActive}
use Rattle.desk_law.specs.Kept.{all_rows, floor_of, is_fault, row_of_entry, rows_of, rows_of_entry}
use Rattle.desk_law.specs.Records.{decks_of, decks_of_entry, decks_told}
use Rattle.desk_law.specs.Step.{IsRepeat, IsStep, RepeatsReply, ReusesNumber}
use Rattle.desk_law.specs.History.{Leads}
use Rattle.desk_law.proofs.GivenLemmas.{KeepsActive, TellsActive, gives-active}
use Rattle.desk_law.proofs.PlaceLemmas.{find-each}
use Rattle.desk_law.proofs.SetLemmas.{each-append}
use Rattle.desk_law.proofs.StepLemmas.{fresh-gives, on-step}
use Rattle.desk_law.proofs.FloorLemmas.{all-rows-append, append-assoc, append-none}

-- the places of kept rows are none to come
abbrev pub AreEarlier : ℕ → List KeptRow → Type 0
AreEarlier last rows = AllByRecursion (λ (row : KeptRow). row.place ≤ last) rows

pub earlier-up : (a b : ℕ) (rows : List KeptRow) → a ≤ b → AreEarlier a rows → AreEarlier b rows
earlier-up a b [] le all = tt
earlier-up a b (row ∷ rows) le all = (let here = all.0 in omega (arith, le, here), earlier-up a b rows le all.1)

one-earlier : (b : Bool) (e : Entry) (last : ℕ) → e.answer.place ≤ last → AreEarlier last (cond b [] (row_of_entry e ∷ []))
one-earlier true e last le = tt
one-earlier false e last le = (le, tt)

rows-one : (e : Entry) → rows_of (e ∷ []) ≡ rows_of_entry e
rows-one e = append-none (rows_of_entry e)

pub earlier-push : (o : Opening) (before : List Entry) (e : Entry) → e.answer.place ≡ o.base + length before + 1 → AreEarlier (o.base + length before) (all_rows o before)
    → AreEarlier (o.base + length (before ++ e ∷ [])) (all_rows o (before ++ e ∷ []))
earlier-push o before e place all =
    let long = length-append before (e ∷ []) in
    subst (AreEarlier (o.base + length (before ++ e ∷ []))) (sym (all-rows-append o before (e ∷ []) ∙ ap (λ (l : List KeptRow). all_rows o before ++ l) (rows-one e)))
    (each-append _ (all_rows o before) (rows_of_entry e)
    (earlier-up (o.base + length before) (o.base + length (before ++ e ∷ [])) (all_rows o before) (omega (arith, long)) all)
    (one-earlier (is_fault e.answer.reply) e (o.base + length (before ++ e ∷ [])) (omega (arith, long, place))))

-- What an entry does to the decks.

-- nothing: as many activations, the same active configuration, and no deck
record StaysActive (s : DeskState) (e : Entry) (after : DeskState) : Type 0 where
  active : after.active ≡ s.active
  counted : after.activations ≡ s.activations
  no_deck : decks_of_entry e ≡ []

-- one deck
abbrev deck_alone : List ℕ → ℕ → List DeckRow
deck_alone deck n = record { count = n; bytes = deck } ∷ []

-- it activates this deck
record TakesUp (s : DeskState) (e : Entry) (after : DeskState) : Type 0 where
  deck : List ℕ
  config : Configuration
  configures : Configures deck config
  decks_are : decks_of_entry e ≡ deck_alone deck (s.activations + 1)
  after_is : after ≡ activated s config

-- the decks of an entry whose reply tells none
quiet-entry : (b : Bool) (e : Entry) → decks_told e.answer.reply (deck_of e.request.op) ≡ [] → cond b (decks_told e.answer.reply (deck_of e.request.op)) [] ≡ []
quiet-entry true e none = none
quiet-entry false e none = refl

still-active : (s : DeskState) (e : Entry) (after : DeskState) → after ≡ s → decks_of_entry e ≡ [] → StaysActive s e after
still-active s e after is none = record { active = ap (λ (t : DeskState). t.active) is; counted = ap (λ (t : DeskState). t.activations) is; no_deck = none }

-- the decks of an entry that is no repeat
own-decks : (e : Entry) → e.answer.first ≡ e.answer.place → decks_of_entry e ≡ decks_told e.answer.reply (deck_of e.request.op)
own-decks e is =
    let test : nat_eq e.answer.first e.answer.place ≡ true = grind (arith, nat_tests) in rw test refl

-- a repeat has no deck of its own
repeat-decks : (e : Entry) → e.answer.first < e.answer.place → decks_of_entry e ≡ []
repeat-decks e less =
    let test : nat_eq e.answer.first e.answer.place ≡ false = grind (arith, nat_tests) in rw test refl

told-active : (s : DeskState) (e : Entry) (after : DeskState) → e.answer.first ≡ e.answer.place → KeepsActive s e.answer.reply after ⊎ TellsActive s e.request.op e.answer.reply after
    → StaysActive s e after ⊎ TakesUp s e after
told-active s e after first (inl keeps) =
    inl (record { active = keeps.active; counted = keeps.counted; no_deck = quiet-entry (nat_eq e.answer.first e.answer.place) e (keeps.no_deck (deck_of e.request.op)) })
told-active s e after first (inr tells) =
    let becomes = tells.becomes in
    let told : decks_told e.answer.reply (deck_of e.request.op) ≡ deck_alone becomes.deck tells.count =
    ap (λ (r : Reply). decks_told r (deck_of e.request.op)) tells.reply_is ∙ ap (λ (op : Op). decks_told (replies.Activated tells.count) (deck_of op)) becomes.op_is in
    inr (record {
      deck = becomes.deck;
      config = becomes.config;
      configures = becomes.configures;
      decks_are = own-decks e first ∙ (told ∙ ap (deck_alone becomes.deck) becomes.counted);
      after_is = becomes.after_is;
    })

repeat-active : (last : ℕ) (row : KeptRow) (s : DeskState) (e : Entry) (after : DeskState) → row.place ≤ last → e.answer.place ≡ last + 1 → IsRepeat row s e after → StaysActive s e after
repeat-active last row s e after le place repeat = still-active s e after repeat.after_is (cases repeat.answer)
  where
    cases : RepeatsReply row e ⊎ ReusesNumber row e → decks_of_entry e ≡ []
    cases (inl repeats) = repeat-decks e (let first = repeats.first_is in omega (arith, le, place, first))
    cases (inr reuses) = quiet-entry (nat_eq e.answer.first e.answer.place) e (ap (λ (r : Reply). decks_told r (deck_of e.request.op)) reuses.reply_is)

step-active : (o : Opening) (before : List Entry) (s : DeskState) (e : Entry) (after : DeskState) → AreEarlier (o.base + length before) (all_rows o before) → IsStep o before s e after
    → StaysActive s e after ⊎ TakesUp s e after
step-active o before s e after earlier step =
    on-step o before s e after (StaysActive s e after ⊎ TakesUp s e after) step
    (λ below. inl (still-active s e after below.after_is (quiet-entry (nat_eq e.answer.first e.answer.place) e (ap (λ (r : Reply). decks_told r (deck_of e.request.op)) below.reply_is))))
    (λ fresh. told-active s e after fresh.first_is (gives-active s e.request.op e.answer.reply after (fresh-gives (floor_of o before) s e after fresh)))
    (λ row found repeat. inl (repeat-active (o.base + length before) row s e after
    (find-each (λ (r : KeptRow). r.place ≤ o.base + length before) (is_reply_of e.request.job e.request.number) (all_rows o before) row earlier found) step.place repeat))

-- Histories.

-- what holds of decks and a state, and stays so when an entry comes, holds behind all entries
leads-decks : (P : List DeckRow → DeskState → Type 0) → ((decks : List DeckRow) (s : DeskState) (e : Entry) (after : DeskState) → P decks s → StaysActive s e after ⊎ TakesUp s e after → P (decks ++ decks_of_entry e) after)
    → (o : Opening) (before : List Entry) (decks : List DeckRow) (s : DeskState) (es : List Entry) (after : DeskState) → AreEarlier (o.base + length before) (all_rows o before) → P decks s → Leads o before s es after
    → P (decks ++ decks_of es) after
leads-decks P step o before decks s [] after earlier holds leads = subst (λ (l : List DeckRow). P l after) (sym (append-none decks)) (subst (P decks) (sym leads) holds)
leads-decks P step o before decks s (e ∷ es) after earlier holds leads =
    let next = step decks s e leads.0 holds (step-active o before s e leads.0 earlier leads.1) in
    subst (λ (l : List DeckRow). P l after) (append-assoc decks (decks_of_entry e) (decks_of es))
    (leads-decks P step o (before ++ e ∷ []) (decks ++ decks_of_entry e) leads.0 es after (earlier-push o before e leads.1.place earlier) next leads.2)

reaches-decks : (P : List DeckRow → DeskState → Type 0) → ((decks : List DeckRow) (s : DeskState) (e : Entry) (after : DeskState) → P decks s → StaysActive s e after ⊎ TakesUp s e after → P (decks ++ decks_of_entry e) after)
    → (o : Opening) (h : List Entry) (s : DeskState) → AreEarlier o.base o.rows.replies → P o.rows.decks (start_of o) → Leads o [] (start_of o) h s → P (o.rows.decks ++ decks_of h) s
reaches-decks P step o h s earlier holds leads =
    leads-decks P step o [] o.rows.decks (start_of o) h s (subst (AreEarlier (o.base + 0)) (sym (append-none o.rows.replies)) (earlier-up o.base (o.base + 0) o.rows.replies (omega arith) earlier)) holds leads

-- as many decks as activations
abbrev AreCounted : List DeckRow → DeskState → Type 0
AreCounted decks s = s.activations ≡ length decks

counted-step : (decks : List DeckRow) (s : DeskState) (e : Entry) (after : DeskState) → AreCounted decks s → StaysActive s e after ⊎ TakesUp s e after → AreCounted (decks ++ decks_of_entry e) after
counted-step decks s e after counted (inl stays) =
    let none : length (decks_of_entry e) ≡ 0 = ap length stays.no_deck in
    let same = stays.counted in
    omega (arith, counted, same, none, length-append decks (decks_of_entry e))
counted-step decks s e after counted (inr takes) =
    let one : length (decks_of_entry e) ≡ 1 = ap length takes.decks_are in
    let more : after.activations ≡ s.activations + 1 = ap (λ (t : DeskState). t.activations) takes.after_is in
    omega (arith, counted, more, one, length-append decks (decks_of_entry e))

pub reaches-counts : (o : Opening) (h : List Entry) (s : DeskState) → AreEarlier o.base o.rows.replies → Leads o [] (start_of o) h s → s.activations ≡ length o.rows.decks + length (decks_of h)
reaches-counts o h s earlier leads = reaches-decks AreCounted counted-step o h s earlier refl leads ∙ length-append o.rows.decks (decks_of h)

-- one deck more
numbered-push : (before : ℕ) (decks : List DeckRow) (deck : DeckRow) → AreNumbered before decks → deck.count ≡ before + length decks + 1 → AreNumbered before (decks ++ deck ∷ [])
numbered-push before [] deck all is = (omega (arith, is), tt)
numbered-push before (d ∷ decks) deck all is = (all.0, numbered-push (before + 1) decks deck all.1 (omega (arith, is)))

last-push : (decks : List DeckRow) (deck : DeckRow) (active : Option Configuration) → IsActive deck active → IsLastActive (decks ++ deck ∷ []) active
last-push [] deck active is = is
last-push (d ∷ []) deck active is = is
last-push (d ∷ next ∷ decks) deck active is = last-push (next ∷ decks) deck active is

decked-step : (decks : List DeckRow) (s : DeskState) (e : Entry) (after : DeskState) → IsDecked decks s → StaysActive s e after ⊎ TakesUp s e after → IsDecked (decks ++ decks_of_entry e) after
decked-step decks s e after decked (inl stays) =
    let same : decks ++ decks_of_entry e ≡ decks = ap (λ (l : List DeckRow). decks ++ l) stays.no_deck ∙ append-none decks in
    record {
      counted = counted-step decks s e after decked.counted (inl stays);
      numbered = subst (AreNumbered 0) (sym same) decked.numbered;
      last = subst (λ (l : List DeckRow). IsLastActive l after.active) (sym same) (subst (IsLastActive decks) (sym stays.active) decked.last);
    }
decked-step decks s e after decked (inr takes) =
    let more : decks ++ decks_of_entry e ≡ decks ++ deck_alone takes.deck (s.activations + 1) = ap (λ (l : List DeckRow). decks ++ l) takes.decks_are in
    let count = decked.counted in
    record {
      counted = counted-step decks s e after decked.counted (inr takes);
      numbered = subst (AreNumbered 0) (sym more) (numbered-push 0 decks (record { count = s.activations + 1; bytes = takes.deck }) decked.numbered (omega (arith, count)));
      last = subst (λ (l : List DeckRow). IsLastActive l after.active) (sym more)
          (last-push decks (record { count = s.activations + 1; bytes = takes.deck }) after.active
          (record { config = takes.config; configures = takes.configures; active_is = ap (λ (t : DeskState). t.active) takes.after_is }));
    }

pub reaches-decked : (o : Opening) (h : List Entry) (s : DeskState) → AreEarlier o.base o.rows.replies → IsDecked o.rows.decks (start_of o) → Leads o [] (start_of o) h s → IsDecked (o.rows.decks ++ decks_of h) s
reaches-decked o h s earlier decked leads = reaches-decks IsDecked decked-step o h s earlier decked leads
