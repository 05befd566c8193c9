-- What a seat holds, as the history goes on.
use Rattle.std.proofs.Common.{◌≡◌, ◌⊎◌, inl, inr, ◌<◌, ◌≤◌, ℕ, ◌+◌, ◌==◌, Bool, true, false, List, [], ◌∷◌, ◌++◌}
use Rattle.std.proofs.Common.{length, append-nil, eqb-true, eq-eqb, refl, sym, ap, subst, ◌∙◌, arith}
use Rattle.std.proofs.lemmas.Bool.{cases_Bool}
use Rattle.std.specs.List.{AllByRecursion}
use Rattle.std.specs.Result.{is_err}
use Rattle.std.specs.Prelude.{OnErr, OnOk, Option, None, Some, Result, Ok, Err}
use Rattle.sms_construct.specs.Configuration.{Configuration}
use Rattle.sms_construct.specs.declared.entry.Answer.{Answer}
use Rattle.sms_construct.specs.declared.entry.Entry.{Entry}
use Rattle.sms_construct.specs.declared.request.Op.TheVariants as ops
use Rattle.sms_construct.specs.declared.request.Request.{Request}
use Rattle.deck_meaning.specs.Reading.{Configures}
use Rattle.sms_keeper.specs.declared.deck_row.DeckRow.{DeckRow}
use Rattle.turn_lock.specs.declared.signed.Signed.{Signed}
use Rattle.turn_lock.specs.Views.{StartsWith}
use Rattle.desk_law.specs.State.{DeskState, Opening, start_of}
use Rattle.desk_law.specs.History.{IsLegal, Reaches, WasActive}
use Rattle.desk_law.specs.Kept.{floor_of, is_entered}
use Rattle.desk_law.specs.Step.{IsStep}
use Rattle.desk_law.specs.Decked.{IsDecked, IsLastActive}
use Rattle.desk_law.specs.Records.{decks_of}
use Rattle.desk_law.proofs.ActivationLemmas.{reaches-decked}
use Rattle.desk_law.proofs.ActiveLemmas.{active-once}
use Rattle.desk_law.proofs.DeckLemmas.{one-configuration}
use Rattle.desk_law.proofs.GivenLemmas.{KeepsActive, TellsActive, gives-active}
use Rattle.desk_law.proofs.HistoryLemmas.{leads-one, leads-push}
use Rattle.desk_law.proofs.StepLemmas.{fresh-gives, on-step}
use Rattle.desk_state.specs.declared.work.Work.{Work}
use Rattle.desk_state.proofs.WorkLemmas.{active-longer, work-longer}
use Rattle.acs_tree.specs.Slates.{SlateLines}
use Rattle.sms_core.specs.Core.{entry_of}
use Rattle.desk_signing.specs.declared.event.Event.{Event}
use Rattle.desk_signing.specs.Signing.{entries_in, opening_in}
use Rattle.desk_signing.proofs.SignLemmas.{entries-starts, opening-starts}
use Rattle.sms_desk.specs.declared.held.Held.{Held}
use Rattle.sms_desk.specs.Holding.{GoesOn, IsCurrent, IsHeldIn, IsHolding, IsOwn, held_count, held_under, holds}
use Rattle.sms_desk.specs.Holding.{renewed}
use Rattle.sms_desk.specs.Seats.{HoldsOf, IsWorkFor}

-- Longer histories.

pub holding-longer : (o : Opening) (h more : List Entry) (held : Option Held) → IsHolding o h held → IsHolding o (h ++ more) held
holding-longer o h more None is = tt
holding-longer o h more (Some held) is = active-longer o h more held.count held.config is

pub holding-starts : (list seen : List (Signed Event)) (held : Option Held) → StartsWith list seen → 0 < length seen → HoldsOf seen held → HoldsOf list held
holding-starts list seen held starts some is = rw (opening-starts list seen starts some, entries-starts list seen starts) (holding-longer (opening_in seen) (entries_in seen) (entries_in starts.0) held is)

pub work-starts : (list seen : List (Signed Event)) (request : Request) (written : SlateLines) (work : Work) → StartsWith list seen → 0 < length seen → IsWorkFor seen request written work
    → IsWorkFor list request written work
work-starts list seen request written work starts some is =
    rw (opening-starts list seen starts some, entries-starts list seen starts) (work-longer (opening_in seen) (entries_in seen) (entries_in starts.0) request written work is)

-- What is active.

-- the configuration that is active was so after as many activations as there were
pub was-now : (o : Opening) (h : List Entry) (s : DeskState) (count : ℕ) (config : Configuration) → Reaches o h s → count ≡ s.activations → s.active ≡ Some config → WasActive o h count config
was-now o h s count config reaches counted active =
    record { front = h; rest = []; whole = sym (append-nil h); state = s; reaches = reaches; counted = sym counted; active = active }

pub current-holding : (o : Opening) (h : List Entry) (held : Option Held) → IsLegal o h → IsCurrent o h held → IsHolding o h held
current-holding o h None legal current = tt
current-holding o h (Some held) legal current = let now = current legal.0 legal.1 in was-now o h legal.0 held.count held.config legal.1 now.0 now.1

-- the configuration that is held under the present count is the active one
pub held-current : (o : Opening) (h : List Entry) (held : Option Held) (count : ℕ) (config : Configuration) → holds held count ≡ true → IsHolding o h held
    → ((s : DeskState) → Reaches o h s → (count ≡ s.activations) × (s.active ≡ Some config)) → IsCurrent o h held
held-current o h None count config is holding active s reaches = absurd cc
held-current o h (Some held) count config is holding active s reaches =
    let now = active s reaches in
    let same : held.count ≡ count = eqb-true held.count count is in
    let one : held.config ≡ config = active-once o h count held.config config (subst (λ n. WasActive o h n held.config) same holding) (was-now o h s count config reaches now.0 now.1) in
    (same ∙ now.0, now.1 ∙ ap Some (sym one))

-- A step.

-- what a deck of the request configures has become active, and isn't held
record HasActivated (request : Request) (held : Option Held) (s : DeskState) : Type 0 where
  deck : List ℕ
  op_is : request.op ≡ ops.Activate deck
  config : Configuration
  configures : Configures deck config
  active_is : s.active ≡ Some config
  not_held : holds held s.activations ≡ false

held-same : (s after : DeskState) (held : Option Held) → after.active ≡ s.active → after.activations ≡ s.activations → IsHeldIn s held → IsHeldIn after held
held-same s after None active counted is = active ∙ is
held-same s after (Some held) active counted is = (is.0 ∙ sym counted, active ∙ is.1)

not-one-more : (n m : ℕ) → n ≡ m → (n == m + 1) ≡ false
not-one-more n m is = elim (cases_Bool (n == m + 1)) [
  | inl hit ↦ let same = eqb-true n (m + 1) hit in absurd (omega (arith, is, same))
  | inr not ↦ not
]

not-held : (s after : DeskState) (held : Option Held) → after.activations ≡ s.activations + 1 → IsHeldIn s held → holds held after.activations ≡ false
not-held s after None counted is = refl
not-held s after (Some held) counted is = rw counted (not-one-more held.count s.activations is.0)

told-held : (s : DeskState) (e : Entry) (after : DeskState) (held : Option Held) → IsHeldIn s held → KeepsActive s e.answer.reply after ⊎ TellsActive s e.request.op e.answer.reply after
    → IsHeldIn after held ⊎ HasActivated e.request held after
told-held s e after held is (inl keeps) = inl (held-same s after held keeps.active keeps.counted is)
told-held s e after held is (inr tells) =
    let became = tells.becomes in
    let counted : after.activations ≡ s.activations + 1 = ap (λ (t : DeskState). t.activations) became.after_is in
    inr (record {
      deck = became.deck;
      op_is = became.op_is;
      config = became.config;
      configures = became.configures;
      active_is = ap (λ (t : DeskState). t.active) became.after_is;
      not_held = not-held s after held counted is;
    })

step-held : (o : Opening) (before : List Entry) (s : DeskState) (e : Entry) (after : DeskState) (held : Option Held) → IsHeldIn s held → IsStep o before s e after
    → IsHeldIn after held ⊎ HasActivated e.request held after
step-held o before s e after held is step =
    on-step o before s e after (IsHeldIn after held ⊎ HasActivated e.request held after) step
    (λ below. inl (subst (λ (t : DeskState). IsHeldIn t held) (sym below.after_is) is))
    (λ fresh. told-held s e after held is (gives-active s e.request.op e.answer.reply after (fresh-gives (floor_of o before) s e after fresh)))
    (λ row found repeat. inl (subst (λ (t : DeskState). IsHeldIn t held) (sym repeat.after_is) is))

-- what was active before the answer's entry is so behind it, or its own deck's configuration has become active
goes-on-held : (o : Opening) (old new : List Entry) (request : Request) (answer : Answer) (held : Option Held) (entered : Bool) → is_entered answer.reply ≡ entered → GoesOn o old new request answer
    → IsCurrent o old held → (t : DeskState) → Reaches o new t → IsHeldIn t held ⊎ HasActivated request held t
goes-on-held o old new request answer held false none goes current t reaches =
    let nothing : entry_of request answer ≡ [] = rw none refl in
    let still : new ≡ old = goes.grown ∙ ap (λ es. old ++ es) nothing ∙ append-nil old in
    inl (current t (subst (λ (h : List Entry). Reaches o h t) still reaches))
goes-on-held o old new request answer held true is goes current t reaches =
    let e : Entry = record { request = request; answer = answer } in
    let one : entry_of request answer ≡ e ∷ [] = rw is refl in
    let grown : new ≡ old ++ e ∷ [] = goes.grown ∙ ap (λ es. old ++ es) one in
    let next = goes.lawful is in
    let there : Reaches o (old ++ e ∷ []) next.after = leads-push o [] (start_of o) old e next.state next.after next.reaches next.step in
    let same : next.after ≡ t = leads-one o [] (start_of o) (old ++ e ∷ []) next.after t there (subst (λ (h : List Entry). Reaches o h t) grown reaches) in
    subst (λ (s : DeskState). IsHeldIn s held ⊎ HasActivated request held s) same (step-held o old next.state e next.after held (current next.state next.reaches) next.step)

-- nothing is active: what was held was nothing
pub renewed-none : (o : Opening) (old new : List Entry) (request : Request) (answer : Answer) (held : Option Held) → GoesOn o old new request answer → IsCurrent o old held
    → ((s : DeskState) → Reaches o new s → s.active ≡ None) → IsCurrent o new held
renewed-none o old new request answer held goes current none t reaches = cases (goes-on-held o old new request answer held (is_entered answer.reply) refl goes current t reaches)
  where
    cases : IsHeldIn t held ⊎ HasActivated request held t → IsHeldIn t held
    cases (inl is) = is
    cases (inr made) = (let no : None ≡ Some made.config = sym (none t reaches) ∙ made.active_is in absurd cc)

some-held : (t : DeskState) (held : Option Held) (own : Option Configuration) (config : Configuration) → t.active ≡ Some config → IsHeldIn t held → IsHeldIn t (renewed t.activations own held)
some-held t None own config active is = (let no : None ≡ Some config = sym is ∙ active in absurd cc)
some-held t (Some held) own config active is =
    let hit : (held.count == t.activations) ≡ true = eq-eqb held.count t.activations is.0 in
    rw hit is

own-held : (request : Request) (t : DeskState) (held : Option Held) (own : Option Configuration) → IsOwn request own → (made : HasActivated request held t) → IsHeldIn t (held_under t.activations own)
own-held request t held None is made = absurd (is made.deck made.op_is made.config made.configures)
own-held request t held (Some config) is made =
    let one : config ≡ made.config = one-configuration made.deck config made.config (is made.deck made.op_is) made.configures in
    (refl, made.active_is ∙ ap Some (sym one))

-- what is held afterwards is active
pub renewed-some : (o : Opening) (old new : List Entry) (request : Request) (answer : Answer) (held : Option Held) (own : Option Configuration) (count : ℕ) (config : Configuration)
    → GoesOn o old new request answer → IsOwn request own → IsCurrent o old held
    → ((s : DeskState) → Reaches o new s → (count ≡ s.activations) × (s.active ≡ Some config)) → IsCurrent o new (renewed count own held)
renewed-some o old new request answer held own count config goes is_own current active t reaches =
    let now = active t reaches in
    rw now.0 (cases (goes-on-held o old new request answer held (is_entered answer.reply) refl goes current t reaches))
  where
    cases : IsHeldIn t held ⊎ HasActivated request held t → IsHeldIn t (renewed t.activations own held)
    cases (inl is) = some-held t held own config (active t reaches).1 is
    cases (inr made) = rw made.not_held (own-held request t held own is_own made)

-- what holds where a call succeeded, and where it failed
pub on-ok : {A B : Type 0} (done : Result A B) (P : Type 0) → is_err done ≡ false → OnOk done P → P
on-ok (Ok x) P not h = h
on-ok (Err e) P not h = absurd cc

pub on-err : {A B : Type 0} (done : Result A B) (P : Type 0) → is_err done ≡ true → OnErr done P → P
on-err (Ok x) P is h = absurd cc
on-err (Err e) P is h = h

-- what a turn that is given back is looked at for
pub fresh-holding : {A B : Type 0} (done : Result A B) (o : Opening) (h : List Entry) (fresh : Option Held) → IsLegal o h → OnOk done (IsHolding o h None → IsCurrent o h fresh) → OnErr done (fresh ≡ None) → IsHolding o h fresh
fresh-holding (Ok x) o h fresh legal current same = current-holding o h fresh legal (current tt)
fresh-holding (Err e) o h fresh legal current same = subst (IsHolding o h) (sym same) tt

-- Numbers of activations.

last-some : (deck : DeckRow) (decks : List DeckRow) (active : Option Configuration) → IsLastActive (deck ∷ decks) active → active ≡ None → ⊥
last-some deck [] active last none = (let no : None ≡ Some last.config = sym none ∙ last.active_is in absurd cc)
last-some deck (next ∷ decks) active last none = last-some next decks active last none

decked-none : (decks : List DeckRow) (s : DeskState) → IsDecked decks s → s.active ≡ None → s.activations ≡ 0
decked-none [] s decked none = decked.counted
decked-none (deck ∷ decks) s decked none = absurd (last-some deck decks s.active decked.last none)

decked-some : (decks : List DeckRow) (s : DeskState) (config : Configuration) → IsDecked decks s → s.active ≡ Some config → 0 < s.activations
decked-some [] s config decked some = (let no : None ≡ Some config = sym decked.last ∙ some in absurd cc)
decked-some (deck ∷ decks) s config decked some = let counted = decked.counted in omega (arith, counted)

held-counted : (s : DeskState) (held : Option Held) (decks : List DeckRow) → IsDecked decks s → IsHeldIn s held → held_count held ≡ s.activations
held-counted s None decks decked is = sym (decked-none decks s decked is)
held-counted s (Some held) decks decked is = is.0

pub current-counted : (o : Opening) (h : List Entry) (s : DeskState) (held : Option Held) → AllByRecursion (λ row. row.place ≤ o.base) o.rows.replies → IsDecked o.rows.decks (start_of o) → Reaches o h s → IsCurrent o h held
    → held_count held ≡ s.activations
current-counted o h s held early decked reaches current = held-counted s held (o.rows.decks ++ decks_of h) (reaches-decked o h s early decked reaches) (current s reaches)

pub holding-some : (o : Opening) (h : List Entry) (held : Held) → AllByRecursion (λ row. row.place ≤ o.base) o.rows.replies → IsDecked o.rows.decks (start_of o) → IsHolding o h (Some held) → 0 < held.count
holding-some o h held early decked was =
    let some = decked-some (o.rows.decks ++ decks_of was.front) was.state held.config (reaches-decked o was.front was.state early decked was.reaches) was.active in
    omega (arith, some, was.counted)
