-- The day up to a name.
use Rattle.std.proofs.Common.{inl, inr, ◌≡◌, ◌⊎◌, ℕ, ◌+◌, ◌&&◌, ◌||◌, not, Bool, true, false, List, [], ◌∷◌, ◌++◌}
use Rattle.std.proofs.Common.{length, map, Option, None, Some, refl, sym, ap, subst, ◌∙◌, arith, append-nil}
use Rattle.std.proofs.Common.{append_assoc, length-append}
use Rattle.std.specs.Prelude.{bytes_eq, MatchOption, OnErr, Result, Ok, Err}
use Rattle.std.specs.List.{list_all, list_any}
use Rattle.std.proofs.lemmas.Bool.{cases_Bool}
use Rattle.sms_construct.specs.Configuration.{Configuration, are_ascending}
use Rattle.sms_construct.specs.declared.data_set.DataSet.{DataSet}
use Rattle.sms_construct.specs.declared.entry.Entry.{Entry}
use Rattle.sms_construct.specs.declared.reply.Reply.{Reply}
use Rattle.sms_construct.specs.declared.request.Op.{Op}
use Rattle.desk_law.specs.State.{DeskState, Opening, set_named}
use Rattle.desk_law.specs.History.{Reaches}
use Rattle.desk_state.specs.Following.{IsFirstBehind, IsLastName, is_behind}
use Rattle.sms_manage.specs.declared.act.Act.{Act}
use Rattle.sms_manage.specs.declared.wanted.Due.{Due}
use Rattle.sms_manage.specs.declared.wanted.Due.TheVariants.{Nothing, Delete, Release}
use Rattle.sms_manage.specs.Due.{due_of, is_due, is_due_if}
use Rattle.sms_manage.specs.Managed.{AreAnswersBehind, IsAnswerBehind, IsDayBegun, IsManaged, IsUnusedFrom, WasDayBegunFrom}
use Rattle.sms_manage.specs.Managed.{WasManagedFrom, are_counted, entries_of}
use Rattle.sms_manage.specs.Managed.{entry_for, op_for, op_if, is_hindered}
use Rattle.sms_manage.specs.Inner.Walk.{Asks, IsDueNext, IsNextDue}
use Rattle.sms_manage.proofs.ActLemmas.{HasActed, step-acted}
use Rattle.sms_manage.proofs.DayLemmas.{AllBefore, R, all-push, any-push, ascending-push, before-apart, before-behind}
use Rattle.sms_manage.proofs.DayLemmas.{before-push, behind-apart, counted-push, entries-push, further, names-push}
use Rattle.sms_manage.proofs.DayLemmas.{other-stays, same-name, settled-act, which-at}

-- the data sets up to a name were gone through, from the state before
pub record IsDaySoFar (first : ℕ) (o : Opening) (day : ℕ) (config : Configuration) (before : DeskState) (old h : List Entry) (last : Option (List ℕ)) (acts : List Act) : Type 0 where
  pub state : DeskState
  pub reaches : Reaches o h state
  pub journal : h ≡ old ++ entries_of config day before.sets acts
  pub answers : AreAnswersBehind config day before.sets old acts
  pub unused : IsUnusedFrom o h (first + length acts)
  pub behind : (dsn : List ℕ) → is_behind last dsn ≡ true → set_named dsn state.sets ≡ set_named dsn before.sets
  pub each : (dsn : List ℕ) → list_any (λ act. bytes_eq act.dsn dsn) acts ≡ (not (is_behind last dsn) && is_due_if config day (set_named dsn before.sets))
  pub names : (dsn : List ℕ) → is_behind last dsn ≡ true → AllBefore (map (λ act. act.dsn) acts) dsn
  pub order : are_ascending (map (λ act. act.dsn) acts) ≡ true
  pub counted : are_counted first acts ≡ true
  pub others : (dsn : List ℕ) → is_behind last dsn ≡ false → is_due_if config day (set_named dsn before.sets) ≡ false → set_named dsn state.sets ≡ set_named dsn before.sets
  pub settled : list_all (λ act. not (is_hindered act.answer.reply)) acts ≡ true → (dsn : List ℕ) → is_behind last dsn ≡ false → is_due_if config day (set_named dsn state.sets) ≡ false

-- one more act has its answer
answers-push : (config : Configuration) (day : ℕ) (sets : List DataSet) (h : List Entry) (acts : List Act) (act : Act) (op : Op) → op_if config day (set_named act.dsn sets) ≡ Some op
    → AreAnswersBehind config day sets h acts → IsAnswerBehind (h ++ entries_of config day sets acts) op act.answer → AreAnswersBehind config day sets h (acts ++ act ∷ [])
answers-push config day sets h [] act op is all one = (rw is (subst (λ es. IsAnswerBehind es op act.answer) (append-nil h) one), tt)
answers-push config day sets h (a ∷ acts) act op is all one =
    let entry = entry_for (op_if config day (set_named a.dsn sets)) a in
    (all.0, answers-push config day sets (h ++ entry) acts act op is all.1 (subst (λ es. IsAnswerBehind es op act.answer) (sym (append_assoc h entry (entries_of config day sets acts))) one))

-- nothing was gone through yet
pub day-begins : (first : ℕ) (o : Opening) (day : ℕ) (config : Configuration) (before : DeskState) (old : List Entry) → Reaches o old before → IsUnusedFrom o old first → IsDaySoFar first o day config before old old None []
day-begins first o day config before old reaches unused = record {
  state = before;
  reaches = reaches;
  journal = sym (append-nil old);
  answers = tt;
  unused = let at : first ≡ first + 0 = omega arith in subst (λ n. IsUnusedFrom o old n) at unused;
  behind = λ dsn any. refl;
  each = λ dsn. refl;
  names = λ dsn any. tt;
  order = refl;
  counted = refl;
  others = λ dsn isnt. absurd cc;
  settled = λ all dsn isnt. absurd cc;
}

module _ (first : ℕ) (o : Opening) (day : ℕ) (config : Configuration) (before : DeskState) (old h : List Entry) (last : Option (List ℕ)) (acts : List Act) (far : IsDaySoFar first o day config before old h last acts)
    (set : DataSet) (next : IsFirstBehind last far.state.sets set) where
  -- the next data set stands as it stood before the day
  next-before : set_named set.dsn before.sets ≡ Some set
  next-before = sym (far.behind set.dsn next.behind) ∙ next.stands

  -- where a name up to the next data set's stands
  abbrev Where : List ℕ → Type 0
  Where dsn = (is_behind last dsn ≡ false) ⊎ ((set.dsn ≡ dsn) ⊎ ((is_behind last dsn ≡ true) × (set_named dsn far.state.sets ≡ None) × (bytes_eq set.dsn dsn ≡ false)))

  place-of : (dsn : List ℕ) → is_behind (Some set.dsn) dsn ≡ false → Where dsn
  place-of dsn isnt = elim (cases_Bool (is_behind last dsn)) [
    | inr early ↦ inl early
    | inl past ↦ inr (elim (which-at set.dsn dsn (R set.dsn dsn) refl isnt) [
      | inl same ↦ inl same
      | inr less ↦ inr (past, next.first dsn past less, before-apart set.dsn dsn less)
    ])
  ]

  none-due : (dsn : List ℕ) → is_behind last dsn ≡ true → set_named dsn far.state.sets ≡ None → is_due_if config day (set_named dsn before.sets) ≡ false
  none-due dsn past none = let before-none : set_named dsn before.sets ≡ None = sym (far.behind dsn past) ∙ none in rw before-none refl

  passed : (dsn : List ℕ) → is_behind (Some set.dsn) dsn ≡ true → is_behind last dsn ≡ true
  passed dsn past = further last set.dsn dsn next.behind past

  up-to : (dsn : List ℕ) → is_behind last dsn ≡ false → bytes_eq set.dsn dsn ≡ false
  up-to dsn isnt = before-apart set.dsn dsn (before-behind last dsn set.dsn isnt next.behind)

  -- nothing is due of it
  pub day-skips : due_of config day set ≡ Nothing → IsDaySoFar first o day config before old h (Some set.dsn) acts
  day-skips due =
      let none : is_due_if config day (set_named set.dsn before.sets) ≡ false = rw (next-before, due) refl in
      record {
        state = far.state;
        reaches = far.reaches;
        journal = far.journal;
        answers = far.answers;
        unused = far.unused;
        behind = λ dsn past. far.behind dsn (passed dsn past);
        each = λ dsn. elim (cases_Bool (is_behind (Some set.dsn) dsn)) [
          | inl past ↦ rw past (rw (passed dsn past) at (far.each dsn))
          | inr isnt ↦ rw isnt (elim (place-of dsn isnt) [
            | inl early ↦ rw early at (far.each dsn)
            | inr (inl same) ↦ rw (← same) (rw next.behind at (far.each set.dsn) ∙ sym none)
            | inr (inr gone) ↦ rw gone.0 at (far.each dsn) ∙ sym (none-due dsn gone.0 gone.1)
          ])
        ];
        names = λ dsn past. far.names dsn (passed dsn past);
        order = far.order;
        counted = far.counted;
        others = λ dsn isnt quiet. elim (place-of dsn isnt) [
          | inl early ↦ far.others dsn early quiet
          | inr (inl same) ↦ far.behind dsn (rw (← same) next.behind)
          | inr (inr gone) ↦ far.behind dsn gone.0
        ];
        settled = λ all dsn isnt. elim (place-of dsn isnt) [
          | inl early ↦ far.settled all dsn early
          | inr (inl same) ↦ rw (← same, next.stands, due) refl
          | inr (inr gone) ↦ rw gone.1 refl
        ];
      }

  -- what is due of it is asked
  pub day-asks : (h' : List Entry) (acts' : List Act) (wanted : Due) (op : Op) → due_of config day set ≡ wanted → op_for wanted set.dsn ≡ Some op → Asks first o h h' set.dsn op acts acts' → IsDaySoFar first o day config before old h' (Some set.dsn) acts'
  day-asks h' acts' wanted op due is asks =
      let answer = asks.answer in
      let act : Act = record { number = first + length acts; dsn = set.dsn; answer = answer } in
      let acted = step-acted o h h' asks.told asks.told_then asks.count asks.count_then (first + length acts) wanted op far.state set _ answer far.unused refl is next.stands far.reaches asks.enters in
      let asked : op_if config day (set_named set.dsn before.sets) ≡ Some op = rw (next-before, due) is in
      let one : entry_for (op_if config day (set_named set.dsn before.sets)) act ≡ entry_for (Some op) act = ap (λ found. entry_for found act) asked in
      let some : is_due_if config day (set_named set.dsn before.sets) ≡ true = rw (next-before, due) (is-due wanted op is) in
      rw asks.behind (record {
        state = acted.after;
        reaches = acted.reaches;
        journal =
            asks.enters.journal_is ∙ ap (λ es. es ++ entry_for (Some op) act) far.journal ∙ append_assoc old (entries_of config day before.sets acts) (entry_for (Some op) act)
            ∙ ap (λ es. old ++ es) (ap (λ es. entries_of config day before.sets acts ++ es) (sym one) ∙ sym (entries-push config day before.sets acts act));
        answers = answers-push config day before.sets old acts act op asked far.answers
            (subst (λ es. IsAnswerBehind es op answer) far.journal (record { unplaced = asks.enters.no_place; full = asks.enters.full }));
        unused =
            let more : length (acts ++ act ∷ []) ≡ length acts + 1 = length-append acts (act ∷ []) in
            let at : (first + length acts) + 1 ≡ first + length (acts ++ act ∷ []) = omega (arith, more) in
            subst (λ n. IsUnusedFrom o h' n) at acted.unused;
        behind = λ dsn past. stays acted dsn (behind-apart set.dsn dsn past) ∙ far.behind dsn (passed dsn past);
        each = λ dsn. any-push (λ a. bytes_eq a.dsn dsn) acts act ∙ elim (cases_Bool (is_behind (Some set.dsn) dsn)) [
          | inl past ↦ rw (past, behind-apart set.dsn dsn past) (or-none _ ∙ rw (passed dsn past) at (far.each dsn))
          | inr isnt ↦ rw isnt (elim (place-of dsn isnt) [
            | inl early ↦ rw (up-to dsn early) (or-none _ ∙ rw early at (far.each dsn))
            | inr (inl same) ↦ rw (← same) (rw (same-name set.dsn, some) (or-all _))
            | inr (inr gone) ↦ rw gone.2 (or-none _ ∙ rw gone.0 at (far.each dsn) ∙ sym (none-due dsn gone.0 gone.1))
          ])
        ];
        names = λ dsn past. rw (names-push acts act) (before-push (map (λ (a : Act). a.dsn) acts) set.dsn dsn (far.names dsn (passed dsn past)) past);
        order = rw (names-push acts act) (ascending-push (map (λ (a : Act). a.dsn) acts) set.dsn far.order (far.names set.dsn next.behind));
        counted = counted-push first acts act far.counted (omega arith);
        others = λ dsn isnt quiet. elim (place-of dsn isnt) [
          | inl early ↦ stays acted dsn (up-to dsn early) ∙ far.others dsn early quiet
          | inr (inl same) ↦ let bad : false ≡ true = sym quiet ∙ rw (← same) some in absurd cc
          | inr (inr gone) ↦ stays acted dsn gone.2 ∙ far.behind dsn gone.0
        ];
        settled = λ all dsn isnt.
            let both = all-push (λ a. not (is_hindered a.answer.reply)) acts act all in
            elim (place-of dsn isnt) [
              | inl early ↦ rw (stays acted dsn (up-to dsn early)) (far.settled both.0 dsn early)
              | inr (inl same) ↦ rw (← same) (elim acted.acted.outcome [
                | inl left ↦ let bad : false ≡ true = sym left.0 ∙ both.1 in absurd cc
                | inr did ↦ rw did.1 (settled-act config day far.state set wanted due next.stands)
              ])
              | inr (inr gone) ↦ rw (stays acted dsn gone.2, gone.1) refl
            ];
      })
    where
      is-due : (wanted : Due) (op : Op) → op_for wanted set.dsn ≡ Some op → is_due wanted ≡ true
      is-due Nothing op is = absurd cc
      is-due Delete op is = refl
      is-due Release op is = refl

      stays : {h' : List Entry} {number : ℕ} {reply : Reply} {wanted : Due} (acted : HasActed o h' number wanted far.state set reply) (dsn : List ℕ) → bytes_eq set.dsn dsn ≡ false → set_named dsn acted.after.sets ≡ set_named dsn far.state.sets
      stays {wanted = wanted} acted dsn apart = elim acted.acted.outcome [
        | inl left ↦ rw left.1 refl
        | inr did ↦ rw did.1 (other-stays wanted far.state set dsn apart)
      ]

      or-none : (b : Bool) → (b || false) ≡ b
      or-none true = refl
      or-none false = refl

      or-all : (b : Bool) → (b || true) ≡ true
      or-all true = refl
      or-all false = refl

-- all names were gone through
pub day-ends : (first : ℕ) (o : Opening) (day : ℕ) (config : Configuration) (before : DeskState) (old h : List Entry) (last : Option (List ℕ)) (acts : List Act) (far : IsDaySoFar first o day config before old h last acts)
    → before.active ≡ Some config → IsLastName last far.state.sets → IsManaged first o day config before far.state old h acts
day-ends first o day config before old h last acts far active none = record {
  active = active;
  acts_are = record {
    each = λ dsn. far.each dsn ∙ elim (cases_Bool (is_behind last dsn)) [
      | inl past ↦ rw past (sym (rw (sym (far.behind dsn past) ∙ none dsn past) refl))
      | inr isnt ↦ rw isnt refl
    ];
    order = far.order;
    counted = far.counted;
  };
  journal = far.journal;
  answers = far.answers;
  legal = far.reaches;
  others = λ dsn quiet. elim (cases_Bool (is_behind last dsn)) [
    | inl past ↦ far.behind dsn past
    | inr isnt ↦ far.others dsn isnt quiet
  ];
  settled = λ all dsn. elim (cases_Bool (is_behind last dsn)) [
    | inl past ↦ rw (none dsn past) refl
    | inr isnt ↦ far.settled all dsn isnt
  ];
}

-- Where memory was wanting.

all-behind : (acts : List Act) (dsn : List ℕ) → AllBefore (map (λ (a : Act). a.dsn) acts) dsn → list_all (λ (a : Act). is_behind (Some a.dsn) dsn) acts ≡ true
all-behind [] dsn before = refl
all-behind (act ∷ acts) dsn before = rw before.0 (all-behind acts dsn before.1)

-- what is due where the search ended
due-then : (past due asked : Bool) → asked ≡ (not past && due) → asked ≡ true → due ≡ true
due-then true due asked is found = let bad : false ≡ true = sym is ∙ found in absurd cc
due-then false due asked is found = sym is ∙ found

past-then : (past due asked : Bool) → asked ≡ (not past && due) → due ≡ true → asked ≡ false → past ≡ true
past-then true due asked is found none = refl
past-then false due asked is found none = let bad : true ≡ false = sym found ∙ sym is ∙ none in absurd cc

-- the acts up to a name are first ones
pub day-begun : (first : ℕ) (o : Opening) (day : ℕ) (config : Configuration) (before : DeskState) (old h : List Entry) (last : Option (List ℕ)) (acts : List Act) → IsDaySoFar first o day config before old h last acts
    → IsDayBegun first day config before old h
day-begun first o day config before old h last acts far = record {
  acts = acts;
  acts_are = record {
    due = λ dsn asked. due-then (is_behind last dsn) (is_due_if config day (set_named dsn before.sets)) _ (far.each dsn) asked;
    front = λ dsn due none. all-behind acts dsn (far.names dsn (past-then (is_behind last dsn) (is_due_if config day (set_named dsn before.sets)) _ (far.each dsn) due none));
    order = far.order;
    counted = far.counted;
  };
  journal = far.journal;
  answers = far.answers;
}

-- nothing was asked for
pub begun-none : (first : ℕ) (o : Opening) (day : ℕ) (old : List Entry) → WasDayBegunFrom first o day old old
begun-none first o day old before reaches = at before.active
  where
    at : (active : Option Configuration) → MatchOption active (old ≡ old) (λ config. IsDayBegun first day config before old old)
    at None = refl
    at (Some config) = record {
      acts = [];
      acts_are = record { due = λ dsn asked. absurd cc; front = λ dsn due none. refl; order = refl; counted = refl };
      journal = sym (append-nil old);
      answers = tt;
    }

all-asked : (asked due : Bool) → asked ≡ due → due ≡ true → asked ≡ false → ⊥
all-asked asked due is found none = let bad : true ≡ false = sym found ∙ sym is ∙ none in absurd cc

-- a whole day was begun
pub whole-begun : (first : ℕ) (o : Opening) (day : ℕ) (old new : List Entry) (acts : List Act) → WasManagedFrom first o day old new acts → WasDayBegunFrom first o day old new
whole-begun first o day old new acts was before reaches = elim (was before reaches) [
  | inl did ↦
      let managed = did.2 in
      subst (λ found. MatchOption found (new ≡ old) (λ c. IsDayBegun first day c before old new)) (sym managed.active) (record {
        acts = acts;
        acts_are = record {
          due = λ dsn asked. sym (managed.acts_are.each dsn) ∙ asked;
          front = λ dsn due none. absurd (all-asked _ _ (managed.acts_are.each dsn) due none);
          order = managed.acts_are.order;
          counted = managed.acts_are.counted;
        };
        journal = managed.journal;
        answers = managed.answers;
      })
  | inr idle ↦ subst (λ found. MatchOption found (new ≡ old) (λ c. IsDayBegun first day c before old new)) (sym idle.inactive) idle.same
]

-- what holds anyway holds after an error
pub on-err : {T E : Type 0} (r : Result T E) (P : Type 0) → P → OnErr r P
on-err (Ok x) P p = tt
on-err (Err e) P p = p

-- what follows where there was an error
pub err-then : {T E P Q : Type 0} (r : Result T E) → (P → Q) → OnErr r P → OnErr r Q
err-then (Ok x) f p = tt
err-then (Err e) f p = f p

-- the same of the configuration that is active
pub begun-under : (first : ℕ) (o : Opening) (day : ℕ) (config : Configuration) (old new : List Entry) → ((before : DeskState) → Reaches o old before → before.active ≡ Some config)
    → ((before : DeskState) → Reaches o old before → before.active ≡ Some config → IsDayBegun first day config before old new) → WasDayBegunFrom first o day old new
begun-under first o day config old new active begun before reaches =
    subst (λ found. MatchOption found (new ≡ old) (λ c. IsDayBegun first day c before old new)) (sym (active before reaches)) (begun before reaches (active before reaches))

-- The next data set, as the catalog is gone through.

module _ (first : ℕ) (o o' : Opening) (day : ℕ) (config : Configuration) (before : DeskState) (old h : List Entry) (last : Option (List ℕ)) (acts : List Act) (next : Option (List ℕ × Due)) (same : o' ≡ o)
    (far : IsDaySoFar first o day config before old h last acts) (finds : (s : DeskState) → Reaches o' h s → IsNextDue config day s.sets last next) where
  found : IsNextDue config day far.state.sets last next
  found = finds far.state (subst (λ p. Reaches p h far.state) (sym same) far.reaches)

  -- there is none
  pub day-over : before.active ≡ Some config → next ≡ None → (after : DeskState) × IsManaged first o day config before after old h acts
  day-over active none = (far.state, day-ends first o day config before old h last acts far active (subst (λ n. IsNextDue config day far.state.sets last n) none found))

  module _ (pair : List ℕ × Due) (is : next ≡ Some pair) where
    due-next : IsDueNext config day far.state.sets last pair
    due-next = subst (λ n. IsNextDue config day far.state.sets last n) is found

    -- nothing is due of it
    pub day-passes : op_for pair.1 pair.0 ≡ None → IsDaySoFar first o day config before old h (Some pair.0) acts
    day-passes none =
        subst (λ d. IsDaySoFar first o day config before old h (Some d) acts) (sym due-next.name)
        (day-skips first o day config before old h last acts far due-next.set due-next.first (sym due-next.due ∙ nothing pair.1 none))
      where
        nothing : (wanted : Due) → op_for wanted pair.0 ≡ None → wanted ≡ Nothing
        nothing Nothing none = refl
        nothing Delete none = absurd cc
        nothing Release none = absurd cc

    -- what is due of it was asked
    pub day-acts : (h' : List Entry) (acts' : List Act) (op : Op) → op_for pair.1 pair.0 ≡ Some op → Asks first o' h h' pair.0 op acts acts' → IsDaySoFar first o day config before old h' (Some pair.0) acts'
    day-acts h' acts' op some asks =
        subst (λ d. IsDaySoFar first o day config before old h' (Some d) acts') (sym due-next.name)
        (day-asks first o day config before old h last acts far due-next.set due-next.first h' acts' pair.1 op (sym due-next.due) (subst (λ d. op_for pair.1 d ≡ Some op) due-next.name some)
        (subst (λ d. Asks first o h h' d op acts acts') due-next.name (subst (λ p. Asks first p h h' pair.0 op acts acts') same asks)))
