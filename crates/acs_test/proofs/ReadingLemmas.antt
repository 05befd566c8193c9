-- The reading of an input, exactly.
use Rattle.std.proofs.Common.{◌≡◌, ◌⊎◌, ◌+◌, ℕ, List, [], ◌∷◌, Ok, Err, Some, inl, inr, refl, sym, ap, ◌∙◌, subst}
use Rattle.std.specs.Prelude.{◌==◌, Option, None, Bool, true, false, length, nat_le, not, Result, if◌then◌else◌}
use Rattle.desk_common.specs.Exact.{IsExact, IsWant, MayRefuse}
use Rattle.sms_construct.specs.Configuration.{Configuration}
use Rattle.sms_construct.specs.declared.fault.Fault.{Fault}
use Rattle.deck_meaning.specs.Reading.{Configures, HasFirstFault, TellsFirstFault}
use Rattle.deck_meaning.specs.declared.deck_err.DeckErr.{DeckErr}
use Rattle.deck_meaning.specs.declared.deck_err.DeckErr.TheVariants as decks
use Rattle.acs_test.specs.Columns.{columns_of, header_fault}
use Rattle.acs_test.specs.Layout.{Parts, parts_of}
use Rattle.acs_test.specs.Reading.{DeckFault, Gives, HasFault, IsReading, IsRefusal, Refuses, TableFault, TellsDeck}
use Rattle.acs_test.specs.Records.{TableGives, case_behind, case_of, cases_behind, cases_of, cases_under, most_cases}
use Rattle.acs_test.specs.Records.{or_bad, with_case}
use Rattle.acs_test.specs.declared.case.Case.{Case}
use Rattle.acs_test.specs.declared.cases.Cases.{Cases}
use Rattle.acs_test.specs.declared.cases_err.CasesErr.{CasesErr}
use Rattle.acs_test.specs.declared.cases_err.CasesErr.TheVariants as errs
use Rattle.acs_test.specs.declared.cases_err.Side.{Side}
use Rattle.acs_test.specs.declared.cases_err.Side.TheVariants.{Old, New}
use Rattle.acs_test.proofs.TableLemmas.{same_records}

-- the answer for a deck is what the deck gives
abbrev pub IsDeckRead : List ℕ → Result Configuration DeckErr → Type 0
IsDeckRead deck result = IsExact (Configures deck) (TellsFirstFault deck) (Some decks.NoMemory) result

abbrev pub IsSideRead : Side → List ℕ → Result Configuration CasesErr → Type 0
IsSideRead side deck result = IsExact (Configures deck) (TellsDeck side deck) (Some errs.NoMemory) result

-- a deck without a fault has no fault
deck_refused : (side : Side) (deck : List ℕ) (config : Configuration) (err : CasesErr) → IsDeckRead deck (Ok config) → TellsDeck side deck err → ⊥
deck_refused side deck config (errs.Deck other fault) read told = elim (read.refused (decks.Fault fault) told.1) [
  | inl same ↦ absurd (cc same)
  | inr never ↦ never
]
deck_refused side deck config (errs.Layout line) read told = told
deck_refused side deck config (errs.Header column) read told = told
deck_refused side deck config (errs.Fields number) read told = told
deck_refused side deck config errs.TooMany read told = told
deck_refused side deck config (errs.BadCase number) read told = told
deck_refused side deck config errs.NoMemory read told = told

pub side_configures : (side : Side) (deck : List ℕ) (config : Configuration) → IsDeckRead deck (Ok config) → IsSideRead side deck (Ok config)
side_configures side deck config read = record {
  thing = λ made is. elim (read.thing made is) [
    | inl same ↦ let one : config ≡ made = cc same in inl (ap (λ (c : Configuration). Ok c) one)
    | inr never ↦ absurd never
  ];
  refused = λ err told. absurd (deck_refused side deck config err read told);
}

fault_told : (side : Side) (deck : List ℕ) (fault : Fault) (err : CasesErr) → IsDeckRead deck (Err (decks.Fault fault)) → TellsDeck side deck err → errs.Deck side fault ≡ err
fault_told side deck fault (errs.Deck other told_fault) read told = elim (read.refused (decks.Fault told_fault) told.1) [
  | inl same ↦ cc (same, told.0)
  | inr want ↦ absurd (cc want)
]
fault_told side deck fault (errs.Layout line) read told = absurd told
fault_told side deck fault (errs.Header column) read told = absurd told
fault_told side deck fault (errs.Fields number) read told = absurd told
fault_told side deck fault errs.TooMany read told = absurd told
fault_told side deck fault (errs.BadCase number) read told = absurd told
fault_told side deck fault errs.NoMemory read told = absurd told

pub side_faulty : (side : Side) (deck : List ℕ) (fault : Fault) → IsDeckRead deck (Err (decks.Fault fault)) → IsSideRead side deck (Err (errs.Deck side fault))
side_faulty side deck fault read = record {
  thing = λ made is. elim (read.thing made is) [
    | inl same ↦ absurd (cc same)
    | inr want ↦ absurd (cc want)
  ];
  refused = λ err told. inl (ap (λ (e : CasesErr). Err e) (fault_told side deck fault err read told));
}

pub side_wanting : (side : Side) (deck : List ℕ) → IsSideRead side deck (Err errs.NoMemory)
side_wanting side deck = record { thing = λ made is. inr refl; refused = λ err told. inr refl }

-- the answer for the parts is what they give
abbrev pub AreRead : Parts → Result Cases CasesErr → Type 0
AreRead parts result = IsExact (Gives parts) (Refuses parts) (Some errs.NoMemory) result

-- the error is the refusal, or want of memory
abbrev Ends : CasesErr → CasesErr → Type 0
Ends err told = ◌≡◌ {A = Result Cases CasesErr} (Err err) (Err told) ⊎ IsWant (Some errs.NoMemory) err

side_wanted : (side : Side) (deck : List ℕ) (err : CasesErr) (config : Configuration) → IsSideRead side deck (Err err) → Configures deck config → IsWant (Some errs.NoMemory) err
side_wanted side deck err config read is = elim (read.thing config is) [
  | inl same ↦ absurd (cc same)
  | inr want ↦ want
]

side_ends : (side : Side) (deck : List ℕ) (err : CasesErr) (fault : Fault) → IsSideRead side deck (Err err) → HasFirstFault deck fault → Ends err (errs.Deck side fault)
side_ends side deck err fault read found = elim (read.refused (errs.Deck side fault) (refl, found)) [
  | inl same ↦ let one : err ≡ errs.Deck side fault = cc same in inl (ap (λ (e : CasesErr). Err e) one)
  | inr want ↦ inr want
]

side_never : (side : Side) (deck : List ℕ) (config : Configuration) (fault : Fault) → IsSideRead side deck (Ok config) → HasFirstFault deck fault → ⊥
side_never side deck config fault read found = elim (read.refused (errs.Deck side fault) (refl, found)) [
  | inl same ↦ absurd (cc same)
  | inr never ↦ never
]

same_config : (side : Side) (deck : List ℕ) (config other : Configuration) → IsSideRead side deck (Ok config) → Configures deck other → config ≡ other
same_config side deck config other read is = elim (read.thing other is) [
  | inl same ↦ cc same
  | inr never ↦ absurd never
]

same_table : (table : List ℕ) (one other : Result (List Case) CasesErr) → TableGives table one → TableGives table other → one ≡ other
same_table table one other first second =
    sym first.gives ∙ ap cases_of (same_records table first.records second.records first.table second.table) ∙ second.gives

old_refuses : (parts : Parts) (err told : CasesErr) → IsSideRead Old parts.before (Err err) → Refuses parts told → Ends err told
old_refuses parts err (errs.Deck Old fault) read told = side_ends Old parts.before err fault read told
old_refuses parts err (errs.Deck New fault) read told = inr (side_wanted Old parts.before err told.0 read told.1)
old_refuses parts err (errs.Header column) read told = inr (side_wanted Old parts.before err told.before read told.configures)
old_refuses parts err (errs.Fields number) read told = inr (side_wanted Old parts.before err told.before read told.configures)
old_refuses parts err errs.TooMany read told = inr (side_wanted Old parts.before err told.before read told.configures)
old_refuses parts err (errs.BadCase number) read told = inr (side_wanted Old parts.before err told.before read told.configures)
old_refuses parts err (errs.Layout line) read told = absurd told
old_refuses parts err errs.NoMemory read told = absurd told

pub old_ends : (parts : Parts) (err : CasesErr) → IsSideRead Old parts.before (Err err) → AreRead parts (Err err)
old_ends parts err read = record {
  thing = λ made is. inr (side_wanted Old parts.before err made.before read is.before);
  refused = λ told refuses. old_refuses parts err told read refuses;
}

new_refuses : (parts : Parts) (config : Configuration) (err told : CasesErr) → IsSideRead Old parts.before (Ok config) → IsSideRead New parts.after (Err err) → Refuses parts told → Ends err told
new_refuses parts config err (errs.Deck Old fault) old read told = absurd (side_never Old parts.before config fault old told)
new_refuses parts config err (errs.Deck New fault) old read told = side_ends New parts.after err fault read told.2
new_refuses parts config err (errs.Header column) old read told = inr (side_wanted New parts.after err told.after read told.configures_after)
new_refuses parts config err (errs.Fields number) old read told = inr (side_wanted New parts.after err told.after read told.configures_after)
new_refuses parts config err errs.TooMany old read told = inr (side_wanted New parts.after err told.after read told.configures_after)
new_refuses parts config err (errs.BadCase number) old read told = inr (side_wanted New parts.after err told.after read told.configures_after)
new_refuses parts config err (errs.Layout line) old read told = absurd told
new_refuses parts config err errs.NoMemory old read told = absurd told

pub new_ends : (parts : Parts) (config : Configuration) (err : CasesErr) → IsSideRead Old parts.before (Ok config) → IsSideRead New parts.after (Err err) → AreRead parts (Err err)
new_ends parts config err old read = record {
  thing = λ made is. inr (side_wanted New parts.after err made.after read is.after);
  refused = λ told refuses. new_refuses parts config err told old read refuses;
}

-- the fault of a table whose decks have none
table_fault : (parts : Parts) (before after : Configuration) (err : CasesErr) → IsSideRead Old parts.before (Ok before) → IsSideRead New parts.after (Ok after) → Refuses parts err
    → TableGives parts.table (Err err)
table_fault parts before after (errs.Deck Old fault) old new told = absurd (side_never Old parts.before before fault old told)
table_fault parts before after (errs.Deck New fault) old new told = absurd (side_never New parts.after after fault new told.2)
table_fault parts before after (errs.Header column) old new told = told.found
table_fault parts before after (errs.Fields number) old new told = told.found
table_fault parts before after errs.TooMany old new told = told.found
table_fault parts before after (errs.BadCase number) old new told = told.found
table_fault parts before after (errs.Layout line) old new told = absurd told
table_fault parts before after errs.NoMemory old new told = absurd told

-- the answer for a table's cases
abbrev pub MayEnd : List ℕ → CasesErr → Type 0
MayEnd table err = MayRefuse (λ (e : CasesErr). TableGives table (Err e)) (Some errs.NoMemory) err

table_thing : (table : List ℕ) (err : CasesErr) (list : List Case) → MayEnd table err → TableGives table (Ok list) → IsWant (Some errs.NoMemory) err
table_thing table err list (inl gives) listed = absurd (cc (same_table table (Err err) (Ok list) gives listed))
table_thing table err list (inr want) listed = want

table_ends : (table : List ℕ) (err told : CasesErr) → MayEnd table err → TableGives table (Err told) → Ends err told
table_ends table err told (inl gives) found = let one : err ≡ told = cc (same_table table (Err err) (Err told) gives found) in inl (ap (λ (e : CasesErr). Err e) one)
table_ends table err told (inr want) found = inr want

pub cases_end : (parts : Parts) (before after : Configuration) (err : CasesErr) → IsSideRead Old parts.before (Ok before) → IsSideRead New parts.after (Ok after) → MayEnd parts.table err → AreRead parts (Err err)
cases_end parts before after err old new may = record {
  thing = λ made is. inr (table_thing parts.table err made.list may is.listed);
  refused = λ told refuses. table_ends parts.table err told may (table_fault parts before after told old new refuses);
}

pub cases_read : (parts : Parts) (before after : Configuration) (list : List Case) → IsSideRead Old parts.before (Ok before) → IsSideRead New parts.after (Ok after) → TableGives parts.table (Ok list)
    → AreRead parts (Ok (record { before = before; after = after; list = list }))
cases_read parts before after list old new gives = record {
  thing = λ made is.
      let one = same_config Old parts.before before made.before old is.before in
      let two = same_config New parts.after after made.after new is.after in
      let three : list ≡ made.list = cc (same_table parts.table (Ok list) (Ok made.list) gives is.listed) in
      inl (λ i. Ok (record { before = one i; after = two i; list = three i }));
  refused = λ err refuses. absurd (cc (same_table parts.table (Ok list) (Err err) gives (table_fault parts before after err old new refuses)));
}

-- the faults of a table
abbrev OfTable : CasesErr → Type 0
OfTable (errs.Layout line) = ⊥
OfTable (errs.Deck side fault) = ⊥
OfTable (errs.Header column) = Unit {0}
OfTable (errs.Fields number) = Unit {0}
OfTable errs.TooMany = Unit {0}
OfTable (errs.BadCase number) = Unit {0}
OfTable errs.NoMemory = ⊥

record_of_table : (other many : Bool) (number : ℕ) (case : Option Case) (err : CasesErr)
    → ◌≡◌ {A = Result Case CasesErr} (if other then Err (errs.Fields number) else if many then Err errs.TooMany else or_bad number case) (Err err) → OfTable err
record_of_table true many number case err is = let same : errs.Fields number ≡ err = cc is in subst OfTable same tt
record_of_table false true number case err is = let same : errs.TooMany ≡ err = cc is in subst OfTable same tt
record_of_table false false number None err is = let same : errs.BadCase number ≡ err = cc is in subst OfTable same tt
record_of_table false false number (Some case) err is = absurd (cc is)

joined_of_table : (first : Result Case CasesErr) (others : Result (List Case) CasesErr) (err : CasesErr)
    → ((one : CasesErr) → first ≡ Err one → OfTable one) → ((one : CasesErr) → others ≡ Err one → OfTable one) → with_case first others ≡ Err err → OfTable err
joined_of_table (Err fault) others err now later is = let same : fault ≡ err = cc is in subst OfTable same (now fault refl)
joined_of_table (Ok case) (Err fault) err now later is = let same : fault ≡ err = cc is in subst OfTable same (later fault refl)
joined_of_table (Ok case) (Ok cases) err now later is = absurd (cc is)

records_of_table : (columns : List (List ℕ)) (count : ℕ) (records : List (List (List ℕ))) (err : CasesErr) → cases_behind columns count records ≡ Err err → OfTable err
records_of_table columns count [] err is = absurd (cc is)
records_of_table columns count (fields ∷ records) err is =
    joined_of_table (case_behind columns count fields) (cases_behind columns (count + 1) records) err
    (λ one now. record_of_table (not (length fields == length columns)) (nat_le most_cases count) (count + 2) (case_of columns (count + 2) fields) one now)
    (λ one later. records_of_table columns (count + 1) records one later) is

under_of_table : (fault : Option ℕ) (columns : List (List ℕ)) (records : List (List (List ℕ))) (err : CasesErr) → cases_under fault columns records ≡ Err err → OfTable err
under_of_table (Some column) columns records err is = let same : errs.Header column ≡ err = cc is in subst OfTable same tt
under_of_table None columns records err is = records_of_table columns 0 records err is

table_of_table : (records : List (List (List ℕ))) (err : CasesErr) → cases_of records ≡ Err err → OfTable err
table_of_table [] err is = let same : errs.Header 1 ≡ err = cc is in subst OfTable same tt
table_of_table (header ∷ records) err is = under_of_table (header_fault (columns_of header)) (columns_of header) records err is

of_parts : (parts : Parts) (err : CasesErr) → OfTable err → TableFault parts err → Refuses parts err
of_parts parts (errs.Header column) of fault = fault
of_parts parts (errs.Fields number) of fault = fault
of_parts parts errs.TooMany of fault = fault
of_parts parts (errs.BadCase number) of fault = fault
of_parts parts (errs.Layout line) of fault = of
of_parts parts (errs.Deck side fault) of table = absurd of
of_parts parts errs.NoMemory of fault = of

-- a fault of the table is one of its parts
pub cases_refused : (parts : Parts) (before after : Configuration) (err : CasesErr) → Configures parts.before before → Configures parts.after after → MayEnd parts.table err
    → MayRefuse (Refuses parts) (Some errs.NoMemory) err
cases_refused parts before after err old new (inl gives) =
    inl (of_parts parts err (table_of_table gives.records err gives.gives) (record { before = before; configures = old; after = after; configures_after = new; found = gives }))
cases_refused parts before after err old new (inr want) = inr want

-- a fault of a deck is one of its parts
old_refused_as : (parts : Parts) (err : CasesErr) → TellsDeck Old parts.before err → Refuses parts err
old_refused_as parts (errs.Deck side fault) told = subst (λ (s : Side). DeckFault s parts fault) (sym told.0) told.1
old_refused_as parts (errs.Layout line) told = told
old_refused_as parts (errs.Header column) told = absurd told
old_refused_as parts (errs.Fields number) told = absurd told
old_refused_as parts errs.TooMany told = absurd told
old_refused_as parts (errs.BadCase number) told = absurd told
old_refused_as parts errs.NoMemory told = told

pub old_refused : (parts : Parts) (err : CasesErr) → MayRefuse (TellsDeck Old parts.before) (Some errs.NoMemory) err → MayRefuse (Refuses parts) (Some errs.NoMemory) err
old_refused parts err (inl told) = inl (old_refused_as parts err told)
old_refused parts err (inr want) = inr want

new_refused_as : (parts : Parts) (before : Configuration) (err : CasesErr) → Configures parts.before before → TellsDeck New parts.after err → Refuses parts err
new_refused_as parts before (errs.Deck side fault) old told = subst (λ (s : Side). DeckFault s parts fault) (sym told.0) (before, old, told.1)
new_refused_as parts before (errs.Layout line) old told = told
new_refused_as parts before (errs.Header column) old told = absurd told
new_refused_as parts before (errs.Fields number) old told = absurd told
new_refused_as parts before errs.TooMany old told = absurd told
new_refused_as parts before (errs.BadCase number) old told = absurd told
new_refused_as parts before errs.NoMemory old told = told

pub new_refused : (parts : Parts) (before : Configuration) (err : CasesErr) → Configures parts.before before → MayRefuse (TellsDeck New parts.after) (Some errs.NoMemory) err
    → MayRefuse (Refuses parts) (Some errs.NoMemory) err
new_refused parts before err old (inl told) = inl (new_refused_as parts before err old told)
new_refused parts before err old (inr want) = inr want

-- the answer for an input is what it gives
abbrev pub IsInputRead : List ℕ → Result Cases CasesErr → Type 0
IsInputRead bytes result = IsExact (IsReading bytes) (IsRefusal bytes) (Some errs.NoMemory) result

same_parts : (bytes : List ℕ) (one other : Parts) → parts_of bytes ≡ Ok one → parts_of bytes ≡ Ok other → one ≡ other
same_parts bytes one other first second = cc

fault_in : (bytes : List ℕ) (parts : Parts) (err : CasesErr) → parts_of bytes ≡ Ok parts → HasFault bytes err → Refuses parts err
fault_in bytes parts err laid fault = subst (λ (p : Parts). Refuses p err) (same_parts bytes fault.parts parts fault.laid laid) fault.refuses

laid_refused : (bytes : List ℕ) (parts : Parts) (err : CasesErr) → parts_of bytes ≡ Ok parts → IsRefusal bytes err → Refuses parts err
laid_refused bytes parts (errs.Layout line) laid told = absurd (cc (laid, told))
laid_refused bytes parts (errs.Deck side fault) laid told = fault_in bytes parts (errs.Deck side fault) laid told
laid_refused bytes parts (errs.Header column) laid told = fault_in bytes parts (errs.Header column) laid told
laid_refused bytes parts (errs.Fields number) laid told = fault_in bytes parts (errs.Fields number) laid told
laid_refused bytes parts errs.TooMany laid told = fault_in bytes parts errs.TooMany laid told
laid_refused bytes parts (errs.BadCase number) laid told = fault_in bytes parts (errs.BadCase number) laid told
laid_refused bytes parts errs.NoMemory laid told = told

pub laid_exactly : (bytes : List ℕ) (parts : Parts) (result : Result Cases CasesErr) → parts_of bytes ≡ Ok parts → AreRead parts result → IsInputRead bytes result
laid_exactly bytes parts result laid read = record {
  thing = λ made is. read.thing made (subst (λ (p : Parts). Gives p made) (same_parts bytes is.parts parts is.laid laid) is.gives);
  refused = λ err told. read.refused err (laid_refused bytes parts err laid told);
}

has_fault : (bytes : List ℕ) (parts : Parts) (err : CasesErr) → parts_of bytes ≡ Ok parts → Refuses parts err → IsRefusal bytes err
has_fault bytes parts (errs.Layout line) laid told = absurd told
has_fault bytes parts (errs.Deck side fault) laid told = record { parts = parts; laid = laid; refuses = told }
has_fault bytes parts (errs.Header column) laid told = record { parts = parts; laid = laid; refuses = told }
has_fault bytes parts (errs.Fields number) laid told = record { parts = parts; laid = laid; refuses = told }
has_fault bytes parts errs.TooMany laid told = record { parts = parts; laid = laid; refuses = told }
has_fault bytes parts (errs.BadCase number) laid told = record { parts = parts; laid = laid; refuses = told }
has_fault bytes parts errs.NoMemory laid told = told

pub laid_may_refuse : (bytes : List ℕ) (parts : Parts) (err : CasesErr) → parts_of bytes ≡ Ok parts → MayRefuse (Refuses parts) (Some errs.NoMemory) err → MayRefuse (IsRefusal bytes) (Some errs.NoMemory) err
laid_may_refuse bytes parts err laid (inl told) = inl (has_fault bytes parts err laid told)
laid_may_refuse bytes parts err laid (inr want) = inr want

unlaid_refused : (bytes : List ℕ) (line : ℕ) (err : CasesErr) → parts_of bytes ≡ Err line → IsRefusal bytes err → errs.Layout line ≡ err
unlaid_refused bytes line (errs.Layout other) unlaid told = cc (unlaid, told)
unlaid_refused bytes line (errs.Deck side fault) unlaid told = absurd (cc (unlaid, told.laid))
unlaid_refused bytes line (errs.Header column) unlaid told = absurd (cc (unlaid, told.laid))
unlaid_refused bytes line (errs.Fields number) unlaid told = absurd (cc (unlaid, told.laid))
unlaid_refused bytes line errs.TooMany unlaid told = absurd (cc (unlaid, told.laid))
unlaid_refused bytes line (errs.BadCase number) unlaid told = absurd (cc (unlaid, told.laid))
unlaid_refused bytes line errs.NoMemory unlaid told = absurd told

pub unlaid_exactly : (bytes : List ℕ) (line : ℕ) → parts_of bytes ≡ Err line → IsInputRead bytes (Err (errs.Layout line))
unlaid_exactly bytes line unlaid = record {
  thing = λ made is. absurd (cc (unlaid, is.laid));
  refused = λ err told. inl (ap (λ (e : CasesErr). Err e) (unlaid_refused bytes line err unlaid told));
}
