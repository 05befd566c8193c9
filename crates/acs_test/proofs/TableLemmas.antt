-- The records of a table.
use Rattle.std.proofs.Common.{◌≡◌, ◌≤◌, ◌+◌, ℕ, Bool, true, false, List, [], ◌∷◌, ◌++◌, None, Some, get_or, length, map}
use Rattle.std.proofs.Common.{refl, sym, ap, ap₂, ◌∙◌, subst, length-append, arith}
use Rattle.std.specs.Prelude.{Option, if◌then◌else◌}
use Rattle.csv.specs.Machine.{Read, ends_at_end, field_after, fields_after, is_end, next_record, step}
use Rattle.csv.specs.Reading.{Reached, default_config, is_bom, strip_bom}
use Rattle.csv.specs.Records.{Row, fields_of}
use Rattle.csv.specs.declared.parser.Action.{Action}
use Rattle.csv.specs.declared.parser.Action.TheVariants as act
use Rattle.csv.specs.declared.parser.Config.{Config}
use Rattle.csv.specs.declared.parser.State.{State}
use Rattle.csv.specs.declared.parser.State.TheVariants as st
use Rattle.acs_test.specs.Table.{IsTable}

-- a byte ends at most one field
after_short : (action : Action) (fields : List (List ℕ)) (field : List ℕ) → length (fields_after action fields field) ≤ length fields + 1
after_short act.EndField fields field = omega (arith, length-append fields (field ∷ []))
after_short act.EndRecord fields field = omega (arith, length-append fields (field ∷ []))
after_short act.Skip fields field = omega arith
after_short act.Copy fields field = omega arith

last_short : (ends : Bool) (fields : List (List ℕ)) (field : List ℕ) (read : Read) → (if ends then Some (fields ++ (field ∷ []), st.StartRecord, []) else None) ≡ Some read → length read.0 ≤ length fields + 1
last_short true fields field read found =
    let same : fields ++ (field ∷ []) ≡ read.0 = cc in
    omega (arith, length-append fields (field ∷ []), ap length same)
last_short false fields field read found = absurd (cc found)

more_short : (ends : Bool) (fields : List (List ℕ)) (state : State) (rest : List ℕ) (other : Option Read) (read : Read)
    → ((later : Read) → other ≡ Some later → length later.0 ≤ length fields + (length rest + 1))
    → (if ends then Some (fields, state, rest) else other) ≡ Some read → length read.0 ≤ length fields + (length rest + 1)
more_short true fields state rest other read later found =
    let same : fields ≡ read.0 = cc in
    omega (arith, ap length same)
more_short false fields state rest other read later found = later read found

-- a record has no more fields than bytes and one
record_short : (config : Config) (state : State) (fields : List (List ℕ)) (field bytes : List ℕ) (read : Read) → next_record config state fields field bytes ≡ Some read
    → length read.0 ≤ length fields + (length bytes + 1)
unfolding next_record
record_short config state fields field [] read found = omega (arith, last_short (ends_at_end state) fields field read found)
record_short config state fields field (byte ∷ bytes) read found =
    let now = step config state byte in
    let later = fields_after now.1 fields field in
    let short : length read.0 ≤ length later + (length bytes + 1) =
    more_short (is_end now.1) later now.0 bytes (next_record config now.0 later (field_after now.1 byte field) bytes) read
    (λ other next. record_short config now.0 later (field_after now.1 byte field) bytes other next) found in
    omega (arith, short, after_short now.1 fields field)

mark_short : (mark : Bool) (a b c : ℕ) (rest : List ℕ) → length (if mark then rest else a ∷ b ∷ c ∷ rest) ≤ length (a ∷ b ∷ c ∷ rest)
mark_short true a b c rest = omega arith
mark_short false a b c rest = omega arith

bom_short : (bytes : List ℕ) → length (strip_bom bytes) ≤ length bytes
unfolding strip_bom
bom_short [] = omega arith
bom_short (a ∷ []) = omega arith
bom_short (a ∷ b ∷ []) = omega arith
bom_short (a ∷ b ∷ c ∷ rest) = mark_short (is_bom a b c) a b c rest

-- the header has no more columns than the table has bytes and one
pub header_short : (table : List ℕ) (header : List (List ℕ)) (records : List (List (List ℕ))) → IsTable table (header ∷ records) → length header ≤ length table + 1
unfolding Reached
header_short table header records are =
    let read = are.2.0 in
    let short = record_short default_config st.StartRecord [] [] (strip_bom table) read are.2.1 in
    omega (arith, short, ap length are.2.2, bom_short table)

pub first_short : (table : List ℕ) (records : List Row) (header : Row) → IsTable table (map fields_of records) → 1 ≤ length records → header ≡ get_or records 0 header → length (fields_of header) ≤ length table + 1
first_short table [] header are some first = absurd (omega arith)
first_short table (record1 ∷ records) header are some first =
    let short = header_short table (fields_of record1) (map fields_of records) are in
    omega (arith, short, ap (λ (r : Row). length (fields_of r)) first)

same_reached : (config : Config) (state : State) (bytes : List ℕ) (one other : List (List (List ℕ))) (end end2 : State) (rest rest2 : List ℕ)
    → Reached config state bytes one end rest → next_record config end [] [] rest ≡ None → Reached config state bytes other end2 rest2 → next_record config end2 [] [] rest2 ≡ None → one ≡ other
unfolding Reached
same_reached config state bytes [] [] end end2 rest rest2 first none second none2 = refl
same_reached config state bytes [] (record2 ∷ other) end end2 rest rest2 first none second none2 =
    let next : next_record config state [] [] bytes ≡ None = ap₂ (λ (s : State) (b : List ℕ). next_record config s [] [] b) first.0 first.1 ∙ none in
    absurd (cc (second.1, next))
same_reached config state bytes (record1 ∷ one) [] end end2 rest rest2 first none second none2 =
    let next : next_record config state [] [] bytes ≡ None = ap₂ (λ (s : State) (b : List ℕ). next_record config s [] [] b) second.0 second.1 ∙ none2 in
    absurd (cc (first.1, next))
same_reached config state bytes (record1 ∷ one) (record2 ∷ other) end end2 rest rest2 first none second none2 =
    let read : first.0 ≡ second.0 = cc (first.1, second.1) in
    let others = same_reached config first.0.1 first.0.2 one other end end2 rest rest2 first.3 none
    (subst (λ (p : Read). Reached config p.1 p.2 other end2 rest2) (sym read) second.3) none2 in
    ap₂ (λ (r : List (List ℕ)) (rs : List (List (List ℕ))). r ∷ rs) (first.2 ∙ ap (λ (p : Read). p.0) read ∙ sym second.2) others

-- a table has one list of records
pub same_records : (table : List ℕ) (one other : List (List (List ℕ))) → IsTable table one → IsTable table other → one ≡ other
same_records table one other first second = same_reached default_config st.StartRecord (strip_bom table) one other first.0 second.0 first.1 second.1 first.2 first.3 second.2 second.3
