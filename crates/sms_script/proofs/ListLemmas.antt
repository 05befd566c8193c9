-- One more item of a list of operands.
use Rattle.std.proofs.Common.{◌≡◌, ℕ, Bool, true, false, List, [], ◌∷◌, ◌++◌, None, Some, length, refl, sym, ap, ◌∙◌}
use Rattle.std.proofs.Common.{arith, append_assoc, length-append}
use Rattle.std.specs.Prelude.{Option, bytes_eq, nat_le, nat_lt, not, ◌&&◌, ◌||◌}
use Rattle.std.specs.List.{list_all, list_any}
use Rattle.std.proofs.lemmas.Bool.Decides.{nat_tests}
use Rattle.std.proofs.lemmas.Slice.Eq.{bytes_eq-Decides}
use Rattle.dsn_mask.specs.Name.{is_volser}
use Rattle.desk_common.specs.Bytes.{comma}
use Rattle.desk_common.specs.Words.{pieces_of}
use Rattle.sms_script.specs.Parts.{listed, pieces_behind}
use Rattle.sms_script.specs.Values.{are_distinct, are_fields, are_volumes, is_plain, volumes_of}

and_false : (a b : Bool) → b ≡ false → (a && b) ≡ false
and_false true b is = is
and_false false b is = refl

or_true : (a b : Bool) → b ≡ true → (a || b) ≡ true
or_true true b is = refl
or_true false b is = is

pub both_parts : (a b : Bool) → (a && b) ≡ true → (a ≡ true) × (b ≡ true)
both_parts true true is = (refl, refl)
both_parts true false is = absurd (cc is)
both_parts false b is = absurd (cc is)

-- a list with an item that fails
all_stops : (p : List ℕ → Bool) (xs ys : List (List ℕ)) (x : List ℕ) → p x ≡ false → list_all p (xs ++ x ∷ ys) ≡ false
all_stops p [] ys x fails = rw fails refl
all_stops p (y ∷ xs) ys x fails = and_false (p y) _ (all_stops p xs ys x fails)

-- a list with one more item that passes
all_goes_on : (p : List ℕ → Bool) (xs : List (List ℕ)) (x : List ℕ) → list_all p xs ≡ true → p x ≡ true → list_all p (xs ++ x ∷ []) ≡ true
all_goes_on p [] x all passes = rw passes refl
all_goes_on p (y ∷ xs) x all passes =
    let parts = both_parts (p y) (list_all p xs) all in
    rw (parts.0, all_goes_on p xs x parts.1 passes) refl

any_here : (p : List ℕ → Bool) (xs ys : List (List ℕ)) (x : List ℕ) → p x ≡ true → list_any p (xs ++ x ∷ ys) ≡ true
any_here p [] ys x passes = rw passes refl
any_here p (y ∷ xs) ys x passes = or_true (p y) _ (any_here p xs ys x passes)

same_back : (x y : List ℕ) → bytes_eq x y ≡ true → bytes_eq y x ≡ true
same_back x y same = (bytes_eq-Decides y x).1 (sym ((bytes_eq-Decides x y).0 same))

-- an item that stands before it
distinct_stops_at : (y x : List ℕ) (xs ys : List (List ℕ)) (here : Bool) → bytes_eq x y ≡ here → (here || list_any (bytes_eq x) xs) ≡ true
    → (list_any (bytes_eq x) xs ≡ true → are_distinct (xs ++ x ∷ ys) ≡ false) → are_distinct (y ∷ (xs ++ x ∷ ys)) ≡ false
distinct_stops_at y x xs ys true is there rest = rw (any_here (bytes_eq y) xs ys x (same_back x y is)) refl
distinct_stops_at y x xs ys false is there rest = and_false _ _ (rest there)

distinct_stops : (xs ys : List (List ℕ)) (x : List ℕ) → list_any (bytes_eq x) xs ≡ true → are_distinct (xs ++ x ∷ ys) ≡ false
distinct_stops [] ys x there = absurd (cc there)
distinct_stops (y ∷ xs) ys x there = distinct_stops_at y x xs ys (bytes_eq x y) refl there (distinct_stops xs ys x)

pub neither : (a b : Bool) → (a || b) ≡ false → (a ≡ false) × (b ≡ false)
neither true b none = absurd (cc none)
neither false b none = (refl, none)

not_there : (y x : List ℕ) (xs : List (List ℕ)) (here : Bool) → bytes_eq y x ≡ here → bytes_eq x y ≡ false → list_any (bytes_eq y) xs ≡ false → list_any (bytes_eq y) (xs ++ x ∷ []) ≡ false
not_there y x xs true is other none = absurd (cc (same_back y x is, other))
not_there y x [] false is other none = rw is refl
not_there y x (z ∷ xs) false is other none =
    let parts = neither (bytes_eq y z) (list_any (bytes_eq y) xs) none in
    rw (parts.0, not_there y x xs false is other parts.1) refl

not_true : (a : Bool) → not a ≡ true → a ≡ false
not_true true is = absurd (cc is)
not_true false is = refl

distinct_goes_on : (xs : List (List ℕ)) (x : List ℕ) → are_distinct xs ≡ true → list_any (bytes_eq x) xs ≡ false → are_distinct (xs ++ x ∷ []) ≡ true
distinct_goes_on [] x distinct new = refl
distinct_goes_on (y ∷ xs) x distinct new =
    let parts = both_parts (not (list_any (bytes_eq y) xs)) (are_distinct xs) distinct in
    let apart = neither (bytes_eq x y) (list_any (bytes_eq x) xs) new in
    rw (not_there y x xs (bytes_eq y x) refl apart.0 (not_true _ parts.0), distinct_goes_on xs x parts.1 apart.1) refl

-- the volume serials with one more that may join
pub volumes_go_on : (xs : List (List ℕ)) (x : List ℕ) → are_volumes xs ≡ true → (nat_lt (length xs) 59 && (is_volser x && not (list_any (bytes_eq x) xs))) ≡ true → are_volumes (xs ++ x ∷ []) ≡ true
volumes_go_on xs x are may =
    let had = both_parts (nat_le (length xs) 59) _ are in
    let lists = both_parts (list_all is_volser xs) (are_distinct xs) had.1 in
    let room = both_parts (nat_lt (length xs) 59) _ may in
    let new = both_parts (is_volser x) _ room.1 in
    let few : nat_le (length (xs ++ x ∷ [])) 59 ≡ true = grind (arith, nat_tests, length-append xs (x ∷ []), room.0) in
    rw (few, all_goes_on is_volser xs x lists.0 new.0, distinct_goes_on xs x lists.1 (not_true _ new.1)) refl

volumes_stop_at : (xs ys : List (List ℕ)) (x : List ℕ) (few volser there : Bool) → nat_lt (length xs) 59 ≡ few → is_volser x ≡ volser → list_any (bytes_eq x) xs ≡ there
    → (few && (volser && not there)) ≡ false → are_volumes (xs ++ x ∷ ys) ≡ false
volumes_stop_at xs ys x false volser there room is found may =
    let many : nat_le (length (xs ++ x ∷ ys)) 59 ≡ false = grind (arith, nat_tests, length-append xs (x ∷ ys), room) in
    rw many refl
volumes_stop_at xs ys x true false there room is found may = rw (all_stops is_volser xs ys x is) (and_false (nat_le (length (xs ++ x ∷ ys)) 59) _ refl)
volumes_stop_at xs ys x true true true room is found may =
    and_false (nat_le (length (xs ++ x ∷ ys)) 59) _ (and_false (list_all is_volser (xs ++ x ∷ ys)) _ (distinct_stops xs ys x found))
volumes_stop_at xs ys x true true false room is found may = absurd (cc may)

-- the volume serials with one that may not join
pub volumes_stop : (xs ys : List (List ℕ)) (x : List ℕ) → (nat_lt (length xs) 59 && (is_volser x && not (list_any (bytes_eq x) xs))) ≡ false → are_volumes (xs ++ x ∷ ys) ≡ false
volumes_stop xs ys x may = volumes_stop_at xs ys x (nat_lt (length xs) 59) (is_volser x) (list_any (bytes_eq x) xs) refl refl refl may

-- the texts with one more
pub fields_go_on : (xs : List (List ℕ)) (x : List ℕ) → are_fields xs ≡ true → (nat_lt (length xs) 8 && is_plain 44 x) ≡ true → are_fields (xs ++ x ∷ []) ≡ true
fields_go_on xs x are may =
    let had = both_parts (nat_le (length xs) 8) _ are in
    let room = both_parts (nat_lt (length xs) 8) (is_plain 44 x) may in
    let few : nat_le (length (xs ++ x ∷ [])) 8 ≡ true = grind (arith, nat_tests, length-append xs (x ∷ []), room.0) in
    rw (few, all_goes_on (is_plain 44) xs x had.1 room.1) refl

fields_stop_at : (xs ys : List (List ℕ)) (x : List ℕ) (few plain : Bool) → nat_lt (length xs) 8 ≡ few → is_plain 44 x ≡ plain → (few && plain) ≡ false → are_fields (xs ++ x ∷ ys) ≡ false
fields_stop_at xs ys x false plain room is may =
    let many : nat_le (length (xs ++ x ∷ ys)) 8 ≡ false = grind (arith, nat_tests, length-append xs (x ∷ ys), room) in
    rw many refl
fields_stop_at xs ys x true false room is may = and_false (nat_le (length (xs ++ x ∷ ys)) 8) _ (all_stops (is_plain 44) xs ys x is)
fields_stop_at xs ys x true true room is may = absurd (cc may)

-- the texts with one that is none
pub fields_stop : (xs ys : List (List ℕ)) (x : List ℕ) → (nat_lt (length xs) 8 && is_plain 44 x) ≡ false → are_fields (xs ++ x ∷ ys) ≡ false
fields_stop xs ys x may = fields_stop_at xs ys x (nat_lt (length xs) 8) (is_plain 44 x) refl refl may

-- a volume serial that may not join
pub volumes_refused : (volumes : List (List ℕ)) (value piece text : List ℕ) (behind : Option (List ℕ)) → volumes ++ pieces_behind (Some text) ≡ listed value
    → pieces_of (comma ∷ []) text ≡ piece ∷ pieces_behind behind → (nat_lt (length volumes) 59 && (is_volser piece && not (list_any (bytes_eq piece) volumes))) ≡ false → None ≡ volumes_of value
volumes_refused volumes value piece text behind whole cut may =
    rw (← whole, cut, volumes_stop volumes (pieces_behind behind) piece may) refl

-- a volume serial that joins
pub volumes_taken : (volumes : List (List ℕ)) (value piece text : List ℕ) (behind : Option (List ℕ)) → volumes ++ pieces_behind (Some text) ≡ listed value
    → pieces_of (comma ∷ []) text ≡ piece ∷ pieces_behind behind → (volumes ++ piece ∷ []) ++ pieces_behind behind ≡ listed value
volumes_taken volumes value piece text behind whole cut =
    append_assoc volumes (piece ∷ []) (pieces_behind behind) ∙ ap (λ ps. volumes ++ ps) (sym cut) ∙ whole
