-- What the columns of a row are, where it stands for something, and the tests of SQL on them.
use Rattle.std.proofs.Common.{◌≡◌, ◌&&◌, ℕ, zero, suc, pos, negsuc, Bool, true, false, List, Option, Some, None, refl}
use Rattle.std.proofs.Common.{ap, ap₂, sym, ◌∙◌, arith, is_eq, is_lt, is_gt, nat_eq, nat_lt}
use Rattle.std.specs.Prelude.{bytes_eq, option_map, slice_get, nat_le, if◌then◌else◌}
use Rattle.std.proofs.lemmas.Bool.Decides.{nat_tests}
use Rattle.std.proofs.lemmas.Int.{ints}
use Rattle.std.proofs.lemmas.Map.Text.{is_eq-slice_cmp}
use Rattle.std.proofs.lemmas.Slice.Eq.{bytes_eq-Decides}
use Rattle.sqlite.specs.Order.{Row}
use Rattle.sqlite.specs.declared.types.Value.{Value}
use Rattle.sqlite.specs.declared.types.Value.TheVariants.{Null, Int, Real, Text, Blob}
use Rattle.sqlite_value.specs.Order.{column, value_cmp}
use Rattle.sqlite_value.proofs.OrderLemmas.{value_cmp-Int, value_cmp-Text}
use Rattle.sqlite_sql.specs.Ops.{binary, is_true, from_truth}
use Rattle.dsn_mask.specs.Name.{name_of, volser_of, is_name, is_volser}
use Rattle.sms_construct.specs.Quantities.{request_number_of}
use Rattle.sms_construct.specs.declared.data_set.DataSet.{DataSet}
use Rattle.sms_construct.specs.declared.request.Request.{Request}
use Rattle.sms_construct.specs.declared.target.Target.{Target}
use Rattle.sms_construct.specs.declared.target.Target.TheVariants as targets
use Rattle.sms_keeper.specs.Loading.{target_name, target_rank}
use Rattle.sms_keeper.specs.Tables.{is_named, is_reply_below, is_floor_of, is_below_floor, is_status_of, same_target}
use Rattle.sms_keeper.specs.declared.deck_row.DeckRow.{DeckRow}
use Rattle.sms_keeper.specs.declared.floor.Floor.{Floor}
use Rattle.sms_keeper.specs.declared.kept_row.KeptRow.{KeptRow}
use Rattle.sms_keeper.specs.declared.status_row.StatusRow.{StatusRow}
use Rattle.sms_records.specs.Form.{◌>>=◌, whole}
use Rattle.sms_records.specs.Inner.FormLaws.{bind_some, some_is, guard_some_of}
use Rattle.sms_records.specs.Replies.{reply_form}
use Rattle.sms_records.specs.Requests.{request_form}
use Rattle.sms_records.specs.Sets.{data_set_form}
use Rattle.keeper_statements.specs.Tests.{is_equal, is_less, is_greater, is_of, is_status, is_below, is_above}
use Rattle.sms_sqlite.specs.Values.{text_in, bytes_in, number_in, set_in, reply_in, deck_in, status_in, floor_in}
use Rattle.sms_sqlite.specs.Values.{target_of, all_statuses}

back : (b : Bool) → is_true (from_truth (Some b)) ≡ b
back true = refl
back false = refl

pub equal-Text : (a b : List ℕ) → is_equal (Text a) (Text b) ≡ bytes_eq a b
unfolding binary
equal-Text a b = back _ ∙ ap is_eq (value_cmp-Text a b) ∙ is_eq-slice_cmp a b

pub equal-Int : (a b : ℕ) → is_equal (Int (pos a)) (Int (pos b)) ≡ nat_eq a b
unfolding binary
equal-Int a b = back _ ∙ ap is_eq (value_cmp-Int (pos a) (pos b)) ∙ grind (arith, ints, nat_tests)

pub less-Int : (a b : ℕ) → is_less (Int (pos a)) (Int (pos b)) ≡ nat_lt a b
unfolding binary
less-Int a b = back _ ∙ ap is_lt (value_cmp-Int (pos a) (pos b)) ∙ grind (arith, ints, nat_tests)

pub greater-Int : (a b : ℕ) → is_greater (Int (pos a)) (Int (pos b)) ≡ nat_lt b a
unfolding binary
greater-Int a b = back _ ∙ ap is_gt (value_cmp-Int (pos a) (pos b)) ∙ grind (arith, ints, nat_tests)

text_is : (v : Value) (text : List ℕ) → text_in v ≡ Some text → v ≡ Text text
text_is Null text e = absurd cc
text_is (Int n) text e = absurd cc
text_is (Real x) text e = absurd cc
text_is (Text t) text e = ap Text (some_is t text e)
text_is (Blob b) text e = absurd cc

number_is : (v : Value) (n : ℕ) → number_in v ≡ Some n → v ≡ Int (pos n)
number_is Null n e = absurd cc
number_is (Int (pos m)) n e = ap (λ k. Int (pos k)) (some_is m n e)
number_is (Int (negsuc m)) n e = absurd cc
number_is (Real x) n e = absurd cc
number_is (Text t) n e = absurd cc
number_is (Blob b) n e = absurd cc

name_is : (text name : List ℕ) → name_of text ≡ Some name → text ≡ name
name_is text name e = (guard_some_of (is_name text) text name e).1

volser_is : (text volser : List ℕ) → volser_of text ≡ Some volser → text ≡ volser
volser_is text volser e = (guard_some_of (is_volser text) text volser e).1

number_same : (n number : ℕ) → request_number_of n ≡ Some number → n ≡ number
number_same n number e = (guard_some_of _ n number e).1

abbrev set_2 : List ℕ → List ℕ → Option DataSet
set_2 dsn bytes = whole data_set_form bytes >>= λ set. if bytes_eq set.dsn dsn then Some set else None

abbrev set_1 : Row → List ℕ → Option DataSet
set_1 row dsn = bytes_in (column row 1) >>= set_2 dsn

pub set_named : (row : Row) (set : DataSet) → set_in row ≡ Some set → column row 0 ≡ Text set.dsn
unfolding set_in
set_named row set e =
    let a = bind_some (text_in (column row 0)) (set_1 row) set e in
    let b = bind_some (bytes_in (column row 1)) (set_2 a.0) set a.2 in
    let c = bind_some (whole data_set_form b.0) (λ set. if bytes_eq set.dsn a.0 then Some set else None) set b.2 in
    let d = guard_some_of (bytes_eq c.0.dsn a.0) c.0 set c.2 in
    let name : c.0.dsn ≡ a.0 = (bytes_eq-Decides c.0.dsn a.0).0 d.0 in
    text_is (column row 0) a.0 a.1 ∙ ap Text (sym name ∙ ap (λ (x : DataSet). x.dsn) d.1)

-- the steps by which a reply is read
abbrev reply_8 : List ℕ → ℕ → ℕ → Request → List ℕ → Option KeptRow
reply_8 job number place request answered = whole reply_form answered >>= λ reply. Some (record { job = job; number = number; place = place; request = request; reply = reply })

abbrev reply_7 : Row → List ℕ → ℕ → ℕ → Request → Option KeptRow
reply_7 row job number place request = bytes_in (column row 4) >>= reply_8 job number place request

abbrev reply_6 : Row → List ℕ → ℕ → ℕ → List ℕ → Option KeptRow
reply_6 row job number place asked = whole request_form asked >>= reply_7 row job number place

abbrev reply_5 : Row → List ℕ → ℕ → ℕ → Option KeptRow
reply_5 row job number place = bytes_in (column row 3) >>= reply_6 row job number place

abbrev reply_4 : Row → List ℕ → ℕ → Option KeptRow
reply_4 row job number = number_in (column row 2) >>= reply_5 row job number

abbrev reply_3 : Row → List ℕ → ℕ → Option KeptRow
reply_3 row job n = request_number_of n >>= reply_4 row job

abbrev reply_2 : Row → List ℕ → Option KeptRow
reply_2 row job = number_in (column row 1) >>= reply_3 row job

abbrev reply_1 : Row → List ℕ → Option KeptRow
reply_1 row text = name_of text >>= reply_2 row

reply_key : (row : Row) (job : List ℕ) (number : ℕ) (x : KeptRow) → reply_4 row job number ≡ Some x → (job ≡ x.job) × (number ≡ x.number)
reply_key row job number x e =
    let f = bind_some (number_in (column row 2)) (reply_5 row job number) x e in
    let h = bind_some (bytes_in (column row 3)) (reply_6 row job number f.0) x f.2 in
    let i = bind_some (whole request_form h.0) (reply_7 row job number f.0) x h.2 in
    let j = bind_some (bytes_in (column row 4)) (reply_8 job number f.0 i.0) x i.2 in
    let k = bind_some (whole reply_form j.0) (λ reply. Some (record { job = job; number = number; place = f.0; request = i.0; reply = reply })) x j.2 in
    let is = some_is (record { job = job; number = number; place = f.0; request = i.0; reply = k.0 }) x k.2 in
    (ap (λ (r : KeptRow). r.job) is, ap (λ (r : KeptRow). r.number) is)

pub reply_numbered : (row : Row) (x : KeptRow) → reply_in row ≡ Some x → (column row 0 ≡ Text x.job) × (column row 1 ≡ Int (pos x.number))
unfolding reply_in
reply_numbered row x e =
    let a = bind_some (text_in (column row 0)) (reply_1 row) x e in
    let b = bind_some (name_of a.0) (reply_2 row) x a.2 in
    let c = bind_some (number_in (column row 1)) (reply_3 row b.0) x b.2 in
    let d = bind_some (request_number_of c.0) (reply_4 row b.0) x c.2 in
    let key = reply_key row b.0 d.0 x d.2 in (
      text_is (column row 0) a.0 a.1 ∙ ap Text (name_is a.0 b.0 b.1 ∙ key.0),
      number_is (column row 1) c.0 c.1 ∙ ap (λ n. Int (pos n)) (number_same c.0 d.0 d.1 ∙ key.1),
    )

pub deck_numbered : (row : Row) (x : DeckRow) → deck_in row ≡ Some x → column row 0 ≡ Int (pos x.count)
unfolding deck_in
deck_numbered row x e =
    let a = bind_some (number_in (column row 0)) (λ count. bytes_in (column row 2) >>= λ bytes. Some (record { count = count; bytes = bytes })) x e in
    let b = bind_some (bytes_in (column row 2)) (λ bytes. Some (record { count = a.0; bytes = bytes })) x a.2 in
    number_is (column row 0) a.0 a.1 ∙ ap (λ (r : DeckRow). Int (pos r.count)) (some_is (record { count = a.0; bytes = b.0 }) x b.2)

option_is : {A B : Type 0} (f : A → B) (o : Option A) (y : B) → option_map f o ≡ Some y → (x : A) × (o ≡ Some x) × (f x ≡ y)
option_is f (Some x) y e = (x, refl, some_is (f x) y e)
option_is f None y e = absurd cc

target_is : (kind : ℕ) (name : List ℕ) (target : Target) → target_of kind name ≡ Some target → (kind ≡ target_rank target) × (name ≡ target_name target)
target_is zero name target e =
    let o = option_is targets.Group (name_of name) target e in
    (ap target_rank o.2, name_is name o.0 o.1 ∙ ap target_name o.2)
target_is (suc zero) name target e =
    let o = option_is targets.Volume (volser_of name) target e in
    (ap target_rank o.2, volser_is name o.0 o.1 ∙ ap target_name o.2)
target_is (suc (suc kind)) name target e = absurd cc

-- the steps by which a status is read
abbrev status_4 : Target → ℕ → Option StatusRow
status_4 target n = slice_get all_statuses n >>= λ status. Some (record { target = target; status = status })

abbrev status_3 : Row → Target → Option StatusRow
status_3 row target = number_in (column row 2) >>= status_4 target

abbrev status_2 : Row → ℕ → List ℕ → Option StatusRow
status_2 row kind name = target_of kind name >>= status_3 row

abbrev status_1 : Row → ℕ → Option StatusRow
status_1 row kind = text_in (column row 1) >>= status_2 row kind

status_key : (row : Row) (target : Target) (x : StatusRow) → status_3 row target ≡ Some x → target ≡ x.target
status_key row target x e =
    let d = bind_some (number_in (column row 2)) (status_4 target) x e in
    let f = bind_some (slice_get all_statuses d.0) (λ status. Some (record { target = target; status = status })) x d.2 in
    ap (λ (r : StatusRow). r.target) (some_is (record { target = target; status = f.0 }) x f.2)

pub status_keyed : (row : Row) (x : StatusRow) → status_in row ≡ Some x → (column row 0 ≡ Int (pos (target_rank x.target))) × (column row 1 ≡ Text (target_name x.target))
unfolding status_in
status_keyed row x e =
    let a = bind_some (number_in (column row 0)) (status_1 row) x e in
    let b = bind_some (text_in (column row 1)) (status_2 row a.0) x a.2 in
    let c = bind_some (target_of a.0 b.0) (status_3 row) x b.2 in
    let is = status_key row c.0 x c.2 in
    let key = target_is a.0 b.0 c.0 c.1 in (
      number_is (column row 0) a.0 a.1 ∙ ap (λ n. Int (pos n)) (key.0 ∙ ap target_rank is),
      text_is (column row 1) b.0 b.1 ∙ ap Text (key.1 ∙ ap target_name is),
    )

pub floor_named : (row : Row) (x : Floor) → floor_in row ≡ Some x → (column row 0 ≡ Text x.job) × (column row 1 ≡ Int (pos x.floor))
unfolding floor_in
floor_named row x e =
    let a = bind_some _ _ x e in
    let b = bind_some _ _ x a.2 in
    let c = bind_some _ _ x b.2 in
    let d = bind_some _ _ x c.2 in
    let is = some_is _ x d.2 in (
      text_is (column row 0) a.0 a.1 ∙ ap Text (name_is a.0 b.0 b.1 ∙ ap (λ (r : Floor). r.job) is),
      number_is (column row 1) c.0 c.1 ∙ ap (λ n. Int (pos n)) ((guard_some_of (nat_le c.0 4294967295) c.0 d.0 d.1).1 ∙ ap (λ (r : Floor). r.floor) is),
    )

-- the tests of SQL are those of the values

pub set_alike : (dsn : List ℕ) (row : Row) (x : DataSet) → set_in row ≡ Some x → is_of dsn row ≡ is_named dsn x
set_alike dsn row x e = ap (λ v. is_equal v (Text dsn)) (set_named row x e) ∙ equal-Text x.dsn dsn

pub below_alike : (job : List ℕ) (floor : ℕ) (row : Row) (x : KeptRow) → reply_in row ≡ Some x → is_below job (pos floor) row ≡ is_reply_below job floor x
below_alike job floor row x e =
    let at = reply_numbered row x e in
    ap₂ (λ a b. is_equal a (Text job) && is_less b (Int (pos floor))) at.0 at.1 ∙ ap₂ (λ a b. a && b) (equal-Text x.job job) (less-Int x.number floor)

pub floor_alike : (job : List ℕ) (row : Row) (x : Floor) → floor_in row ≡ Some x → is_of job row ≡ is_floor_of job x
floor_alike job row x e = ap (λ v. is_equal v (Text job)) (floor_named row x e).0 ∙ equal-Text x.job job

pub above_alike : (job : List ℕ) (number : ℕ) (row : Row) (x : Floor) → floor_in row ≡ Some x → is_above job (pos number) row ≡ is_below_floor job number x
above_alike job number row x e =
    let at = floor_named row x e in
    ap₂ (λ a b. is_equal a (Text job) && is_greater b (Int (pos number))) at.0 at.1 ∙ ap₂ (λ a b. a && b) (equal-Text x.job job) (greater-Int x.floor number)

keys_same : (a b : Target) → (nat_eq (target_rank a) (target_rank b) && bytes_eq (target_name a) (target_name b)) ≡ same_target a b
keys_same (targets.Group a) (targets.Group b) = refl
keys_same (targets.Group a) (targets.Volume b) = refl
keys_same (targets.Group a) (targets.Set b) = refl
keys_same (targets.Volume a) (targets.Group b) = refl
keys_same (targets.Volume a) (targets.Volume b) = refl
keys_same (targets.Volume a) (targets.Set b) = refl
keys_same (targets.Set a) (targets.Group b) = refl
keys_same (targets.Set a) (targets.Volume b) = refl
keys_same (targets.Set a) (targets.Set b) = refl

pub status_alike : (target : Target) (row : Row) (x : StatusRow) → status_in row ≡ Some x → is_status (pos (target_rank target)) (target_name target) row ≡ is_status_of target x
status_alike target row x e =
    let at = status_keyed row x e in
    ap₂ (λ a b. is_equal a (Int (pos (target_rank target))) && is_equal b (Text (target_name target))) at.0 at.1
    ∙ ap₂ (λ a b. a && b) (equal-Int (target_rank x.target) (target_rank target)) (equal-Text (target_name x.target) (target_name target))
    ∙ keys_same x.target target

pub int_tie : (a b : ℕ) → is_eq (value_cmp (Int (pos a)) (Int (pos b))) ≡ nat_eq a b
int_tie a b = ap is_eq (value_cmp-Int (pos a) (pos b)) ∙ grind (arith, ints, nat_tests)
