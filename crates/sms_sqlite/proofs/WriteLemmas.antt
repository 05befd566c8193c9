-- What each written row reads as, and each change of the tables.
use Rattle.std.proofs.Common.{◌≡◌, ◌≤◌, ◌++◌, ◌∷◌, [], ℕ, ℤ, pos, Bool, true, false, not, cond, List, Some, filter, map}
use Rattle.std.proofs.Common.{refl, ap, sym, subst, ◌∙◌}
use Rattle.std.specs.Prelude.{option_map}
use Rattle.sms_construct.specs.declared.target.Target.TheVariants as targets
use Rattle.std.proofs.lemmas.Bool.{le-leb}
use Rattle.std.proofs.lemmas.List.Sums.{list_all-from_AllPass}
use Rattle.std.proofs.lemmas.Slice.Eq.{bytes_eq-Decides}
use Rattle.desk_common.specs.Limits.{most_name_bytes, most_volser_bytes, most_number, up_to}
use Rattle.dsn_mask.specs.Name.{IsName, IsVolser, name_of, volser_of, is_name_byte}
use Rattle.sms_construct.specs.Quantities.{IsRequestNumber, request_number_of}
use Rattle.sms_construct.specs.declared.data_set.DataSet.{DataSet}
use Rattle.sms_construct.specs.declared.status.Status.{Status}
use Rattle.sms_construct.specs.declared.target.Target.{Target}
use Rattle.sms_keeper.specs.Loading.{target_name, target_rank}
use Rattle.sms_keeper.specs.Tables.{is_named, is_floor_of, is_reply_below, put_set, put_floor, without_set, row_with}
use Rattle.sms_keeper.specs.Tables.{is_status_of, row_of}
use Rattle.sms_keeper.specs.declared.change.Change.{Change}
use Rattle.sms_keeper.specs.declared.rows.Rows.{Rows}
use Rattle.sms_keeper.specs.declared.status_row.StatusRow.{StatusRow}
use Rattle.sms_records.specs.Form.{IsReadable}
use Rattle.sms_records.specs.Replies.{reply_form}
use Rattle.sms_records.specs.Requests.{request_form}
use Rattle.sms_records.specs.Sets.{data_set_form}
use Rattle.sms_records.specs.Inner.TextLaws.{and_true}
use Rattle.sms_records.specs.Inner.WholeLaws.{whole-again}
use Rattle.sqlite_rules.specs.Edit.{is_taken}
use Rattle.keeper_statements.specs.Changes as tables
use Rattle.keeper_statements.specs.Tables.{Tables}
use Rattle.keeper_statements.specs.Tests.{set_row, reply_row, deck_row, floor_row, is_of, is_status, is_below, without}
use Rattle.keeper_statements.specs.Tests.{HasFound}
use Rattle.sms_sqlite.specs.Inner.Columns.{status_column, with_statuses, AreReadable}
use Rattle.sms_sqlite.specs.Values.{each_in, set_in, reply_in, status_in, floor_in, target_of}
use Rattle.sms_sqlite.proofs.DeckLemmas.{deck_put}
use Rattle.sms_sqlite.proofs.ReadLemmas.{each_push, each_filter, joins}
use Rattle.sms_sqlite.proofs.StatusLemmas.{statuses_read, status_reads, none_set, one_set}
use Rattle.sms_sqlite.proofs.TablesLemmas.{AreRead, AreLike, exactly}
use Rattle.sms_sqlite.proofs.ValueLemmas.{set_alike, below_alike, floor_alike, status_alike}

pub name_again : (name : List ℕ) → IsName name → name_of name ≡ Some name
name_again name h =
    let is = and_true _ _ (le-leb 1 _ h.0) (and_true _ _ (le-leb _ most_name_bytes h.1) (and_true _ _ h.2 (list_all-from_AllPass is_name_byte name h.3))) in
    rw is refl

pub volser_again : (volser : List ℕ) → IsVolser volser → volser_of volser ≡ Some volser
volser_again volser h =
    let is = and_true _ _ (le-leb 1 _ h.0) (and_true _ _ (le-leb _ most_volser_bytes h.1) (list_all-from_AllPass is_name_byte volser h.2)) in
    rw is refl

pub group_again : (name : List ℕ) → IsName name → target_of 0 name ≡ Some (targets.Group name)
group_again name h = ap (option_map targets.Group) (name_again name h)

pub volume_again : (volser : List ℕ) → IsVolser volser → target_of 1 volser ≡ Some (targets.Volume volser)
volume_again volser h = ap (option_map targets.Volume) (volser_again volser h)

number_again : (n : ℕ) → IsRequestNumber n → request_number_of n ≡ Some n
number_again n h = let is = and_true _ _ (le-leb 1 n h.0) (le-leb n most_number h.1) in rw is refl

floor_again : (n : ℕ) → n ≤ 4294967295 → up_to 4294967295 n ≡ Some n
floor_again n low = rw (le-leb n 4294967295 low) refl

set_reads : (set : DataSet) (bytes : List ℕ) → bytes ≡ data_set_form.write set → IsReadable data_set_form set → set_in (set_row set.dsn bytes) ≡ Some set
unfolding set_in
set_reads set bytes is again = rw (whole-again data_set_form bytes set again is, (bytes_eq-Decides set.dsn set.dsn).1 refl) refl

pub puts_set : (set : DataSet) (dsn bytes : List ℕ) → dsn ≡ set.dsn → bytes ≡ data_set_form.write set → IsReadable data_set_form set → (t : Tables) (rows : Rows) → AreRead t rows
    → AreLike (tables.with_set dsn bytes t) (record rows { sets = put_set set rows.sets })
puts_set set dsn bytes same is again t rows read = subst (λ d. AreLike (tables.with_set d bytes t) (record rows { sets = put_set set rows.sets })) (sym same) (exactly _ _ (record {
  sets = each_push set_in (without (is_of set.dsn) t.sets) (without_set set.dsn rows.sets) (set_row set.dsn bytes) set
      (each_filter set_in (λ r. not (is_of set.dsn r)) (λ x. not (is_named set.dsn x)) (λ r x e. ap not (set_alike set.dsn r x e)) t.sets rows.sets read.sets) (set_reads set bytes is again);
  replies = read.replies;
  decks = read.decks;
  statuses = read.statuses;
  floors = read.floors;
}))

set_dropped : (dsn : List ℕ) (t : Tables) (rows : Rows) → AreRead t rows → AreLike (tables.without_set dsn t) (record rows { sets = without_set dsn rows.sets })
set_dropped dsn t rows read = exactly _ _ (record {
  sets = each_filter set_in (λ r. not (is_of dsn r)) (λ x. not (is_named dsn x)) (λ r x e. ap not (set_alike dsn r x e)) t.sets rows.sets read.sets;
  replies = read.replies;
  decks = read.decks;
  statuses = read.statuses;
  floors = read.floors;
})

pub drops_set : (dsn name : List ℕ) → name ≡ dsn → (t : Tables) (rows : Rows) → AreRead t rows → AreLike (tables.without_set name t) (record rows { sets = without_set dsn rows.sets })
drops_set dsn name same t rows read = subst (λ n. AreLike (tables.without_set n t) (record rows { sets = without_set dsn rows.sets })) (sym same) (set_dropped dsn t rows read)

floor_reads : (job : List ℕ) (floor : ℕ) → IsName job → floor ≤ 4294967295 → floor_in (floor_row job (pos floor)) ≡ Some (record { job = job; floor = floor })
unfolding floor_in
floor_reads job floor is low = rw (name_again job is, floor_again floor low) refl

-- the floor set, and the replies below it dropped
raised : (job : List ℕ) (floor : ℕ) → IsName job → floor ≤ 4294967295 → (t : Tables) (rows : Rows) → AreRead t rows
    → AreLike (tables.without_below job (pos floor) (tables.with_floor job (pos floor) t))
    (record rows { replies = filter (λ row. not (is_reply_below job floor row)) rows.replies; floors = put_floor job floor rows.floors })
raised job floor is low t rows read = exactly _ _ (record {
  sets = read.sets;
  replies = each_filter reply_in (λ r. not (is_below job (pos floor) r)) (λ x. not (is_reply_below job floor x)) (λ r x e. ap not (below_alike job floor r x e)) t.replies rows.replies read.replies;
  decks = read.decks;
  statuses = read.statuses;
  floors = each_push floor_in (without (is_of job) t.floors) (filter (λ row. not (is_floor_of job row)) rows.floors) (floor_row job (pos floor)) (record { job = job; floor = floor })
      (each_filter floor_in (λ r. not (is_of job r)) (λ x. not (is_floor_of job x)) (λ r x e. ap not (floor_alike job r x e)) t.floors rows.floors read.floors) (floor_reads job floor is low);
})

pub raises_floor : (job : List ℕ) (floor : ℕ) (first second : List ℕ) (n : ℤ) → first ≡ job → second ≡ job → n ≡ pos floor → IsName job → floor ≤ 4294967295 → (t : Tables) (rows : Rows) → AreRead t rows
    → AreLike (tables.without_below second n (tables.with_floor first n t))
    (record rows { replies = filter (λ row. not (is_reply_below job floor row)) rows.replies; floors = put_floor job floor rows.floors })
raises_floor job floor first second n p q r is low t rows read =
    let after = record rows { replies = filter (λ row. not (is_reply_below job floor row)) rows.replies; floors = put_floor job floor rows.floors } in
    subst (λ m. AreLike (tables.without_below second m (tables.with_floor first m t)) after) (sym r)
    (subst (λ j. AreLike (tables.without_below j (pos floor) (tables.with_floor first (pos floor) t)) after) (sym q)
    (subst (λ j. AreLike (tables.without_below job (pos floor) (tables.with_floor j (pos floor) t)) after) (sym p) (raised job floor is low t rows read)))

reply_reads : (change : Change) (request reply : List ℕ) → IsName change.request.job → IsRequestNumber change.request.number
    → request ≡ request_form.write change.request → IsReadable request_form change.request → reply ≡ reply_form.write change.reply → IsReadable reply_form change.reply
    → reply_in (reply_row change.request.job (pos change.request.number) (pos change.place) request reply) ≡ Some (row_of change)
unfolding reply_in
reply_reads change request reply name number asked asked-again answered answered-again =
    rw (name_again change.request.job name, number_again change.request.number number, whole-again request_form request change.request asked-again asked, whole-again reply_form reply change.reply answered-again answered) refl

added : (change : Change) (request reply : List ℕ) → IsName change.request.job → IsRequestNumber change.request.number
    → request ≡ request_form.write change.request → IsReadable request_form change.request → reply ≡ reply_form.write change.reply → IsReadable reply_form change.reply
    → (t : Tables) (rows : Rows) → AreRead t rows
    → AreLike (tables.with_reply change.request.job (pos change.request.number) (pos change.place) request reply t) (record rows { replies = rows.replies ++ row_of change ∷ [] })
added change request reply name number asked asked-again answered answered-again t rows read = exactly _ _ (record {
  sets = read.sets;
  replies = each_push reply_in t.replies rows.replies (reply_row change.request.job (pos change.request.number) (pos change.place) request reply) (row_of change) read.replies
      (reply_reads change request reply name number asked asked-again answered answered-again);
  decks = read.decks;
  statuses = read.statuses;
  floors = read.floors;
})

pub adds_reply : (change : Change) (job : List ℕ) (number place : ℤ) (request reply : List ℕ) → job ≡ change.request.job → number ≡ pos change.request.number → place ≡ pos change.place
    → IsName change.request.job → IsRequestNumber change.request.number
    → request ≡ request_form.write change.request → IsReadable request_form change.request → reply ≡ reply_form.write change.reply → IsReadable reply_form change.reply
    → (t : Tables) (rows : Rows) → AreRead t rows
    → AreLike (tables.with_reply job number place request reply t) (record rows { replies = rows.replies ++ row_of change ∷ [] })
adds_reply change job number place request reply p q r name valid asked asked-again answered answered-again t rows read =
    let after = record rows { replies = rows.replies ++ row_of change ∷ [] } in
    subst (λ j. AreLike (tables.with_reply j number place request reply t) after) (sym p)
    (subst (λ n. AreLike (tables.with_reply change.request.job n place request reply t) after) (sym q)
    (subst (λ n. AreLike (tables.with_reply change.request.job (pos change.request.number) n request reply t) after) (sym r)
    (added change request reply name valid asked asked-again answered answered-again t rows read)))

deck_added : (count : ℕ) (bytes : List ℕ) (t : Tables) (rows : Rows) → is_taken t.decks (deck_row (pos count) bytes) ≡ false → AreRead t rows
    → AreLike (tables.with_deck (pos count) bytes t) (record rows { decks = rows.decks ++ record { count = count; bytes = bytes } ∷ [] })
deck_added count bytes t rows free read =
    let put = deck_put count bytes t.decks rows.decks read.decks free in
    record {
      found = record rows { decks = put.found };
      read = record { sets = read.sets; replies = read.replies; decks = put.read; statuses = read.statuses; floors = read.floors };
      alike = record { sets = refl; replies = refl; decks = put.alike; statuses = λ target. refl; floors = refl };
    }

pub adds_deck : (count : ℕ) (n : ℤ) (bytes : List ℕ) → n ≡ pos count → (t : Tables) (rows : Rows) → is_taken t.decks (deck_row n bytes) ≡ false → AreRead t rows
    → AreLike (tables.with_deck n bytes t) (record rows { decks = rows.decks ++ record { count = count; bytes = bytes } ∷ [] })
adds_deck count n bytes same t rows free read =
    subst (λ m. AreLike (tables.with_deck m bytes t) (record rows { decks = rows.decks ++ record { count = count; bytes = bytes } ∷ [] })) (sym same)
    (deck_added count bytes t rows (subst (λ m. is_taken t.decks (deck_row m bytes) ≡ false) same free) read)

-- all statuses replaced
pub replaces_statuses : (new : List StatusRow) → AreReadable new → (t : Tables) (rows : Rows) → AreRead t rows
    → AreLike (with_statuses new (tables.without_statuses t)) (record rows { statuses = new })
replaces_statuses new again t rows read = exactly _ _ (record { sets = read.sets; replies = read.replies; decks = read.decks; statuses = statuses_read new again; floors = read.floors })

-- no status is the target's: dropping changes nothing
none_set_at : (target : Target) (status : Status) (t : Tables) (rows : Rows) → HasFound (is_status (pos (target_rank target)) (target_name target)) t.statuses 0 → AreRead t rows
    → AreLike (tables.without_status (pos (target_rank target)) (target_name target) t) (record rows { statuses = map (row_with target status) rows.statuses })
none_set_at target status t rows found read =
    let test = is_status (pos (target_rank target)) (target_name target) in
    let none : filter (is_status_of target) rows.statuses ≡ [] =
    none_read (filter test t.statuses) (filter (is_status_of target) rows.statuses) (found.none refl) (each_filter status_in test (is_status_of target) (status_alike target) t.statuses rows.statuses read.statuses) in
    record {
      found = record rows { statuses = filter (λ row. not (is_status_of target row)) rows.statuses };
      read = record {
        sets = read.sets;
        replies = read.replies;
        decks = read.decks;
        statuses = each_filter status_in (λ r. not (test r)) (λ x. not (is_status_of target x)) (λ r x e. ap not (status_alike target r x e)) t.statuses rows.statuses read.statuses;
        floors = read.floors;
      };
      alike = record {
        sets = refl;
        replies = refl;
        decks = λ count. refl;
        statuses = λ key. ap (filter (is_status_of key)) (none_dropped rows.statuses none ∙ sym (none_set target status rows.statuses none));
        floors = refl;
      };
    }
  where
    none_read : (raw : List _) (xs : List StatusRow) → raw ≡ [] → each_in status_in raw ≡ Some xs → xs ≡ []
    none_read raw xs gone all = sym (let e : each_in status_in [] ≡ Some xs = ap (each_in status_in) (sym gone) ∙ all in Rattle.sms_sqlite.proofs.ReadLemmas.some_is [] xs e)

    none_dropped : (xs : List StatusRow) → filter (is_status_of target) xs ≡ [] → filter (λ row. not (is_status_of target row)) xs ≡ xs
    none_dropped [] none = refl
    none_dropped (x ∷ xs) none = by (is_status_of target x) refl (λ less. none_dropped xs less)
      where
        by : (b : Bool) → is_status_of target x ≡ b → (filter (is_status_of target) xs ≡ [] → filter (λ row. not (is_status_of target row)) xs ≡ xs) → filter (λ row. not (is_status_of target row)) (x ∷ xs) ≡ x ∷ xs
        by true is rest = absurd (let e : x ∷ filter (is_status_of target) xs ≡ [] = sym (ap (λ b. cond b (x ∷ filter (is_status_of target) xs) (filter (is_status_of target) xs)) is) ∙ none in cc)
        by false is rest =
            let less = sym (ap (λ b. cond b (x ∷ filter (is_status_of target) xs) (filter (is_status_of target) xs)) is) ∙ none in
            rw is (ap (λ (l : List StatusRow). x ∷ l) (rest less))

-- one status is the target's: it is dropped, and the new one added
one_set_at : (target : Target) (status : Status) (t : Tables) (rows : Rows) → HasFound (is_status (pos (target_rank target)) (target_name target)) t.statuses 1
    → target_of (target_rank target) (target_name target) ≡ Some target → AreRead t rows
    → AreLike (tables.with_status (pos (target_rank target)) (target_name target) (pos (status_column status)) (tables.without_status (pos (target_rank target)) (target_name target) t))
    (record rows { statuses = map (row_with target status) rows.statuses })
one_set_at target status t rows found again read =
    let test = is_status (pos (target_rank target)) (target_name target) in
    let new : StatusRow = record { target = target; status = status } in
    let one = found.one refl in
    let p = joins (status_in one.0) (Some []) (filter (is_status_of target) rows.statuses)
    (sym (ap (each_in status_in) one.1) ∙ each_filter status_in test (is_status_of target) (status_alike target) t.statuses rows.statuses read.statuses) in
    let single : filter (is_status_of target) rows.statuses ≡ p.first ∷ [] = p.is ∙ ap (λ (l : List StatusRow). p.first ∷ l) (sym (Rattle.sms_sqlite.proofs.ReadLemmas.some_is [] p.others p.there)) in
    record {
      found = record rows { statuses = filter (λ row. not (is_status_of target row)) rows.statuses ++ new ∷ [] };
      read = record {
        sets = read.sets;
        replies = read.replies;
        decks = read.decks;
        statuses = each_push status_in (without test t.statuses) (filter (λ row. not (is_status_of target row)) rows.statuses) _ new
            (each_filter status_in (λ r. not (test r)) (λ x. not (is_status_of target x)) (λ r x e. ap not (status_alike target r x e)) t.statuses rows.statuses read.statuses) (status_reads new again);
        floors = read.floors;
      };
      alike = record {
        sets = refl;
        replies = refl;
        decks = λ count. refl;
        statuses = one_set target status rows.statuses p.first single;
        floors = refl;
      };
    }

pub sets_none : (target : Target) (status : Status) (kind : ℤ) (name : List ℕ) (count : ℕ) → kind ≡ pos (target_rank target) → name ≡ target_name target → count ≡ 0 → (t : Tables) (rows : Rows)
    → HasFound (is_status kind name) t.statuses count → AreRead t rows
    → AreLike (tables.without_status kind name t) (record rows { statuses = map (row_with target status) rows.statuses })
sets_none target status kind name count p q r t rows found read =
    let after = record rows { statuses = map (row_with target status) rows.statuses } in
    subst (λ k. AreLike (tables.without_status k name t) after) (sym p) (subst (λ n. AreLike (tables.without_status (pos (target_rank target)) n t) after) (sym q)
    (none_set_at target status t rows
    (subst (λ k. HasFound (is_status k (target_name target)) t.statuses 0) p (subst (λ n. HasFound (is_status kind n) t.statuses 0) q (subst (HasFound (is_status kind name) t.statuses) r found))) read))

pub sets_one : (target : Target) (status : Status) (kind : ℤ) (name : List ℕ) (count : ℕ) → kind ≡ pos (target_rank target) → name ≡ target_name target → count ≡ 1 → (t : Tables) (rows : Rows)
    → HasFound (is_status kind name) t.statuses count → target_of (target_rank target) (target_name target) ≡ Some target → AreRead t rows
    → AreLike (tables.with_status (pos (target_rank target)) (target_name target) (pos (status_column status)) (tables.without_status kind name t))
    (record rows { statuses = map (row_with target status) rows.statuses })
sets_one target status kind name count p q r t rows found again read =
    let after = record rows { statuses = map (row_with target status) rows.statuses } in
    let new = tables.with_status (pos (target_rank target)) (target_name target) (pos (status_column status)) in
    subst (λ k. AreLike (new (tables.without_status k name t)) after) (sym p) (subst (λ n. AreLike (new (tables.without_status (pos (target_rank target)) n t)) after) (sym q)
    (one_set_at target status t rows
    (subst (λ k. HasFound (is_status k (target_name target)) t.statuses 1) p (subst (λ n. HasFound (is_status kind n) t.statuses 1) q (subst (HasFound (is_status kind name) t.statuses) r found))) again read))
