-- Seats that go from a lock to workers, and back.
use Rattle.std.proofs.Common.{◌≡◌, ◌⊎◌, inl, inr, ⊎_elim, ℕ, zero, suc, ◌+◌, ◌<◌, List, [], ◌∷◌, ◌++◌, length, map, All}
use Rattle.std.proofs.Common.{Contains, slice_index_or, Some, None, Option, IfSome, length-append, refl, sym, ap, subst}
use Rattle.std.proofs.Common.{◌∙◌, arith}
use mathlib.Core.Logic.{dite}
use native.Mathlib.Decide.{ℕ_discrete}
use Rattle.std.proofs.lemmas.List.Elements.{All-pop, All-push, All-weaker, Contains-push, Contains-push_cases}
use Rattle.std.proofs.lemmas.List.Elements.{Contains-append_left}
use Rattle.atomic_table.specs.Seated.{TableId}
use Rattle.sms_construct.specs.declared.entry.Entry.{Entry}
use Rattle.sms_keeper.specs.declared.keeper.Keeper.{Ghosts}
use Rattle.turn_lock.specs.Views.{StartsWith, made_by, IsBy}
use Rattle.turn_lock.specs.Contract.{AreNumbered, IsOf, IsNew, Stands, number_of, numbers}
use Rattle.turn_lock.specs.declared.seat.Seat.{Seat}
use Rattle.turn_lock.specs.declared.signed.Signed.{Signed}
use Rattle.desk_law.specs.State.{Opening}
use Rattle.desk_law.specs.History.{IsLegal}
use Rattle.desk_signing.specs.declared.event.Event.{Event}
use Rattle.desk_signing.specs.Signing.{IsLegalList, entries_in, opening_in, signed}
use Rattle.desk_signing.proofs.SignLemmas.{signed_entries}
use Rattle.sms_desk.specs.declared.job_seat.JobSeat.{JobSeat}
use Rattle.sms_desk.specs.declared.outfit.Outfit.{Outfit}
use Rattle.sms_desk.specs.declared.signed_core.SignedCore.{SignedCore}
use Rattle.sms_desk.specs.Seats.{AreNumberedDown, HasNoAnswers, IsJobOf, IsNewJob, IsOutfit, IsSeated, StandsJob}
use Rattle.sms_desk.specs.Seats.{job_number, job_numbers, mine_of, number_at, seen_at}
use Rattle.sms_desk.proofs.HoldLemmas.{current-holding}

map_push : {A B : Type 0} (f : A → B) (xs : List A) (x : A) → map f (xs ++ x ∷ []) ≡ map f xs ++ f x ∷ []
map_push f [] x = refl
map_push f (y ∷ ys) x = ap (λ zs. f y ∷ zs) (map_push f ys x)

if_weaker : (P Q : ℕ → Type 0) (o : Option ℕ) → ((k : ℕ) → P k → Q k) → IfSome o P → IfSome o Q
if_weaker P Q None f h = tt
if_weaker P Q (Some k) f h = f k h

pub by_weaker : (ns ms : List ℕ) (list : List (Signed Event)) → ((k : ℕ) → Contains ns k → Contains ms k) → All (IsBy ns) list → All (IsBy ms) list
by_weaker ns ms list f h = All-weaker (IsBy ns) (IsBy ms) (λ e. if_weaker (Contains ns) (Contains ms) e.by f) list h

-- the elements before the last, and the last
at_left : {A : Type 0} (xs : List A) (x d : A) (i : ℕ) → i < length xs → slice_index_or (xs ++ x ∷ []) i d ≡ slice_index_or xs i d
at_left [] x d i lt = absurd (omega arith)
at_left (y ∷ ys) x d zero lt = refl
at_left (y ∷ ys) x d (suc i) lt = at_left ys x d i (omega arith)

at_end : {A : Type 0} (xs : List A) (x d : A) (i : ℕ) → i ≡ length xs → slice_index_or (xs ++ x ∷ []) i d ≡ x
at_end [] x d zero e = refl
at_end [] x d (suc i) e = absurd (omega arith)
at_end (y ∷ ys) x d zero e = absurd (omega arith)
at_end (y ∷ ys) x d (suc i) e = at_end ys x d i (omega arith)

pub none-left : {A : Type 0} (xs : List A) → length xs ≡ 0 → xs ≡ []
none-left [] none = refl
none-left (x ∷ xs) none = absurd (omega (arith, none))

-- the signed list of a new desk has begun, is legal, and the outfits are for it
pub list-begins : (o : Opening) (mark before : ℕ) (js : List Entry) (ns : List ℕ) (outfits : List Outfit) → IsLegal o js → All (IsOutfit o js) outfits
    → (0 < length (signed o mark before js ns)) × IsLegalList (signed o mark before js ns) × All (IsOutfit (opening_in (signed o mark before js ns)) (entries_in (signed o mark before js ns))) outfits
list-begins o mark before js ns outfits legal all =
    let entries = signed_entries o mark before js ns in
    (omega arith, rw entries legal, subst (λ h. All (IsOutfit o h) outfits) (sym entries) all)

-- one outfit more
pub outfits-push : (o : Opening) (h : List Entry) (xs ys : List Outfit) (x : Outfit) → ys ≡ xs ++ x ∷ [] → All (IsOutfit o h) xs → IsOutfit o h x → All (IsOutfit o h) ys
outfits-push o h xs ys x e all one = subst (All (IsOutfit o h)) (sym e) (All-push (IsOutfit o h) xs x all one)

module _ {P : Type 0} {keeper : Ghosts P} where
  -- a seat of the lock and an outfit become a seat of the desk
  new_job : (lock : TableId) (list : List (Signed Event)) (s : Seat (SignedCore P keeper) Event) (x : Outfit) (j : JobSeat P keeper) → j.seat ≡ Some s → j.held ≡ x.held → 0 < length list → IsLegalList list
      → IsNew lock list s → IsOutfit (opening_in list) (entries_in list) x → IsNewJob lock list j
  new_job lock list s x j is held some legal new outfit =
      let seen_is : seen_at j.seat ≡ list = ap seen_at is ∙ new.1 in
      record {
        job = record {
          seated = subst (IsSeated lock) (sym is) new.0;
          begun = rw seen_is some;
          legal = rw seen_is legal;
          holding = rw (seen_is, held) (current-holding (opening_in list) (entries_in list) x.held legal outfit);
        };
        seen_is = seen_is;
        mine_is = ap mine_of is ∙ new.2;
        current = rw held outfit;
      }

  pub new_moves : (lock : TableId) (list : List (Signed Event)) (xs ys : List (Seat (SignedCore P keeper) Event)) (s : Seat (SignedCore P keeper) Event) (os ps : List Outfit) (x : Outfit) (js ks : List (JobSeat P keeper)) (j : JobSeat P keeper)
      → xs ≡ ys ++ s ∷ [] → os ≡ ps ++ x ∷ [] → ks ≡ js ++ j ∷ [] → j.seat ≡ Some s → j.held ≡ x.held → 0 < length list → IsLegalList list
      → All (IsNew lock list) xs × All (IsOutfit (opening_in list) (entries_in list)) os × All (IsNewJob lock list) js → All (IsNew lock list) ys × All (IsOutfit (opening_in list) (entries_in list)) ps × All (IsNewJob lock list) ks
  new_moves lock list xs ys s os ps x js ks j e e2 e3 is held some legal h =
      let p = All-pop (IsNew lock list) xs ys (Some s) e h.0 in
      let q = All-pop (IsOutfit (opening_in list) (entries_in list)) os ps (Some x) e2 h.1 in
      let new : IsNewJob lock list j = new_job lock list s x j is held some legal p.1 q.1 in
      (p.0, q.0, subst (All (IsNewJob lock list)) (sym e3) (All-push (IsNewJob lock list) js j h.2 new))

  pub idle_moves : (js ks : List (JobSeat P keeper)) (j : JobSeat P keeper) → ks ≡ js ++ j ∷ [] → j.answers.items ≡ [] → All HasNoAnswers js → All HasNoAnswers ks
  idle_moves js ks j e none h = subst (All HasNoAnswers) (sym e) (All-push HasNoAnswers js j h none)

  pub number_moves : (count : ℕ) (xs ys : List (Seat (SignedCore P keeper) Event)) (s : Seat (SignedCore P keeper) Event) (js ks : List (JobSeat P keeper)) (j : JobSeat P keeper) → xs ≡ ys ++ s ∷ [] → ks ≡ js ++ j ∷ [] → j.seat ≡ Some s → length xs + length js ≡ count
      → AreNumbered xs × AreNumberedDown count js → AreNumbered ys × AreNumberedDown count ks
  number_moves count xs ys s js ks j e e2 is long h =
      let a : AreNumbered (ys ++ s ∷ []) = subst AreNumbered e h.0 in
      let more : length (ys ++ s ∷ []) ≡ length ys + 1 = length-append ys (s ∷ []) in
      let all : length xs ≡ length ys + 1 = ap length e ∙ more in
      let last : s.number ≡ length ys = sym (ap number_of (at_end ys s s (length ys) refl)) ∙ a (length ys) s (omega arith) in (
        (λ i d lt. sym (ap number_of (at_left ys s d i lt)) ∙ a i d (omega arith)),
        subst (AreNumberedDown count) (sym e2) (λ i d lt.
            let more2 : length (js ++ j ∷ []) ≡ length js + 1 = length-append js (j ∷ []) in
            dite (ℕ_discrete i (length js))
            (λ at. let n : job_number (slice_index_or (js ++ j ∷ []) i d) ≡ s.number = ap job_number (at_end js j d i at) ∙ ap number_at is in omega arith)
            (λ ne. let n : job_number (slice_index_or (js ++ j ∷ []) i d) ≡ job_number (slice_index_or js i d) = ap job_number (at_left js j d i (omega arith)) in let old = h.1 i d (omega arith) in omega arith)),
      )

  pub lock_moves : (lock : TableId) (xs ys : List (JobSeat P keeper)) (j : JobSeat P keeper) (rs ks : List (Seat (SignedCore P keeper) Event)) (s : Seat (SignedCore P keeper) Event)
      → xs ≡ ys ++ j ∷ [] → ks ≡ rs ++ s ∷ [] → j.seat ≡ Some s → All (IsJobOf lock) xs × All (IsOf lock) rs → All (IsJobOf lock) ys × All (IsOf lock) ks
  lock_moves lock xs ys j rs ks s e e2 is h =
      let p = All-pop (IsJobOf lock) xs ys (Some j) e h.0 in
      let of_lock : IsOf lock s = subst (IsSeated lock) is p.1.seated in
      (p.0, subst (All (IsOf lock)) (sym e2) (All-push (IsOf lock) rs s h.1 of_lock))

  pub stands_back : (list : List (Signed Event)) (xs ys : List (JobSeat P keeper)) (j : JobSeat P keeper) (rs ks : List (Seat (SignedCore P keeper) Event)) (s : Seat (SignedCore P keeper) Event)
      → xs ≡ ys ++ j ∷ [] → ks ≡ rs ++ s ∷ [] → j.seat ≡ Some s → All (StandsJob list) ys → All (Stands list) ks → All (StandsJob list) xs × All (Stands list) rs
  stands_back list xs ys j rs ks s e e2 is h h2 =
      let p = All-pop (Stands list) ks rs (Some s) e2 h2 in
      let new : StandsJob list j = subst (λ o. StartsWith list (seen_at o) × (made_by (number_at o) list ≡ mine_of o)) (sym is) p.1 in
      (subst (All (StandsJob list)) (sym e) (All-push (StandsJob list) ys j h new), p.0)

  pub number_back : (k : ℕ) (xs ys : List (JobSeat P keeper)) (j : JobSeat P keeper) (rs ks : List (Seat (SignedCore P keeper) Event)) (s : Seat (SignedCore P keeper) Event)
      → xs ≡ ys ++ j ∷ [] → ks ≡ rs ++ s ∷ [] → j.seat ≡ Some s → Contains (job_numbers ys) k ⊎ Contains (numbers ks) k → Contains (job_numbers xs) k ⊎ Contains (numbers rs) k
  number_back k xs ys j rs ks s e e2 is h =
      let whole : job_numbers xs ≡ job_numbers ys ++ job_number j ∷ [] = ap (map job_number) e ∙ map_push job_number ys j in
      let room : numbers ks ≡ numbers rs ++ number_of s ∷ [] = ap (map number_of) e2 ∙ map_push number_of rs s in
      let same : job_number j ≡ number_of s = ap number_at is in
      ⊎_elim (λ old. inl (subst (λ ns. Contains ns k) (sym whole) (Contains-append_left (job_numbers ys) (job_number j ∷ []) k old)))
      (λ there. ⊎_elim inr (λ here. inl (subst (λ ns. Contains ns k) (sym whole) (subst (Contains (job_numbers ys ++ job_number j ∷ [])) (same ∙ here) (Contains-push (job_numbers ys) (job_number j)))))
      (Contains-push_cases (numbers rs) (number_of s) k (subst (λ ns. Contains ns k) room there))) h
