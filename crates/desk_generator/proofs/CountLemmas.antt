-- How often each code was answered, with one answer more.
use Rattle.std.proofs.Common.{◌≡◌, ◌+◌, ◌<◌, ◌≤◌, ℕ, zero, suc, Bool, true, false, List, [], ◌∷◌, length, length-take}
use Rattle.std.proofs.Common.{get_or, set, take, take_all, refl, sym, ap, ◌∙◌, arith}
use Rattle.std.specs.Prelude.{bytes_eq, cond, map}
use Rattle.std.specs.List.{position_or_len}
use Rattle.std.proofs.lemmas.List.Sums.{count_by-le-length, count_by_more_no, count_by_more_yes}
use Rattle.sms_construct.specs.declared.entry.Answer.{Answer}
use Rattle.sms_construct.specs.declared.reply.Reply.{Reply}
use Rattle.sms_construct.specs.declared.reply.Reply.TheVariants as reply
use Rattle.sms_construct.specs.declared.why_no_extend.WhyNoExtend.TheVariants as why
use Rattle.desk_generator.specs.Summary.{all_codes, code_of, times_answered}

-- the place of a reply's code among all codes
abbrev place_of : Reply → ℕ
place_of r = position_or_len (bytes_eq (code_of r)) all_codes

map-same : (f g : List ℕ → ℕ) → ((code : List ℕ) → f code ≡ g code) → (cs : List (List ℕ)) → map f cs ≡ map g cs
map-same f g same [] = refl
map-same f g same (c ∷ cs) = rw (same c, map-same f g same cs) refl

-- the number at the place of a reply's code is that of its code, and all others stay
one_set : (r : Reply) (f : List ℕ → ℕ) → map (λ code. cond (bytes_eq (code_of r) code) (f code + 1) (f code)) all_codes ≡ set (map f all_codes) (place_of r) (get_or (map f all_codes) (place_of r) 0 + 1)
one_set (reply.Granted s t) f = refl
one_set (reply.NotManaged t) f = refl
one_set (reply.Extended e) f = refl
one_set (reply.Deleted n) f = refl
one_set (reply.Activated n) f = refl
one_set (reply.Varied t s) f = refl
one_set (reply.Shown v) f = refl
one_set (reply.Purged j n) f = refl
one_set reply.Noted f = refl
one_set (reply.Released n) f = refl
one_set (reply.Reused n) f = refl
one_set (reply.Below n) f = refl
one_set reply.NoConfig f = refl
one_set reply.NameInUse f = refl
one_set (reply.Exit k c t) f = refl
one_set (reply.UnknownClass k n t) f = refl
one_set (reply.NoQuantity t) f = refl
one_set (reply.NoGroup t) f = refl
one_set (reply.NoVolume t) f = refl
one_set reply.NotFound f = refl
one_set (reply.NoExtend why.Secondary) f = refl
one_set (reply.NoExtend why.Room) f = refl
one_set (reply.Deck x) f = refl
one_set (reply.VolumeInUse v) f = refl
one_set reply.UnknownName f = refl
one_set reply.JournalFull f = refl
one_set (reply.PastGrant n) f = refl
one_set reply.KeeperFault f = refl
one_set reply.Memory f = refl

-- the count of one code
count_more : (answers : List Answer) (i : ℕ) (d : Answer) → i < length answers → (code : List ℕ)
    → times_answered code (take (i + 1) answers) ≡ cond (bytes_eq (code_of (get_or answers i d).reply) code) (times_answered code (take i answers) + 1) (times_answered code (take i answers))
count_more answers i d inside code = by (bytes_eq (code_of (get_or answers i d).reply) code) refl
  where
    test : Answer → Bool
    test answer = bytes_eq (code_of answer.reply) code

    by : (is : Bool) → test (get_or answers i d) ≡ is
        → times_answered code (take (i + 1) answers) ≡ cond is (times_answered code (take i answers) + 1) (times_answered code (take i answers))
    by true is = count_by_more_yes test answers i d inside is
    by false is = count_by_more_no test answers i d inside is

-- the counts of all codes
pub counts_more : (answers : List Answer) (i : ℕ) (answer : Answer) (times : List ℕ) (place : ℕ) → i < length answers → answer ≡ get_or answers i answer
    → times ≡ map (λ code. times_answered code (take i answers)) all_codes → place ≡ place_of answer.reply
    → set times place (get_or times place 0 + 1) ≡ map (λ code. times_answered code (take (i + 1) answers)) all_codes
counts_more answers i answer times place inside read are at =
    ap (λ (ts : List ℕ). set ts place (get_or ts place 0 + 1)) are
    ∙ ap (λ (n : ℕ). set (counts i) n (get_or (counts i) n 0 + 1)) (at ∙ ap (λ (a : Answer). place_of a.reply) read)
    ∙ sym (map-same _ _ (count_more answers i answer inside) all_codes ∙ one_set (get_or answers i answer).reply (λ code. times_answered code (take i answers)))
  where
    counts : ℕ → List ℕ
    counts n = map (λ code. times_answered code (take n answers)) all_codes

-- each is at most the number of answers that were gone over
at_most : (f : List ℕ → ℕ) (n : ℕ) → ((code : List ℕ) → f code ≤ n) → (cs : List (List ℕ)) (place : ℕ) → get_or (map f cs) place 0 ≤ n
at_most f n few [] place = omega arith
at_most f n few (c ∷ cs) zero = few c
at_most f n few (c ∷ cs) (suc place) = at_most f n few cs place

pub count_fits : (answers : List Answer) (i place : ℕ) (times : List ℕ) → times ≡ map (λ code. times_answered code (take i answers)) all_codes → get_or times place 0 ≤ i
count_fits answers i place times are = rw are (at_most (λ code. times_answered code (take i answers)) i few all_codes place)
  where
    few : (code : List ℕ) → times_answered code (take i answers) ≤ i
    few code = omega (arith, count_by-le-length (λ answer. bytes_eq (code_of answer.reply) code) (take i answers), length-take i answers)

-- all answers were gone over
pub counts_whole : (answers : List Answer) (i : ℕ) (times : List ℕ) → length answers ≤ i → times ≡ map (λ code. times_answered code (take i answers)) all_codes
    → times ≡ map (λ code. times_answered code answers) all_codes
counts_whole answers i times all are = are ∙ ap (λ (xs : List Answer). map (λ code. times_answered code xs) all_codes) (take_all i answers all)
