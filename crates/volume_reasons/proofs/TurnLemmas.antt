-- The earliest turn of volumes, and which of them may be chosen.
use Rattle.std.proofs.Common.{◌≡◌, ◌<◌, ℕ, zero, suc, Bool, true, false, List, [], ◌∷◌, refl, sym, ap, ap₂, ◌∙◌, arith}
use Rattle.std.specs.Prelude.{◌==◌, ◌&&◌, ◌||◌, not, nat_eq, nat_lt, Some, slice_get}
use Rattle.std.specs.List.{list_all, list_any}
use Rattle.std.proofs.lemmas.Bool.Decides.{nat_tests}
use Rattle.volume_lists.specs.Choice.{AllRejected, MayChoose, comes_before, is_earlier, is_rejected, rank_of}
use Rattle.volume_lists.specs.Listing.{listing_of}
use Rattle.volume_lists.specs.declared.lists.Listing.{Listing}
use Rattle.volume_lists.specs.declared.lists.Listing.TheVariants.{Primary, Secondary, Tertiary, Rejected}
use Rattle.volume_lists.specs.declared.view.VolView.{VolView}
use Rattle.volume_lists.specs.declared.view.Want.{Want}
use Rattle.volume_reasons.specs.Inner.Turns.{has_turn, turn_of}
use Rattle.volume_reasons.specs.Reasons.{may_be_chosen, none_is_left}
use Rattle.volume_reasons.specs.declared.turn.Turn.{Turn}

-- Lists.

any-later : (b c : Bool) → c ≡ true → (b || c) ≡ true
any-later true c is = refl
any-later false c is = is

all-off-later : (b c : Bool) → c ≡ false → (b && c) ≡ false
all-off-later true c off = off
all-off-later false c off = refl

both-parts : (b c : Bool) → (b && c) ≡ true → (b ≡ true) × (c ≡ true)
both-parts true c is = (refl, is)
both-parts false c is = absurd cc

none-of : (b c : Bool) → (b || c) ≡ false → (b ≡ false) × (c ≡ false)
none-of true c none = absurd cc
none-of false c none = (refl, none)

-- what passes at a place
pub any-there : {X : Type 0} (p : X → Bool) (xs : List X) (k : ℕ) (x : X) → slice_get xs k ≡ Some x → p x ≡ true → list_any p xs ≡ true
any-there p [] k x there is = absurd cc
any-there p (y ∷ xs) zero x there is =
    let same : y ≡ x = cc in
    let on : p y ≡ true = ap p same ∙ is in rw on refl
any-there p (y ∷ xs) (suc k) x there is = any-later (p y) (list_any p xs) (any-there p xs k x there is)

-- what doesn't pass at a place
pub all-off : {X : Type 0} (p : X → Bool) (xs : List X) (k : ℕ) (x : X) → slice_get xs k ≡ Some x → p x ≡ false → list_all p xs ≡ false
all-off p [] k x there off = absurd cc
all-off p (y ∷ xs) zero x there off =
    let same : y ≡ x = cc in
    let no : p y ≡ false = ap p same ∙ off in rw no refl
all-off p (y ∷ xs) (suc k) x there off = all-off-later (p y) (list_all p xs) (all-off p xs k x there off)

any-weaker : {X : Type 0} (p q : X → Bool) (xs : List X) → ((y : X) → p y ≡ false → q y ≡ false) → list_any p xs ≡ false → list_any q xs ≡ false
any-weaker p q [] step none = refl
any-weaker p q (x ∷ xs) step none =
    let both = none-of (p x) (list_any p xs) none in
    let here : q x ≡ false = step x both.0 in
    let rest : list_any q xs ≡ false = any-weaker p q xs step both.1 in rw (here, rest) refl

-- Ranks.

listed-rank : (listing : Listing) → nat_lt (rank_of listing) 4 ≡ not (is_rejected listing)
listed-rank Primary = refl
listed-rank Secondary = refl
listed-rank Tertiary = refl
listed-rank (Rejected why) = refl

last-rank : (listing : Listing) → (rank_of listing == 4) ≡ is_rejected listing
last-rank Primary = refl
last-rank Secondary = refl
last-rank Tertiary = refl
last-rank (Rejected why) = refl

-- what doesn't come before a turn that doesn't come before another doesn't come before that
before-through : (a b x y r t : ℕ) → comes_before a b x y ≡ false → comes_before x y r t ≡ false → comes_before a b r t ≡ false
before-through a b x y r t one two = grind (arith, nat_tests, one, two)

-- A volume that may be chosen.

earlier-any : (views : List VolView) (want : Want) (position : ℕ) (lead view : VolView) (b : Bool) → slice_get views position ≡ Some lead → list_any (λ other. is_earlier want other lead) views ≡ false
    → is_earlier want lead view ≡ b → list_any (λ other. is_earlier want other view) views ≡ b
earlier-any views want position lead view true there first is = any-there (λ (other : VolView). is_earlier want other view) views position lead there is
earlier-any views want position lead view false there first is =
    any-weaker (λ (other : VolView). is_earlier want other lead) (λ (other : VolView). is_earlier want other view) views
    (λ other off. before-through (rank_of (listing_of other want)) other.tier (rank_of (listing_of lead want)) lead.tier (rank_of (listing_of view want)) view.tier off is) first

turn-may : (views : List VolView) (want : Want) (position : ℕ) (view : VolView) (may : MayChoose views want position) → has_turn (turn_of want may.view) want view ≡ may_be_chosen views want view
turn-may views want position view may =
    ap₂ (λ (a b : Bool). a && not b) (listed-rank (listing_of view want)) (sym (earlier-any views want position may.view view (is_earlier want may.view view) may.there may.first refl))

pub chosen_may : (views : List VolView) (want : Want) (position : ℕ) (turn : Turn) → MayChoose views want position → ((view : VolView) → slice_get views position ≡ Some view → turn ≡ turn_of want view)
    → (view : VolView) → has_turn turn want view ≡ may_be_chosen views want view
chosen_may views want position turn may is = λ view. ap (λ (t : Turn). has_turn t want view) (is may.view may.there) ∙ turn-may views want position view may

pub chosen_left : (views : List VolView) (want : Want) (position : ℕ) (turn : Turn) → MayChoose views want position → ((view : VolView) → slice_get views position ≡ Some view → turn ≡ turn_of want view)
    → (turn.rank == 4) ≡ none_is_left views want
chosen_left views want position turn may is =
    ap (λ (t : Turn). t.rank == 4) (is may.view may.there)
    ∙ (last-rank (listing_of may.view want) ∙ (may.listed ∙ sym (all-off (λ (view : VolView). is_rejected (listing_of view want)) views position may.view may.there may.listed)))

-- All are rejected.

rejected-above : (listing : Listing) (t rank tier : ℕ) → rank < 4 → is_rejected listing ≡ true → comes_before (rank_of listing) t rank tier ≡ false
rejected-above Primary t rank tier less is = absurd cc
rejected-above Secondary t rank tier less is = absurd cc
rejected-above Tertiary t rank tier less is = absurd cc
rejected-above (Rejected why) t rank tier less is =
    let low : nat_lt 4 rank ≡ false = grind (arith, nat_tests) in
    let same : nat_eq 4 rank ≡ false = grind (arith, nat_tests) in
    rw (low, same) refl

none-before : (views : List VolView) (want : Want) (rank tier : ℕ) → rank < 4 → AllRejected views want → list_any (λ other. comes_before (rank_of (listing_of other want)) other.tier rank tier) views ≡ false
none-before [] want rank tier less all = refl
none-before (view ∷ views) want rank tier less all =
    let both = both-parts (is_rejected (listing_of view want)) (list_all (λ other. is_rejected (listing_of other want)) views) all in
    let here : comes_before (rank_of (listing_of view want)) view.tier rank tier ≡ false = rejected-above (listing_of view want) view.tier rank tier less both.0 in
    let rest : list_any (λ other. comes_before (rank_of (listing_of other want)) other.tier rank tier) views ≡ false = none-before views want rank tier less both.1 in
    rw (here, rest) refl

last-may : (views : List VolView) (want : Want) (tier : ℕ) (listing : Listing) → AllRejected views want
    → (nat_lt (rank_of listing) 4 && not (comes_before 4 0 (rank_of listing) tier))
    ≡ (not (is_rejected listing) && not (list_any (λ other. comes_before (rank_of (listing_of other want)) other.tier (rank_of listing) tier) views))
last-may views want tier Primary all =
    let none = none-before views want 1 tier (omega arith) all in rw none refl
last-may views want tier Secondary all =
    let none = none-before views want 2 tier (omega arith) all in rw none refl
last-may views want tier Tertiary all =
    let none = none-before views want 3 tier (omega arith) all in rw none refl
last-may views want tier (Rejected why) all = refl

pub rejected_may : (views : List VolView) (want : Want) (turn : Turn) → AllRejected views want → turn ≡ record { rank = 4; tier = 0 } → (view : VolView) → has_turn turn want view ≡ may_be_chosen views want view
rejected_may views want turn all is = λ view. ap (λ (t : Turn). has_turn t want view) is ∙ last-may views want view.tier (listing_of view want) all

pub rejected_left : (views : List VolView) (want : Want) (turn : Turn) → AllRejected views want → turn ≡ record { rank = 4; tier = 0 } → (turn.rank == 4) ≡ none_is_left views want
rejected_left views want turn all is = ap (λ (t : Turn). t.rank == 4) is ∙ sym all
