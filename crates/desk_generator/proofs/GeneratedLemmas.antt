-- The last of the generated items.
use Rattle.std.proofs.Common.{◌≡◌, ◌+◌, ℕ, zero, suc, List, [], ◌∷◌, ◌++◌, length, get_or, refl, sym, ap, ◌∙◌, arith}
use Rattle.std.proofs.Common.{length-append}
use Rattle.std.proofs.Math.Seq.{get_or-append_seam}
use Rattle.sms_construct.specs.declared.request.Request.{Request}
use Rattle.sms_script.specs.declared.item.Item.{Item}
use Rattle.desk_generator.specs.Generated.{drawn_at, first_request, item_at, items_up_to, next_number, number_at}
use Rattle.desk_generator.specs.Generated.{request_at, request_behind}

pub length-up_to : (seed i : ℕ) → length (items_up_to seed i) ≡ i + 1
length-up_to seed zero = refl
length-up_to seed (suc i) = omega (arith, length-append (items_up_to seed i) (item_at seed (suc i) ∷ []), length-up_to seed i)

last-up_to : (seed i : ℕ) (d : Item) → get_or (items_up_to seed i) i d ≡ item_at seed i
last-up_to seed zero d = refl
last-up_to seed (suc i) d =
    let at : suc i ≡ length (items_up_to seed i) = omega (arith, length-up_to seed i) in
    ap (λ (n : ℕ). get_or (items_up_to seed (suc i)) n d) at ∙ get_or-append_seam (items_up_to seed i) (item_at seed (suc i)) [] d

one_more : (seed i : ℕ) → items_up_to seed (i + 1) ≡ items_up_to seed i ++ record { line = i + 2; request = request_behind (request_at seed i) (i + 1) (drawn_at seed (i + 1)) } ∷ []
one_more seed i =
    let next : i + 1 ≡ suc i = omega arith in
    let line : suc i + 1 ≡ i + 2 = omega arith in
    ap (λ (n : ℕ). items_up_to seed n) next
    ∙ ap (λ (n : ℕ). items_up_to seed i ++ record { line = n; request = request_at seed (suc i) } ∷ []) line
    ∙ ap (λ (n : ℕ). items_up_to seed i ++ record { line = i + 2; request = request_behind (request_at seed i) n (drawn_at seed n) } ∷ []) (sym next)

-- the item behind the last one that was generated
pub behind : (seed place drawn : ℕ) (items : List Item) (last : Item) (request : Request) (line : ℕ) → last ≡ get_or items place last → request ≡ request_behind last.request (place + 1) drawn
    → line ≡ place + 2 → drawn ≡ drawn_at seed (place + 1) → items ≡ items_up_to seed place → items ++ record { line = line; request = request } ∷ [] ≡ items_up_to seed (place + 1)
behind seed place drawn items last request line read asked at drew are =
    let found : last ≡ item_at seed place = read ∙ ap (λ (xs : List Item). get_or xs place last) are ∙ last-up_to seed place last in
    let same : request ≡ request_behind (request_at seed place) (place + 1) (drawn_at seed (place + 1)) =
    asked ∙ ap (λ (i : Item). request_behind i.request (place + 1) drawn) found ∙ ap (λ (d : ℕ). request_behind (request_at seed place) (place + 1) d) drew in
    ap (λ (xs : List Item). xs ++ record { line = line; request = request } ∷ []) are
    ∙ ap (λ (r : Request). items_up_to seed place ++ record { line = line; request = r } ∷ []) same
    ∙ ap (λ (n : ℕ). items_up_to seed place ++ record { line = n; request = request_behind (request_at seed place) (place + 1) (drawn_at seed (place + 1)) } ∷ []) at
    ∙ sym (one_more seed place)

pub number_more : (seed place : ℕ) → number_at seed (place + 1) ≡ next_number (number_at seed place)
number_more seed place = let next : place + 1 ≡ suc place = omega arith in ap (number_at seed) next

pub first_item : (seed : ℕ) (none : List Item) (request : Request) → none ≡ [] → request ≡ first_request → none ++ record { line = length none + 1; request = request } ∷ [] ≡ items_up_to seed 0
first_item seed none request empty first =
    ap (λ (xs : List Item). xs ++ record { line = length xs + 1; request = request } ∷ []) empty ∙ ap (λ (r : Request). record { line = 1; request = r } ∷ []) first
