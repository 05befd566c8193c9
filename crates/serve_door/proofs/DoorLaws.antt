-- Links that are given and come back.
use Rattle.std.proofs.Common.{◌≡◌, ◌<◌, ℕ, nat_lt, true, List, [], ◌∷◌, ◌++◌, length, refl, ap, sym, ◌∙◌, append_assoc}
use Rattle.std.proofs.Common.{append-nil}
use Rattle.std.specs.Prelude.{Option, None, Some, MatchOption, IfSome}
use Rattle.std.proofs.lemmas.Bool.{lt-ltb}
use Rattle.sms_base.specs.Door.{HandsBack}
use Rattle.serve_door.specs.Doors.{CameBack, WereGiven}

-- no link was given
pub WereGiven-nil : {C : Type 0} (told : Option (List C)) → WereGiven told told []
WereGiven-nil None = refl
WereGiven-nil (Some links) = (links, refl, refl)

-- one more link was given
pub WereGiven-more : {C : Type 0} (before mid after : Option (List C)) (links : List C) (link : C) → WereGiven before mid links
    → MatchOption mid (after ≡ None) (λ all. (rest : List C) × (all ≡ link ∷ rest) × (after ≡ Some rest))
    → WereGiven before after (links ++ link ∷ [])
WereGiven-more None None after links link none took = took
WereGiven-more {C} None (Some mid) after links link none took = let is : Some mid ≡ None = none in absurd cc
WereGiven-more {C} (Some before) None after links link given took = let is : None ≡ Some given.0 = given.2 in absurd cc
WereGiven-more (Some before) (Some mid) after links link given took =
    let is : Some mid ≡ Some given.0 = given.2 in
    let same : given.0 ≡ mid = cc in
    (took.0, given.1 ∙ ap (λ l. links ++ l) (same ∙ took.1) ∙ sym (append_assoc links (link ∷ []) took.0), took.2)

-- no link came back
pub CameBack-nil : {C : Type 0} (told : Option (List C)) → CameBack told told []
CameBack-nil None = refl
CameBack-nil (Some links) = ap (λ l. Some l) (sym (append-nil links))

-- one more link came back, and there was one to come
pub CameBack-more : {C : Type 0} (before mid after : Option (List C)) (given : ℕ) (links : List C) (link : C) → CameBack before mid links
    → HandsBack given mid after link → IfSome mid (λ back. length back < given) → CameBack before after (links ++ link ∷ [])
CameBack-more None None after given links link none hands few = hands
CameBack-more None (Some mid) after given links link none hands few = let is : Some mid ≡ None = none in absurd cc
CameBack-more (Some before) None after given links link came hands few = let is : None ≡ Some (before ++ links) = came in absurd cc
CameBack-more (Some before) (Some mid) after given links link came hands few =
    let is : Some mid ≡ Some (before ++ links) = came in
    let same : mid ≡ before ++ links = cc in
    let less : nat_lt (length mid) given ≡ true = lt-ltb (length mid) given few in
    let put : after ≡ Some (mid ++ link ∷ []) = rw less at hands in
    put ∙ ap (λ l. Some (l ++ link ∷ [])) same ∙ ap (λ l. Some l) (append_assoc before links (link ∷ []))

-- what holds of a list that is told
pub if_told : {C : Type 0} (P Q : List C → Type 0) (told : Option (List C)) → ((links : List C) → P links → Q links) → IfSome told P → IfSome told Q
if_told P Q None step holds = tt
if_told P Q (Some links) step holds = step links holds
