-- Decks that are counted in order.
use Rattle.std.proofs.Common.{◌≡◌, ◌<◌, ◌+◌, ◌-◌, ℕ, zero, suc, List, [], ◌∷◌, Some, length, get_or, slice_get, take}
use Rattle.std.proofs.Common.{refl, sym, ap, subst, arith}
use Rattle.sms_construct.specs.Configuration.{Configuration}
use Rattle.sms_construct.specs.declared.fault.Fault.{Fault}
use Rattle.deck_meaning.specs.Reading.{Configures, HasFirstFault}
use Rattle.sms_keeper.specs.declared.deck_row.DeckRow.{DeckRow}
use Rattle.desk_law.specs.Decked.{AreNumbered, IsLastActive}
use Rattle.sms_open.specs.Tests.{HasLastFault}

-- the count of the deck at a place
pub numbered-at : (k : ℕ) (decks : List DeckRow) (i : ℕ) (deck : DeckRow) → i < length decks → deck ≡ get_or decks i deck → AreNumbered k decks → deck.count ≡ k + i + 1
numbered-at k [] i deck less is all = absurd (omega (arith, less))
numbered-at k (d ∷ decks) zero deck less is all = let e : deck.count ≡ d.count = ap (λ (x : DeckRow). x.count) is in omega (arith, e, all.0)
numbered-at k (d ∷ decks) (suc i) deck less is all = let rest = numbered-at (k + 1) decks i deck (omega (arith, less)) is all.1 in omega (arith, rest)

-- one deck more
pub numbered-more : (k : ℕ) (decks : List DeckRow) (i : ℕ) (deck : DeckRow) → i < length decks → deck ≡ get_or decks i deck → AreNumbered k (take i decks) → deck.count ≡ k + i + 1 → AreNumbered k (take (suc i) decks)
numbered-more k [] i deck less is all count = absurd (omega (arith, less))
numbered-more k (d ∷ decks) zero deck less is all count = (let e : d.count ≡ deck.count = ap (λ (x : DeckRow). x.count) (sym is) in omega (arith, e, count), tt)
numbered-more k (d ∷ decks) (suc i) deck less is all count = (all.0, numbered-more (k + 1) decks i deck (omega (arith, less)) is all.1 (omega (arith, count)))

-- The last deck.

last-active-at : (decks : List DeckRow) (i : ℕ) (deck : DeckRow) (config : Configuration) → suc i ≡ length decks → Some deck ≡ slice_get decks i → Configures deck.bytes config → IsLastActive decks (Some config)
last-active-at [] i deck config last is configures = absurd (omega (arith, last))
last-active-at (d ∷ []) zero deck config last is configures =
    let same : deck ≡ d = cc in
    record { config = config; configures = subst (λ (x : DeckRow). Configures x.bytes config) same configures; active_is = refl }
last-active-at (d ∷ []) (suc i) deck config last is configures = absurd (omega (arith, last))
last-active-at (d ∷ e ∷ decks) zero deck config last is configures = absurd (omega (arith, last))
last-active-at (d ∷ e ∷ decks) (suc i) deck config last is configures = last-active-at (e ∷ decks) i deck config (omega (arith, last)) is configures

last-fault-at : (decks : List DeckRow) (i : ℕ) (deck : DeckRow) (fault : Fault) → suc i ≡ length decks → Some deck ≡ slice_get decks i → HasFirstFault deck.bytes fault → HasLastFault decks
last-fault-at [] i deck fault last is has = absurd (omega (arith, last))
last-fault-at (d ∷ []) zero deck fault last is has = let same : deck ≡ d = cc in (fault, subst (λ (x : DeckRow). HasFirstFault x.bytes fault) same has)
last-fault-at (d ∷ []) (suc i) deck fault last is has = absurd (omega (arith, last))
last-fault-at (d ∷ e ∷ decks) zero deck fault last is has = absurd (omega (arith, last))
last-fault-at (d ∷ e ∷ decks) (suc i) deck fault last is has = last-fault-at (e ∷ decks) i deck fault (omega (arith, last)) is has

some-decks : (decks : List DeckRow) (deck : DeckRow) → Some deck ≡ slice_get decks (length decks - 1) → suc (length decks - 1) ≡ length decks
some-decks [] deck is = absurd cc
some-decks (d ∷ decks) deck is = omega arith

pub last-active : (decks : List DeckRow) (deck : DeckRow) (config : Configuration) → Some deck ≡ slice_get decks (length decks - 1) → Configures deck.bytes config → IsLastActive decks (Some config)
last-active decks deck config is configures = last-active-at decks (length decks - 1) deck config (some-decks decks deck is) is configures

pub last-fault : (decks : List DeckRow) (deck : DeckRow) (fault : Fault) → Some deck ≡ slice_get decks (length decks - 1) → HasFirstFault deck.bytes fault → HasLastFault decks
last-fault decks deck fault is has = last-fault-at decks (length decks - 1) deck fault (some-decks decks deck is) is has
