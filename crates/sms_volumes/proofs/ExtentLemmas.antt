-- All running volumes when an extent goes, or a part of it stays.
use Rattle.std.proofs.Common.{◌≡◌, ◌<◌, ℕ, true, false, List, [], ◌∷◌, ◌++◌, length, get_or, refl, sym, ap, ◌∙◌, subst}
use Rattle.std.specs.Prelude.{None, bytes_eq, slice_get, slice_set}
use Rattle.std.specs.List.{AllByRecursion, AllZip}
use Rattle.sms_construct.specs.declared.extent.Extent.{Extent}
use Rattle.track_ledger.specs.declared.piece.Piece.{Piece}
use Rattle.track_ledger.specs.GapRule.{front_of}
use Rattle.track_ledger.specs.Ledger.{Holds, IsLedgerOf, LedgerView}
use Rattle.desk_law.specs.Extents.{piece_of, pieces_on}
use Rattle.desk_law.proofs.ByteLemmas.{bytes-self, bytes-turned, same-bytes}
use Rattle.desk_law.proofs.PlaceLemmas.{each-at}
use Rattle.sms_volumes.specs.Changing.{HasChanged, HoldsAll, IsPartOf}
use Rattle.sms_volumes.specs.Inner.Handing.{AreApart}
use Rattle.sms_volumes.specs.Viewing.{running_named}
use Rattle.sms_volumes.specs.declared.active_volume.ActiveVolume.{ActiveVolume}
use Rattle.sms_volumes.proofs.ChangeLemmas.{changed-none, zip-none, zip-replaced, zip-stays}
use Rattle.sms_volumes.proofs.NextLemmas.{volume-some}
use Rattle.sms_volumes.proofs.RunningLemmas.{there-is}

at-extent : (e : Extent) (v : ActiveVolume) → bytes_eq v.volume.volser e.volser ≡ true → pieces_on v.volume.volser (e ∷ []) ≡ piece_of e ∷ []
at-extent e v on =
    let turned : bytes_eq e.volser v.volume.volser ≡ true = subst (λ (n : List ℕ). bytes_eq e.volser n ≡ true) (sym (same-bytes v.volume.volser e.volser on)) (bytes-self e.volser) in
    rw turned refl

off-extent : (e : Extent) (v : ActiveVolume) → bytes_eq v.volume.volser e.volser ≡ false → pieces_on v.volume.volser (e ∷ []) ≡ []
off-extent e v off = rw (bytes-turned v.volume.volser e.volser off) refl

-- a volume of another serial
both-off : (es fs : List Extent) (x : ActiveVolume) → pieces_on x.volume.volser es ≡ [] → pieces_on x.volume.volser fs ≡ [] → HasChanged es fs x x
both-off es fs x one two = record {
  volume = refl;
  status = refl;
  group = refl;
  capacity = refl;
  ledger = λ rest is. subst (λ (l : List Piece). IsLedgerOf (l ++ rest) x.ledger) (one ∙ sym two) is;
}

freed-off : (e : Extent) (x : ActiveVolume) → bytes_eq x.volume.volser e.volser ≡ false → HasChanged (e ∷ []) [] x x
freed-off e x off = both-off (e ∷ []) [] x (off-extent e x off) refl

cut-off : (e part : Extent) (x : ActiveVolume) → IsPartOf part e → bytes_eq x.volume.volser e.volser ≡ false → HasChanged (e ∷ []) (part ∷ []) x x
cut-off e part x of off =
    both-off (e ∷ []) (part ∷ []) x (off-extent e x off) (off-extent part x (subst (λ (n : List ℕ). bytes_eq x.volume.volser n ≡ false) (sym of.volser) off))

freed-at : (e : Extent) (v : ActiveVolume) (after : LedgerView) → bytes_eq v.volume.volser e.volser ≡ true → after.capacity ≡ v.ledger.capacity
    → ((others : List Piece) → IsLedgerOf (piece_of e ∷ others) v.ledger → IsLedgerOf others after) → HasChanged (e ∷ []) [] v (record v { ledger = after })
freed-at e v after on capacity held = record {
  volume = refl;
  status = refl;
  group = refl;
  capacity = capacity;
  ledger = λ rest is. held rest (subst (λ (l : List Piece). IsLedgerOf (l ++ rest) v.ledger) (at-extent e v on) is);
}

cut-at : (e part : Extent) (v : ActiveVolume) (after : LedgerView) → IsPartOf part e → bytes_eq v.volume.volser e.volser ≡ true → after.capacity ≡ v.ledger.capacity
    → ((others : List Piece) → IsLedgerOf (piece_of e ∷ others) v.ledger → IsLedgerOf (front_of (piece_of e) part.length ∷ others) after) → HasChanged (e ∷ []) (part ∷ []) v (record v { ledger = after })
cut-at e part v after of on capacity held =
    let front : piece_of part ≡ front_of (piece_of e) part.length = ap (λ (n : ℕ). front_of (record { start = n; length = part.length }) part.length) of.start in
    let there : pieces_on v.volume.volser (part ∷ []) ≡ front_of (piece_of e) part.length ∷ [] =
    at-extent part v (subst (λ (n : List ℕ). bytes_eq v.volume.volser n ≡ true) (sym of.volser) on) ∙ ap (λ (p : Piece). p ∷ []) front in
    record {
      volume = refl;
      status = refl;
      group = refl;
      capacity = capacity;
      ledger = λ rest is.
          subst (λ (l : List Piece). IsLedgerOf (l ++ rest) after) (sym there) (held rest (subst (λ (l : List Piece). IsLedgerOf (l ++ rest) v.ledger) (at-extent e v on) is));
    }

-- the whole of it stays
same-part : (e part : Extent) → IsPartOf part e → part.length ≡ e.length → part ≡ e
same-part e part of length =
    ap (λ (n : List ℕ). record { volser = n; start = part.start; length = part.length }) of.volser
    ∙ (ap (λ (n : ℕ). record { volser = e.volser; start = n; length = part.length }) of.start ∙ ap (λ (n : ℕ). record { volser = e.volser; start = e.start; length = n }) length)

pub all-whole : (e part : Extent) (volumes : List ActiveVolume) → IsPartOf part e → part.length ≡ e.length → AllZip (HasChanged (e ∷ []) (part ∷ [])) volumes volumes
all-whole e part volumes of length =
    subst (λ (x : Extent). AllZip (HasChanged (e ∷ []) (x ∷ [])) volumes volumes) (sym (same-part e part of length)) (zip-stays (HasChanged (e ∷ []) (e ∷ [])) volumes (changed-none (e ∷ [])))

-- no volume has its serial
pub all-freed-none : (e : Extent) (volumes : List ActiveVolume) → running_named e.volser volumes ≡ None → AllZip (HasChanged (e ∷ []) []) volumes volumes
all-freed-none e volumes none = zip-none e.volser (HasChanged (e ∷ []) []) volumes none (freed-off e)

pub all-cut-none : (e part : Extent) (volumes : List ActiveVolume) → IsPartOf part e → running_named e.volser volumes ≡ None → AllZip (HasChanged (e ∷ []) (part ∷ [])) volumes volumes
all-cut-none e part volumes of none = zip-none e.volser (HasChanged (e ∷ []) (part ∷ [])) volumes none (λ x off. cut-off e part x of off)

-- the volume at the place has its serial
serial-at : (n : List ℕ) (volumes : List ActiveVolume) (place : ℕ) (x : ActiveVolume) → place < length volumes → x ≡ get_or volumes place x → running_named n volumes ≡ slice_get volumes place → bytes_eq x.volume.volser n ≡ true
serial-at n volumes place x lt read found =
    let there = volume-some n volumes x (found ∙ there-is volumes place x lt read) in there.same

pub all-freed : (e : Extent) (volumes : List ActiveVolume) (place : ℕ) (x : ActiveVolume) (after : LedgerView) → place < length volumes → x ≡ get_or volumes place x → running_named e.volser volumes ≡ slice_get volumes place
    → AreApart volumes → after.capacity ≡ x.ledger.capacity → ((others : List Piece) → IsLedgerOf (piece_of e ∷ others) x.ledger → IsLedgerOf others after)
    → AllZip (HasChanged (e ∷ []) []) volumes (slice_set volumes place (record x { ledger = after }))
all-freed e volumes place x after lt read found apart capacity held =
    let on = serial-at e.volser volumes place x lt read found in
    zip-replaced e.volser (HasChanged (e ∷ []) []) volumes place x (record x { ledger = after }) (there-is volumes place x lt read) on (apart e.volser) (freed-at e x after on capacity held) (freed-off e)

pub all-cut : (e part : Extent) (volumes : List ActiveVolume) (place : ℕ) (x : ActiveVolume) (after : LedgerView) → IsPartOf part e → place < length volumes → x ≡ get_or volumes place x
    → running_named e.volser volumes ≡ slice_get volumes place → AreApart volumes → after.capacity ≡ x.ledger.capacity
    → ((others : List Piece) → IsLedgerOf (piece_of e ∷ others) x.ledger → IsLedgerOf (front_of (piece_of e) part.length ∷ others) after)
    → AllZip (HasChanged (e ∷ []) (part ∷ [])) volumes (slice_set volumes place (record x { ledger = after }))
all-cut e part volumes place x after of lt read found apart capacity held =
    let on = serial-at e.volser volumes place x lt read found in
    zip-replaced e.volser (HasChanged (e ∷ []) (part ∷ [])) volumes place x (record x { ledger = after }) (there-is volumes place x lt read) on (apart e.volser) (cut-at e part x after of on capacity held)
    (λ y off. cut-off e part y of off)

-- its ledger holds the extent
pub holds-at : (e : Extent) (volumes : List ActiveVolume) (place : ℕ) (x : ActiveVolume) → place < length volumes → x ≡ get_or volumes place x → running_named e.volser volumes ≡ slice_get volumes place
    → AllByRecursion (HoldsAll (e ∷ [])) volumes → Holds x.ledger (piece_of e)
holds-at e volumes place x lt read found all =
    let holds = each-at (HoldsAll (e ∷ [])) volumes place x all (there-is volumes place x lt read) in
    record { others = holds.others; is = subst (λ (l : List Piece). IsLedgerOf (l ++ holds.others) x.ledger) (at-extent e x (serial-at e.volser volumes place x lt read found)) holds.is }
