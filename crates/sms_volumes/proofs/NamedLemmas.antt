-- The data set of a name after a change.
use Rattle.std.proofs.Common.{◌≡◌, ℕ, Bool, true, false, List, [], ◌∷◌, ◌++◌, refl, sym, ap, ◌∙◌}
use Rattle.std.specs.Prelude.{None, Some, bytes_eq}
use Rattle.sms_construct.specs.declared.data_set.DataSet.{DataSet}
use Rattle.sms_keeper.specs.Tables.{put_set, without_set}
use Rattle.desk_law.specs.State.{set_named}
use Rattle.desk_law.proofs.ByteLemmas.{bytes-same, same-bytes}

named-without-at : (dsn other : List ℕ) (set : DataSet) (sets : List DataSet) (b c : Bool) → bytes_eq set.dsn dsn ≡ b → bytes_eq set.dsn other ≡ c → bytes_eq dsn other ≡ false
    → set_named other (without_set dsn sets) ≡ set_named other sets → set_named other (without_set dsn (set ∷ sets)) ≡ set_named other (set ∷ sets)
named-without-at dsn other set sets true true is also off rest =
    let same : dsn ≡ other = sym (same-bytes set.dsn dsn is) ∙ same-bytes set.dsn other also in
    let on : true ≡ false = sym (bytes-same dsn other same) ∙ off in absurd cc
named-without-at dsn other set sets true false is also off rest = rw (is, also) rest
named-without-at dsn other set sets false true is also off rest = rw (is, also) refl
named-without-at dsn other set sets false false is also off rest = rw (is, also) rest

pub named-without : (dsn other : List ℕ) (sets : List DataSet) → bytes_eq dsn other ≡ false → set_named other (without_set dsn sets) ≡ set_named other sets
named-without dsn other [] off = refl
named-without dsn other (set ∷ sets) off = named-without-at dsn other set sets _ _ refl refl off (named-without dsn other sets off)

named-gone-at : (dsn : List ℕ) (set : DataSet) (sets : List DataSet) (b : Bool) → bytes_eq set.dsn dsn ≡ b → set_named dsn (without_set dsn sets) ≡ None → set_named dsn (without_set dsn (set ∷ sets)) ≡ None
named-gone-at dsn set sets true is rest = rw is rest
named-gone-at dsn set sets false is rest = rw (is, is) rest

pub named-gone : (dsn : List ℕ) (sets : List DataSet) → set_named dsn (without_set dsn sets) ≡ None
named-gone dsn [] = refl
named-gone dsn (set ∷ sets) = named-gone-at dsn set sets _ refl (named-gone dsn sets)

named-push-at : (dsn : List ℕ) (x : DataSet) (sets : List DataSet) (set : DataSet) (b : Bool) → bytes_eq x.dsn dsn ≡ b
    → (set_named dsn sets ≡ None → set_named dsn (sets ++ set ∷ []) ≡ set_named dsn (set ∷ []))
    → set_named dsn (x ∷ sets) ≡ None → set_named dsn ((x ∷ sets) ++ set ∷ []) ≡ set_named dsn (set ∷ [])
named-push-at dsn x sets set true is rest none =
    let now : Some x ≡ None = rw is at none in absurd cc
named-push-at dsn x sets set false is rest none =
    let now : set_named dsn sets ≡ None = rw is at none in rw is (rest now)

-- behind data sets of other names
pub named-push : (dsn : List ℕ) (sets : List DataSet) (set : DataSet) → set_named dsn sets ≡ None → set_named dsn (sets ++ set ∷ []) ≡ set_named dsn (set ∷ [])
named-push dsn [] set none = refl
named-push dsn (x ∷ sets) set none = named-push-at dsn x sets set _ refl (named-push dsn sets set) none

named-before-at : (dsn : List ℕ) (x : DataSet) (sets : List DataSet) (set : DataSet) (b : Bool) → bytes_eq x.dsn dsn ≡ b → set_named dsn (sets ++ set ∷ []) ≡ set_named dsn sets
    → set_named dsn ((x ∷ sets) ++ set ∷ []) ≡ set_named dsn (x ∷ sets)
named-before-at dsn x sets set true is rest = rw is refl
named-before-at dsn x sets set false is rest = rw is rest

-- a data set of another name behind them changes nothing
pub named-before : (dsn : List ℕ) (sets : List DataSet) (set : DataSet) → bytes_eq set.dsn dsn ≡ false → set_named dsn (sets ++ set ∷ []) ≡ set_named dsn sets
named-before dsn [] set off = rw off refl
named-before dsn (x ∷ sets) set off = named-before-at dsn x sets set _ refl (named-before dsn sets set off)

pub named-put-other : (set : DataSet) (other : List ℕ) (sets : List DataSet) → bytes_eq set.dsn other ≡ false → set_named other (put_set set sets) ≡ set_named other sets
named-put-other set other sets off = named-before other (without_set set.dsn sets) set off ∙ named-without set.dsn other sets off

one-named : (set : DataSet) (other : List ℕ) → bytes_eq set.dsn other ≡ true → set_named other (set ∷ []) ≡ Some set
one-named set other is = rw is refl

pub named-put : (set : DataSet) (other : List ℕ) (sets : List DataSet) → bytes_eq set.dsn other ≡ true → set_named other (put_set set sets) ≡ Some set
named-put set other sets is =
    let gone : set_named other (without_set set.dsn sets) ≡ None = ap (λ n. set_named other (without_set n sets)) (same-bytes set.dsn other is) ∙ named-gone other sets in
    named-push other (without_set set.dsn sets) set gone ∙ one-named set other is
