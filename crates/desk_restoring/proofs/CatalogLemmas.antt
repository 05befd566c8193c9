-- Data sets that are catalogued one by one.
use Rattle.std.proofs.Common.{◌≡◌, ◌≤◌, ◌<◌, ℕ, ◌+◌, Bool, true, false, cond, List, [], ◌∷◌, ◌++◌, length, get_or, take}
use Rattle.std.proofs.Common.{drop, refl, sym, ap, ◌∙◌, arith}
use Rattle.std.specs.Prelude.{Option, None, Some, bytes_eq}
use Rattle.sms_construct.specs.declared.data_set.DataSet.{DataSet}
use Rattle.desk_law.specs.State.{set_named}
use Rattle.desk_law.specs.Lawful.{times_named}
use Rattle.sms_volumes.proofs.NamedLemmas.{named-before, named-push}
use Rattle.desk_restoring.proofs.ListLemmas.{parts-at, take-next}
use Rattle.desk_restoring.proofs.PlacingLemmas.{none-named, own-named}

named-both : (n : List ℕ) (a : List DataSet) (set : DataSet) (b : List DataSet) → times_named n (a ++ set ∷ b) ≡ times_named n a + (cond (bytes_eq set.dsn n) 1 0 + times_named n b)
named-both n [] set b = omega arith
named-both n (x ∷ a) set b = omega (arith, named-both n a set b)

-- the first of a name, where the name stands once
found-push-at : (dsn : List ℕ) (front : List DataSet) (set : DataSet) (found : Option DataSet) (b : Bool) → bytes_eq set.dsn dsn ≡ b → times_named dsn front + cond b 1 0 ≤ 1 → found ≡ set_named dsn front
    → cond b (Some set) found ≡ set_named dsn (front ++ set ∷ [])
found-push-at dsn front set found true is once same =
    let none : set_named dsn front ≡ None = none-named dsn front (omega (arith, once)) in
    sym (named-push dsn front set none ∙ own-named dsn set is)
found-push-at dsn front set found false is once same = same ∙ sym (named-before dsn front set is)

pub found-next : (dsn : List ℕ) (sets : List DataSet) (i : ℕ) (set : DataSet) (found : Option DataSet) → i < length sets → set ≡ get_or sets i set → times_named dsn sets ≤ 1 → found ≡ set_named dsn (take i sets)
    → cond (bytes_eq set.dsn dsn) (Some set) found ≡ set_named dsn (take (i + 1) sets)
found-next dsn sets i set found lt read once same =
    let all : times_named dsn sets ≡ times_named dsn (take i sets ++ set ∷ drop (i + 1) sets) = ap (times_named dsn) (parts-at sets i set lt read) in
    let less : times_named dsn (take i sets) + cond (bytes_eq set.dsn dsn) 1 0 ≤ 1 = omega (arith, all, once, named-both dsn (take i sets) set (drop (i + 1) sets)) in
    found-push-at dsn (take i sets) set found _ refl less same ∙ sym (ap (set_named dsn) (take-next sets i set lt read))
