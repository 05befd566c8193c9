-- Lines of a rule, and what is chosen.
use Rattle.std.proofs.Common.{◌≡◌, Bool, true, false, List, refl, sym, subst, inl, inr}
use Rattle.std.specs.Prelude.{Option, None, Some, map, Result, Ok, Err, MatchResult, MatchOption, MatchBool}
use Rattle.desk_common.specs.Steps.{◌⊳◌}
use Rattle.sms_construct.specs.declared.reply.Reply.{Reply}
use Rattle.sms_construct.specs.declared.volume.VolumeDef.{VolumeDef}
use Rattle.desk_law.specs.State.{DeskState}
use Rattle.desk_law.specs.Replies.{found_or, reply_if, Leaves, Makes}
use Rattle.desk_law.specs.Candidates.{Ask, Chooses, Chosen, view_of, want_of}
use Rattle.desk_law.specs.Lawful.{IsLawful}

pub on-result : {A B : Type 0} (r : Result A B) (P : A → Type 0) (Q : B → Type 0) (C : Type 0) → MatchResult r P Q → ((x : A) → r ≡ Ok x → P x → C) → ((y : B) → r ≡ Err y → Q y → C) → C
on-result (Ok x) P Q C rule ok err = ok x refl rule
on-result (Err y) P Q C rule ok err = err y refl rule

pub on-option : {A : Type 0} (o : Option A) (P : Type 0) (Q : A → Type 0) (C : Type 0) → MatchOption o P Q → (o ≡ None → P → C) → ((x : A) → o ≡ Some x → Q x → C) → C
on-option None P Q C rule missing there = missing refl rule
on-option (Some x) P Q C rule missing there = there x refl rule

pub on-bool : (b : Bool) (P Q : Type 0) (C : Type 0) → MatchBool b P Q → (b ≡ true → P → C) → (b ≡ false → Q → C) → C
on-bool true P Q C rule hold fail = hold refl rule
on-bool false P Q C rule hold fail = fail refl rule

pub after-line : {A B : Type 0} (r : Result A Reply) (next : A → Result B Reply) (y : B) (C : Type 0) → (r ⊳ next) ≡ Ok y → ((x : A) → r ≡ Ok x → next x ≡ Ok y → C) → C
after-line (Ok x) next y C is then = then x refl is
after-line (Err e) next y C is then = absurd cc

pub found-line : {A : Type 0} (reply : Reply) (o : Option A) (x : A) → found_or reply o ≡ Ok x → o ≡ Some x
found-line reply None x is = absurd cc
found-line reply (Some found) x is = cc

pub passed-line : (reply : Reply) (b : Bool) (x : Unit {0}) → reply_if reply b ≡ Ok x → b ≡ false
passed-line reply true x is = absurd cc
passed-line reply false x is = refl

pub last-line : {A : Type 0} (x y : A) → ◌≡◌ {A = Result A Reply} (Ok x) (Ok y) → x ≡ y
last-line x y is = cc

pub left : (s after : DeskState) (answer reply : Reply) → IsLawful s → Leaves s answer reply after → IsLawful after
left s after answer reply lawful leaves = subst IsLawful (sym leaves.after_is) lawful

pub made : (next after : DeskState) (answer reply : Reply) → IsLawful next → Makes next answer reply after → IsLawful after
made next after answer reply lawful makes = subst IsLawful (sym makes.after_is) lawful

-- one that may be chosen among candidates
abbrev pub OneOf : DeskState → Ask → List VolumeDef → (VolumeDef → Type 0) → Type 0
OneOf s ask candidates chosen = Chooses candidates (map (view_of s ask) candidates) (want_of ask) chosen

-- what is chosen
pub on-chosen : (s : DeskState) (ask : Ask) (candidates : List VolumeDef) (rejected : Type 0) (chosen : VolumeDef → Type 0) (C : Type 0) → Chosen s ask candidates rejected chosen → (rejected → C)
    → (OneOf s ask candidates chosen → C) → C
on-chosen s ask candidates rejected chosen C (inl no_one) otherwise next = otherwise no_one.1
on-chosen s ask candidates rejected chosen C (inr one) otherwise next = next one
