-- Line by line is all at once.
use Rattle.std.proofs.Common.{◌≡◌, ◌≤◌, ◌+◌, ◌-◌, ℕ, suc, Bool, true, false, List, [], ◌∷◌, ◌++◌, length, map, take}
use Rattle.std.proofs.Common.{refl, sym, subst, ap, ◌∙◌, ⊎_elim, append_assoc, arith}
use Rattle.std.specs.Prelude.{◌^◌, cond, min, if◌then◌else◌}
use Rattle.std.proofs.lemmas.Bool.{cases_lt, lt-ltb, le-ltb}
use Rattle.std.proofs.lemmas.List.{append-nil, take_all}
use Rattle.std.proofs.lemmas.List.Elements.{filter-append}
use Rattle.acs_tree.specs.declared.kind.Kind.{Kind}
use Rattle.acs_tree.specs.declared.kind.Kind.TheVariants.{DataClas, StorClas, MgmtClas, StorGrp}
use Rattle.acs_tree.specs.declared.line.Line.{Line}
use Rattle.acs_tree.specs.declared.more.More.{More}
use Rattle.acs_tree.specs.Slates.{IsSlate, KeepsOtherKinds, SlateLines, count_of, line, lines_of, more_of, one_more}
use Rattle.acs_tree.specs.Slates.{same_kind, with_more, with_kept_lines}
use Rattle.acs_tree.specs.KeptLines.{KeptLines, kept_lines_of}
use Rattle.acs_run.specs.Inner.Steps.{with_lines}

same_self : (kind : Kind) → same_kind kind kind ≡ true
same_self DataClas = refl
same_self StorClas = refl
same_self MgmtClas = refl
same_self StorGrp = refl

count_if : (b : Bool) (n m : ℕ) → m ≡ suc n → (if b then suc m else m) ≡ suc (if b then suc n else n)
count_if true n m e = ap suc e
count_if false n m e = e

count_push : (kind : Kind) (text : List ℕ) (lines : List Line) → count_of kind (lines ++ line kind text ∷ []) ≡ suc (count_of kind lines)
count_push kind text [] = ap (λ b. if b then 1 else 0) (same_self kind)
count_push kind text (l ∷ lines) = count_if (same_kind l.kind kind) (count_of kind lines) (count_of kind (lines ++ line kind text ∷ [])) (count_push kind text lines)

more_same : (kind : Kind) (more : More) → with_more kind (more_of kind more) more ≡ more
more_same DataClas more = refl
more_same StorClas more = refl
more_same MgmtClas more = refl
more_same StorGrp more = refl

more_twice : (kind : Kind) (m n : ℕ) (more : More) → with_more kind m (with_more kind n more) ≡ with_more kind m more
more_twice DataClas m n more = refl
more_twice StorClas m n more = refl
more_twice MgmtClas m n more = refl
more_twice StorGrp m n more = refl

more_put : (kind : Kind) (n : ℕ) (more : More) → more_of kind (with_more kind n more) ≡ n
more_put DataClas n more = refl
more_put StorClas n more = refl
more_put MgmtClas n more = refl
more_put StorGrp n more = refl

abbrev slate_of : List Line → More → SlateLines
slate_of lines more = record { lines = lines; more = more }

same_slate : {lines lines' : List Line} {more more' : More} → lines ≡ lines' → more ≡ more' → slate_of lines more ≡ slate_of lines' more'
same_slate p q = cc

-- where 64 lines are kept the others are counted
full : (kind : Kind) (kept : List Line) (more : More) (lines : List (List ℕ)) → count_of kind kept ≡ 64 → more_of kind more ≤ 2 ^ 32 - 1
    → with_lines kind (record { lines = kept; more = more }) lines ≡ record { lines = kept; more = with_more kind (min (more_of kind more + length lines) (2 ^ 32 - 1)) more }
full kind kept more [] h small =
    let same : more_of kind more ≡ min (more_of kind more + 0) (2 ^ 32 - 1) = omega (arith, small) in
    ap (λ (m : More). let s : SlateLines = record { lines = kept; more = m } in s) (sym (more_same kind more) ∙ ap (λ n. with_more kind n more) same)
full kind kept more (text ∷ lines) h small =
    let next = one_more (more_of kind more) in
    let counted : SlateLines = record { lines = kept; more = with_more kind next more } in
    let pushed : SlateLines = record { lines = kept ++ line kind text ∷ []; more = more } in
    let sum : min (more_of kind (with_more kind next more) + length lines) (2 ^ 32 - 1) ≡ min (more_of kind more + suc (length lines)) (2 ^ 32 - 1) = omega (arith, more_put kind next more) in
    ap (λ b. with_lines kind (if b then pushed else counted) lines) (le-ltb (count_of kind kept) 64 (omega (arith, h)))
    ∙ full kind kept (with_more kind next more) lines h (omega (arith, more_put kind next more))
    ∙ ap (λ (m : More). let s : SlateLines = record { lines = kept; more = m } in s) (more_twice kind _ next more ∙ ap (λ n. with_more kind n more) sum)

-- so many lines of the kind are kept already
keeps_all : (kind : Kind) (count : ℕ) (kept : List Line) (more : More) (lines : List (List ℕ)) → count_of kind kept ≡ count → count ≤ 64 → more_of kind more ≡ 0
    → with_lines kind (record { lines = kept; more = more }) lines ≡ record { lines = kept ++ map (line kind) (take (64 - count) lines); more = with_more kind (min (length lines - (64 - count)) (2 ^ 32 - 1)) more }
keeps_all kind count kept more [] h few none =
    let counted : more_of kind more ≡ min (0 - (64 - count)) (2 ^ 32 - 1) = omega (arith, none) in
    same_slate (sym (append-nil kept) ∙ ap (λ texts. kept ++ map (line kind) texts) (sym (take_all (64 - count) [] (omega arith))))
    (sym (more_same kind more) ∙ ap (λ n. with_more kind n more) counted)
keeps_all kind count kept more (text ∷ lines) h few none = ⊎_elim
    (λ less.
    let room : 64 - count ≡ suc (64 - suc count) = omega (arith, less) in
    let sum : min (length lines - (64 - suc count)) (2 ^ 32 - 1) ≡ min (suc (length lines) - (64 - count)) (2 ^ 32 - 1) = omega (arith, less) in
    ap (λ b. with_lines kind (if b then slate_of (kept ++ line kind text ∷ []) more else slate_of kept (with_more kind (one_more (more_of kind more)) more)) lines) (lt-ltb (count_of kind kept) 64 (omega (arith, h, less)))
    ∙ keeps_all kind (suc count) (kept ++ line kind text ∷ []) more lines (count_push kind text kept ∙ ap suc h) less none
    ∙ same_slate (append_assoc kept (line kind text ∷ []) (map (line kind) (take (64 - suc count) lines)) ∙ ap (λ n. kept ++ map (line kind) (take n (text ∷ lines))) (sym room))
    (ap (λ n. with_more kind n more) sum))
    (λ all.
    let none_left : 64 - count ≡ 0 = omega (arith, all) in
    let sum : min (more_of kind more + suc (length lines)) (2 ^ 32 - 1) ≡ min (suc (length lines) - (64 - count)) (2 ^ 32 - 1) = omega (arith, all, few, none) in
    full kind kept more (text ∷ lines) (omega (arith, h, all, few)) (omega (arith, none))
    ∙ same_slate (sym (append-nil kept) ∙ ap (λ n. kept ++ map (line kind) (take n (text ∷ lines))) (sym none_left)) (ap (λ n. with_more kind n more) sum))
    (cases_lt count 64)

-- a run on a slate that has no line of its kind
pub all_at_once : (kind : Kind) (slate : SlateLines) (lines : List (List ℕ)) → IsSlate slate → count_of kind slate.lines ≡ 0 → with_lines kind slate lines ≡ with_kept_lines kind (kept_lines_of lines) slate
all_at_once kind slate lines is empty = keeps_all kind 0 slate.lines slate.more lines empty (omega arith) none
  where
    none : more_of kind slate.more ≡ 0
    none = ⊎_elim (λ some. absurd (omega (arith, empty, is.full kind some))) (λ no_more. omega (arith, no_more)) (cases_lt 0 (more_of kind slate.more))

-- the lines of the other kinds

no_way : true ≡ false → ⊥
no_way e = cc

none_of_other : (kind other : Kind) (texts : List (List ℕ)) → same_kind kind other ≡ false → lines_of other (map (line kind) texts) ≡ []
none_of_other kind other [] e = refl
none_of_other kind other (text ∷ texts) e = ap (λ b. cond b (line kind text ∷ lines_of other (map (line kind) texts)) (lines_of other (map (line kind) texts))) e ∙ none_of_other kind other texts e

more_of_other : (kind other : Kind) (n : ℕ) (more : More) → same_kind kind other ≡ false → more_of other (with_more kind n more) ≡ more_of other more
more_of_other DataClas DataClas n more e = absurd (no_way e)
more_of_other DataClas StorClas n more e = refl
more_of_other DataClas MgmtClas n more e = refl
more_of_other DataClas StorGrp n more e = refl
more_of_other StorClas DataClas n more e = refl
more_of_other StorClas StorClas n more e = absurd (no_way e)
more_of_other StorClas MgmtClas n more e = refl
more_of_other StorClas StorGrp n more e = refl
more_of_other MgmtClas DataClas n more e = refl
more_of_other MgmtClas StorClas n more e = refl
more_of_other MgmtClas MgmtClas n more e = absurd (no_way e)
more_of_other MgmtClas StorGrp n more e = refl
more_of_other StorGrp DataClas n more e = refl
more_of_other StorGrp StorClas n more e = refl
more_of_other StorGrp MgmtClas n more e = refl
more_of_other StorGrp StorGrp n more e = absurd (no_way e)

kept_of_other : (kind : Kind) (lines : KeptLines) (slate : SlateLines) → KeepsOtherKinds kind slate (with_kept_lines kind lines slate)
kept_of_other kind lines slate = record {
  lines = λ other e.
      filter-append (λ (l : Line). same_kind l.kind other) slate.lines (map (line kind) lines.kept) ∙ ap (λ more. lines_of other slate.lines ++ more) (none_of_other kind other lines.kept e)
      ∙ append-nil (lines_of other slate.lines);
  more = λ other e. more_of_other kind other lines.more slate.more e;
}

pub keeps_other_kinds : (kind : Kind) (lines : KeptLines) {before now : SlateLines} → now ≡ with_kept_lines kind lines before → KeepsOtherKinds kind before now
keeps_other_kinds kind lines {before} e = subst (λ slate. KeepsOtherKinds kind before slate) (sym e) (kept_of_other kind lines before)
