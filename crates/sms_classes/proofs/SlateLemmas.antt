-- A slate that has no line of the later kinds.
use Rattle.std.proofs.Common.{◌≡◌, ◌<◌, ℕ, suc, Bool, true, false, cond, List, [], ◌∷◌, length, refl, sym, ap, ◌∙◌}
use Rattle.std.proofs.Common.{arith, if◌then◌else◌}
use Rattle.std.proofs.lemmas.Bool.Decides.{nat_tests}
use Rattle.acs_tree.specs.declared.kind.Kind.{Kind}
use Rattle.acs_tree.specs.declared.line.Line.{Line}
use Rattle.acs_tree.specs.Slates.{KeepsOtherKinds, SlateLines, count_of, lines_of, same_kind}
use Rattle.acs_tree.specs.Variables.{rank_of}
use Rattle.sms_classes.specs.Inner.Onward.{NoneFrom}

count_more : (b : Bool) (line : Line) (lines : List Line) (count : ℕ) → count ≡ length lines → (if b then suc count else count) ≡ length (cond b (line ∷ lines) lines)
count_more true line lines count e = ap suc e
count_more false line lines count e = e

-- the count of a kind is the number of its lines
count_lines : (kind : Kind) (lines : List Line) → count_of kind lines ≡ length (lines_of kind lines)
count_lines kind [] = refl
count_lines kind (line ∷ lines) = count_more (same_kind line.kind kind) line (lines_of kind lines) (count_of kind lines) (count_lines kind lines)

differ : (kind other : Kind) → rank_of kind < rank_of other → same_kind kind other ≡ false
differ kind other less = grind (arith, nat_tests)

-- a run leaves the lines of the other kinds
pub none_later : (kind : Kind) {before now : SlateLines} → KeepsOtherKinds kind before now → NoneFrom (rank_of kind) before → NoneFrom (suc (rank_of kind)) now
none_later kind {before} {now} keeps none other later =
    count_lines other now.lines ∙ ap length (keeps.lines other (differ kind other later)) ∙ sym (count_lines other before.lines) ∙ none other (omega arith)
