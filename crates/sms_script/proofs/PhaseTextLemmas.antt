-- The text of one more phase.
use Rattle.std.proofs.Common.{◌≡◌, ◌<◌, ℕ, ◌+◌, List, [], ◌∷◌, ◌++◌, length, get_or, drop, refl, sym, ap, ◌∙◌, arith}
use Rattle.std.proofs.Common.{append_assoc}
use Rattle.std.proofs.lemmas.List.{at_drop_more}
use Rattle.sms_construct.specs.declared.entry.Answer.{Answer}
use Rattle.sms_script.specs.declared.item.Item.{Item}
use Rattle.sms_script.specs.AnswerText.{item_text, items_text}
use Rattle.sms_script.specs.Script.{items_of}

pub items_text-append : (items more : List Item) (answers : List Answer) (rest : List Answer) → length answers ≡ length items
    → items_text (items ++ more) (answers ++ rest) ≡ items_text items answers ++ items_text more rest
items_text-append [] more [] rest each = refl
items_text-append [] more (a ∷ answers) rest each = absurd (omega arith)
items_text-append (i ∷ items) more [] rest each = absurd (omega arith)
items_text-append (i ∷ items) more (a ∷ answers) rest each =
    ap (λ text. item_text i a ++ text) (items_text-append items more answers rest (omega arith)) ∙ sym (append_assoc (item_text i a) _ _)

-- the next phase stands before those behind it
pub next_phase : (phases : List (List Item)) (i : ℕ) (phase : List Item) → i < length phases → phase ≡ get_or phases i phase → items_of (drop i phases) ≡ phase ++ items_of (drop (i + 1) phases)
next_phase phases i phase less here =
    at_drop_more items_of phases i phase less ∙ ap (λ (p : List Item). p ++ items_of (drop (i + 1) phases)) (sym here)

-- the text with that of one more phase
pub text_goes_on : (text after whole : List ℕ) (phase more : List Item) (answers front back : List Answer) → answers ≡ front ++ back → length front ≡ length phase → after ≡ text ++ items_text phase front
    → text ++ items_text (phase ++ more) answers ≡ whole → after ++ items_text more back ≡ whole
text_goes_on text after whole phase more answers front back cut each grown so_far =
    ap (λ (t : List ℕ). t ++ items_text more back) grown ∙ append_assoc text _ _
    ∙ ap (λ (t : List ℕ). text ++ t) (sym (ap (λ (all : List Answer). items_text (phase ++ more) all) cut ∙ items_text-append phase more front back each)) ∙ so_far
