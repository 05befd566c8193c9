-- One more line of a deck block.
use Rattle.std.proofs.Common.{◌≡◌, ℕ, ◌+◌, ◌-◌, Bool, true, false, List, ◌∷◌, ◌++◌, None, Some, length, take, refl, sym}
use Rattle.std.proofs.Common.{ap, ◌∙◌, append_assoc, length-append, arith}
use Rattle.std.specs.Prelude.{Option, Result, not}
use Rattle.std.specs.Option.{option_map}
use Rattle.std.proofs.lemmas.List.{take_at}
use Rattle.sms_script.specs.declared.item.Item.{Item}
use Rattle.sms_script.specs.declared.script_err.ScriptErr.{ScriptErr}
use Rattle.sms_script.specs.Lines.{lines_of, is_block_end}
use Rattle.sms_script.specs.Script.{deck_of, script_from}

-- the part of a text before its rest takes the next line
front_grows : (text front line behind : List ℕ) → text ≡ front ++ (line ++ behind) → take (length text - length behind) text ≡ front ++ line
front_grows text front line behind parts =
    let whole : text ≡ (front ++ line) ++ behind = parts ∙ sym (append_assoc front line behind) in
    let count : length (front ++ line) ≡ length text - length behind = omega (arith, ap length whole, length-append (front ++ line) behind) in
    ap (λ (t : List ℕ). take (length text - length behind) t) whole ∙ take_at (front ++ line) behind (length text - length behind) count

rest_shrinks : (text front line behind : List ℕ) → text ≡ front ++ (line ++ behind) → text ≡ take (length text - length behind) text ++ behind
rest_shrinks text front line behind parts =
    rw (front_grows text front line behind parts) (parts ∙ sym (append_assoc front line behind))

deck_grows : (front line : List ℕ) (deck : Option (List ℕ)) → option_map (λ (d : List ℕ). front ++ d) (option_map (λ (d : List ℕ). line ++ d) deck) ≡ option_map (λ (d : List ℕ). (front ++ line) ++ d) deck
deck_grows front line None = refl
deck_grows front line (Some deck) = ap (λ (d : List ℕ). Some d) (sym (append_assoc front line deck))

next_deck : (front line behind : List ℕ) → is_block_end line ≡ false
    → option_map (λ (d : List ℕ). front ++ d) (deck_of (line ∷ lines_of behind)) ≡ option_map (λ (d : List ℕ). (front ++ line) ++ d) (deck_of (lines_of behind))
next_deck front line behind more = rw more (deck_grows front line (deck_of (lines_of behind)))

-- a line that ends no block belongs to the deck
pub deck_goes_on : (text rest line behind : List ℕ) (deck : Option (List ℕ)) → text ≡ take (length text - length rest) text ++ rest → rest ≡ line ++ behind
    → lines_of rest ≡ line ∷ lines_of behind → is_block_end line ≡ false → deck ≡ option_map (λ (d : List ℕ). take (length text - length rest) text ++ d) (deck_of (lines_of rest))
    → deck ≡ option_map (λ (d : List ℕ). take (length text - length behind) text ++ d) (deck_of (lines_of behind))
deck_goes_on text rest line behind deck parts cut lines more so_far =
    let front = take (length text - length rest) text in
    let whole : text ≡ front ++ (line ++ behind) = parts ∙ ap (λ (r : List ℕ). front ++ r) cut in
    so_far ∙ ap (λ (ls : List (List ℕ)). option_map (λ (d : List ℕ). front ++ d) (deck_of ls)) lines ∙ next_deck front line behind more
    ∙ ap (λ (f : List ℕ). option_map (λ (d : List ℕ). f ++ d) (deck_of (lines_of behind))) (sym (front_grows text front line behind whole))

pub parts_go_on : (text rest line behind : List ℕ) → text ≡ take (length text - length rest) text ++ rest → rest ≡ line ++ behind → text ≡ take (length text - length behind) text ++ behind
parts_go_on text rest line behind parts cut =
    let front = take (length text - length rest) text in
    rest_shrinks text front line behind (parts ∙ ap (λ (r : List ℕ). front ++ r) cut)

-- the phases are those of the lines behind it
pub script_goes_on : (script : Result (List (List Item)) ScriptErr) (rest line behind : List ℕ) (count number next : ℕ) → next ≡ number + 1 → lines_of rest ≡ line ∷ lines_of behind → is_block_end line ≡ false
    → script ≡ script_from true count number (lines_of rest) → script ≡ script_from true count next (lines_of behind)
script_goes_on script rest line behind count number next e lines more so_far =
    so_far ∙ ap (λ (ls : List (List ℕ)). script_from true count number ls) lines ∙ ap (λ (end : Bool). script_from (not end) count (number + 1) (lines_of behind)) more
    ∙ ap (λ (n : ℕ). script_from true count n (lines_of behind)) (sym e)
