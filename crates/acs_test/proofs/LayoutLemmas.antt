-- The lines of an input, one after the other.
use Rattle.std.proofs.Common.{◌≡◌, ℕ, ◌+◌, ◌-◌, Bool, true, false, List, [], ◌∷◌, ◌++◌, Ok, Err, length, take, refl}
use Rattle.std.proofs.Common.{sym, ap, ◌∙◌, append_assoc, length-append, arith}
use Rattle.std.specs.Prelude.{◌==◌, Result, codes, if◌then◌else◌}
use Rattle.desk_common.specs.Words.{onto}
use Rattle.std.proofs.lemmas.List.{take_at}
use Rattle.sms_script.specs.Lines.{is_block_end, lines_of}
use Rattle.acs_test.specs.Layout.{Block, Numbered, behind_word, block_of, bytes_of, parts_of, with_line}

-- bytes before those of a deck
abbrev pub onto_deck : List ℕ → Result Block ℕ → Result Block ℕ
onto_deck front block = with_line front block

-- the part of a text before its rest takes the next line
front_grows : (text front line behind : List ℕ) → text ≡ front ++ (line ++ behind) → take (length text - length behind) text ≡ front ++ line
front_grows text front line behind parts =
    let whole : text ≡ (front ++ line) ++ behind = parts ∙ sym (append_assoc front line behind) in
    let count : length (front ++ line) ≡ length text - length behind = omega (arith, ap length whole, length-append (front ++ line) behind) in
    ap (λ (t : List ℕ). take (length text - length behind) t) whole ∙ take_at (front ++ line) behind (length text - length behind) count

rest_shrinks : (text front line behind : List ℕ) → text ≡ front ++ (line ++ behind) → text ≡ take (length text - length behind) text ++ behind
rest_shrinks text front line behind parts =
    rw (front_grows text front line behind parts) (parts ∙ sym (append_assoc front line behind))

pub parts_go_on : (text rest line behind : List ℕ) → text ≡ take (length text - length rest) text ++ rest → rest ≡ line ++ behind → text ≡ take (length text - length behind) text ++ behind
parts_go_on text rest line behind parts cut =
    let front = take (length text - length rest) text in
    rest_shrinks text front line behind (parts ∙ ap (λ (r : List ℕ). front ++ r) cut)

with_lines : (front line : List ℕ) (block : Result Block ℕ) → with_line front (with_line line block) ≡ with_line (front ++ line) block
with_lines front line (Ok block) = ap (λ (d : List ℕ). Ok (record { deck = d; behind = block.behind })) (sym (append_assoc front line block.deck))
with_lines front line (Err end) = refl

next_block : (front line behind : List ℕ) (number : ℕ) → is_block_end line ≡ false → with_line front (block_of number (line ∷ lines_of behind)) ≡ with_line (front ++ line) (block_of (number + 1) (lines_of behind))
next_block front line behind number more = rw more (with_lines front line (block_of (number + 1) (lines_of behind)))

-- a line that ends no block belongs to the deck
pub block_goes_on : (text rest line behind : List ℕ) (number : ℕ) (block : Result Block ℕ) → text ≡ take (length text - length rest) text ++ rest → rest ≡ line ++ behind
    → lines_of rest ≡ line ∷ lines_of behind → is_block_end line ≡ false → block ≡ onto_deck (take (length text - length rest) text) (block_of number (lines_of rest))
    → block ≡ onto_deck (take (length text - length behind) text) (block_of (number + 1) (lines_of behind))
block_goes_on text rest line behind number block parts cut lines more so_far =
    let front = take (length text - length rest) text in
    let whole : text ≡ front ++ (line ++ behind) = parts ∙ ap (λ (r : List ℕ). front ++ r) cut in
    so_far ∙ ap (λ (ls : List (List ℕ)). with_line front (block_of number ls)) lines ∙ next_block front line behind number more
    ∙ ap (λ (f : List ℕ). with_line f (block_of (number + 1) (lines_of behind))) (sym (front_grows text front line behind whole))

onto_bytes : (byte : ℕ) (lines : List (List ℕ)) → bytes_of (onto byte lines) ≡ byte ∷ bytes_of lines
onto_bytes byte [] = refl
onto_bytes byte (line ∷ lines) = refl

one_line : (byte : ℕ) (ends : Bool) (lines : List (List ℕ)) → bytes_of (if ends then (byte ∷ []) ∷ lines else onto byte lines) ≡ byte ∷ bytes_of lines
one_line byte true lines = refl
one_line byte false lines = onto_bytes byte lines

-- the lines of a text are its bytes
pub lines_whole : (text : List ℕ) → bytes_of (lines_of text) ≡ text
lines_whole [] = refl
lines_whole (byte ∷ bytes) = one_line byte (byte == 10) (lines_of bytes) ∙ ap (λ (others : List ℕ). byte ∷ others) (lines_whole bytes)

-- the parts of an input, found one after the other
pub parts_found : (bytes : List ℕ) (first : Numbered) (before : Block) (second : Numbered) (after : Block) (third : Numbered)
    → behind_word (codes "OLD") 1 (lines_of bytes) ≡ Ok first → block_of first.line first.lines ≡ Ok before
    → behind_word (codes "NEW") before.behind.line before.behind.lines ≡ Ok second → block_of second.line second.lines ≡ Ok after
    → behind_word (codes "CASES") after.behind.line after.behind.lines ≡ Ok third
    → parts_of bytes ≡ Ok (record { before = before.deck; after = after.deck; table = bytes_of third.lines })
parts_found bytes first before second after third one two three four five = rw (one, two, three, four, five) refl
