use Rattle.std.proofs.Common.{◌<◌, List, ℕ, length, map, Bor, sym, arith}
use Rattle.std.proofs.lemmas.List.{length-map}
use Rattle.sms_script.specs.Operands.{keys}
use Rattle.sms_script.proofs.OnceLemmas.{few_are_once}
use Rattle.sms_script.proofs.operand.are_all_once.Goals as goal

pub returns-then-words-lt2 : goal.returns-then-words-lt2
returns-then-words-lt2 c =
    let words : List (List ℕ) = map (λ (word : Bor (List ℕ)). word.now) c.args.words.now in
    let few : length words < 2 = omega (arith, length-map c.args.words.now (λ (word : Bor (List ℕ)). word.now), c.if-words-lt2.true) in
    sym (few_are_once words keys few)
