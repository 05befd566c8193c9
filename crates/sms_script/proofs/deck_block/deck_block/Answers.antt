use Rattle.std.proofs.Common.{◌≡◌, ◌+◌, false, sym, ◌∙◌, arith}
use Rattle.sms_script.specs.Lines.{lines_of, is_block_end}
use Rattle.sms_script.specs.Script.{deck_of}
use Rattle.sms_script.proofs.DeckLemmas.{deck_goes_on, parts_go_on, script_goes_on}
use Rattle.sms_script.proofs.deck_block.deck_block.Goals as goal

pub loop-rest-preserved : goal.loop-rest-preserved
loop-rest-preserved c =
    let before = c.loop-rest.invariant in
    let said = c.first_line.ensures in
    let text = c.args.text.now in
    let rest = c.loop-rest.rest.now in
    let line = c.first_line.result.0.now in
    let behind = c.first_line.result.1.now in
    let more : is_block_end line ≡ false = sym c.is_block_end.ensures ∙ c.if-is_block_end.false in
    record {
      within = omega (arith, said.shorter);
      parts = parts_go_on text rest line behind before.parts said.parts;
      deck = deck_goes_on text rest line behind (deck_of (lines_of text)) before.parts said.parts said.lines more before.deck;
      script = λ count number. script_goes_on _ rest line behind count (number + c.loop-rest.lines) (number + (c.loop-rest.lines + 1)) (omega arith) said.lines more (before.script count number);
      few = omega (arith, said.shorter, before.few);
    }
