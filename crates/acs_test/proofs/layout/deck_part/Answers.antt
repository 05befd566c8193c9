use Rattle.std.proofs.Common.{◌≡◌, false, sym, ◌∙◌, arith}
use Rattle.sms_script.specs.Lines.{is_block_end, lines_of}
use Rattle.acs_test.specs.Layout.{block_of}
use Rattle.acs_test.proofs.LayoutLemmas.{block_goes_on, parts_go_on}
use Rattle.acs_test.proofs.layout.deck_part.Goals as goal

pub loop-rest-preserved : goal.loop-rest-preserved
loop-rest-preserved c =
    let before = c.loop-rest.invariant in
    let said = c.first_line.ensures in
    let text = c.args.left.text.now in
    let rest = c.loop-rest.rest.now in
    let line = c.first_line.result.0.now in
    let behind = c.first_line.result.1.now in
    let more : is_block_end line ≡ false = sym c.is_block_end.ensures ∙ c.if-is_block_end.false in
    record {
      parts = parts_go_on text rest line behind before.parts said.parts;
      block = block_goes_on text rest line behind c.loop-rest.line (block_of c.args.left.line (lines_of text)) before.parts said.parts said.lines more before.block;
      few = omega (arith, said.shorter, before.few);
      within = omega (arith, said.shorter);
    }
