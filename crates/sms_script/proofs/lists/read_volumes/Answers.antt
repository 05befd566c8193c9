use Rattle.std.proofs.Common.{◌≡◌, ◌++◌, ◌∷◌, [], true, false, Some, rules, sym, ◌∙◌}
use Rattle.std.specs.Option.{option_copied}
use Rattle.sms_script.specs.Parts.{listed, pieces_behind}
use Rattle.sms_script.proofs.ListLemmas.{volumes_go_on, volumes_refused, volumes_taken}
use Rattle.sms_script.proofs.lists.read_volumes.Goals as goal

pub returns-then-not-push_volume : goal.returns-then-not-push_volume
returns-then-not-push_volume c =
    let whole : c.loop-rest.volumes ++ pieces_behind (Some c.in-Some-rest.text.now) ≡ listed c.args.value.now = rw c.in-Some-rest.is at c.loop-rest.invariant.pieces in
    let may : c.push_volume.result ≡ false = search rules in
    volumes_refused c.loop-rest.volumes c.args.value.now c.first_piece.result.0.now c.in-Some-rest.text.now (option_copied c.first_piece.result.1) whole c.first_piece.ensures.pieces (sym c.push_volume.ensures.said ∙ may)

pub loop-rest-preserved : goal.loop-rest-preserved
loop-rest-preserved c =
    let whole : c.loop-rest.volumes ++ pieces_behind (Some c.in-Some-rest.text.now) ≡ listed c.args.value.now = rw c.in-Some-rest.is at c.loop-rest.invariant.pieces in
    let may : c.push_volume.result ≡ true = search rules in
    let grown : c.push_volume.new.volumes ≡ c.loop-rest.volumes ++ c.first_piece.result.0.now ∷ [] = rw may at c.push_volume.ensures.volumes in
    rw grown (record {
      pieces = volumes_taken c.loop-rest.volumes c.args.value.now c.first_piece.result.0.now c.in-Some-rest.text.now (option_copied c.first_piece.result.1) whole c.first_piece.ensures.pieces;
      volumes = volumes_go_on c.loop-rest.volumes c.first_piece.result.0.now c.loop-rest.invariant.volumes (sym c.push_volume.ensures.said ∙ may);
    })
