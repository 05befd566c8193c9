-- The tables of a deck stand at the empty path, and are read as its version asks.
use Rattle.std.proofs.Common.{◌≡◌, ℕ, List, [], subst}
use Rattle.std.specs.Prelude.{OnOk}
use Rattle.toml.specs.View.{table_view}
use Rattle.deck_meaning.specs.declared.version.Version.{Version}
use Rattle.deck_faults.specs.Tables.{top_survey}
use Rattle.deck_faults.specs.Inner.Telling.{put_all}
use Rattle.deck_faults.proofs.top_table.tell_tables.Goals as goal

pub returns : goal.returns
returns c =
    let top = table_view c.args.top.now in
    subst (λ (version : Version). OnOk c.tell_top.result (c.tell_top.new.told.items ≡ put_all c.args.told.now.items (top_survey version [] top))) c.read_as.ensures
    (subst (λ (path : List ℕ). OnOk c.tell_top.result (c.tell_top.new.told.items ≡ put_all c.args.told.now.items (top_survey c.read_as.result path top))) c.top.ensures c.tell_top.ensures)
