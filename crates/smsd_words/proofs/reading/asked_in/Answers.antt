use Rattle.clap.specs.Words.{found_of, rows_of}
use Rattle.smsd_words.proofs.WordsLemmas.{found_rows}
use Rattle.smsd_words.proofs.reading.asked_in.Goals as goal

pub returns-in-Some : goal.returns-in-Some
returns-in-Some c =
    let name = c.in_ok-name.name.now in
    let rows = rows_of (found_of c.in_ok-name.inner.now) in
    record {
      name = name;
      rows = rows;
      subcommand = found_rows c.args.matches.now name rows c.in_ok-name.ensures.name c.in_ok-name.ensures.rows;
      store = c.store_in.ensures;
      task = c.in-Some.ensures;
    }
