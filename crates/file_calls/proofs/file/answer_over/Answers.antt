-- The run is that of the keeper over the connection.
use Rattle.file_calls.proofs.file.answer_over.Goals as goal

pub returns : goal.returns
returns g c =
    let ran = c.db_main.ensures in
    let new = c.new-keeper.ensures in
    record {
      ends = rw new at ran.ends;
      words_are = ran.words;
      unasked = ran.unasked;
      unrun = rw new at ran.unrun;
      unread = ran.unread;
      unopened = ran.unopened;
      refused = ran.refused;
      damage = rw new at ran.damage;
      unwritten = ran.unwritten;
    }
