use Rattle.desk_law.proofs.KeptRowLemmas.{kept-rows-kept}
use Rattle.desk_law.proofs.laws.kept_rows_always.Goals as goal

pub returns : goal.returns
returns c = λ o history s rows old reaches tables. kept-rows-kept o history rows.replies rows.floors old (s, reaches) tables.kept_are
