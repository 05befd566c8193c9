use Rattle.std.proofs.Common.{List, map, sym, subst, arith}
use Rattle.csv.specs.Records.{Row, fields_of}
use Rattle.acs_test.specs.Table.{IsTable}
use Rattle.acs_test.proofs.TableLemmas.{first_short}
use Rattle.acs_test.proofs.table_cases.read_table.Goals as goal

pub read_under-requires : goal.read_under-requires
read_under-requires c =
    let table = c.args.table.now in
    let are : IsTable table (map fields_of c.as_slice.result.now) = subst (λ (rows : List Row). IsTable table (map fields_of rows)) (sym c.as_slice.ensures.value) c.in-Ok.ensures in
    omega (arith, first_short table c.as_slice.result.now c.header-item.result are c.in-len1-up.len_at_least c.header-item.is)
