use Rattle.std.proofs.Common.{refl}
use Rattle.routine_records.proofs.laws.headers_name_fields.Goals as goal

pub returns-clause-told : goal.returns-clause-told
returns-clause-told c = λ item routine told. refl

pub returns-clause-points : goal.returns-clause-points
returns-clause-points c = λ name source point tally. refl
