use Rattle.std.proofs.Common.{◌≡◌, length}
use Rattle.std.specs.List.{list_all}
use Rattle.dsn_mask.specs.Qualifiers.{qualifiers_of}
use Rattle.dsn_mask.specs.DataSetName.{is_qualifier}
use Rattle.dsn_mask.proofs.name_fault.are_in_form.Given as goal

abbrev pub invariant-walk : goal.invariant-walk
invariant-walk l = list_all is_qualifier (qualifiers_of l.bytes) ≡ list_all is_qualifier (qualifiers_of l.text)

abbrev pub decreases-walk : goal.decreases-walk
decreases-walk l = length l.text
