use Rattle.std.proofs.Common.{◌≡◌, ◌≤◌, ℕ, ◌+◌, List, length}
use Rattle.std.specs.List.{list_all}
use Rattle.dsn_mask.specs.Qualifiers.{qualifiers_of}
use Rattle.dsn_mask.specs.DataSetName.{is_qualifier}
use Rattle.dsn_mask.specs.NameFault.{IsFirstAmong}
use Rattle.dsn_mask.specs.declared.name_err.NameErr.{NameErr}
use Rattle.dsn_mask.proofs.name_fault.first_fault.Given as goal

pub record Walks (bytes text : List ℕ) (start number : ℕ) : Type 0 where
  pub fits : start + length text ≤ 44
  pub counted : number ≤ start + 1
  pub good : list_all is_qualifier (qualifiers_of bytes) ≡ list_all is_qualifier (qualifiers_of text)
  pub first : (err : NameErr) → IsFirstAmong start number (qualifiers_of text) err → IsFirstAmong 0 1 (qualifiers_of bytes) err

abbrev pub invariant-walk : goal.invariant-walk
invariant-walk l = Walks l.bytes l.text l.start l.number

abbrev pub decreases-walk : goal.decreases-walk
decreases-walk l = length l.text
