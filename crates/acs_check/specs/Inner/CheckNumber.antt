-- The numbers of the checks (docs/manual/acs-language.md, Checks).
use Rattle.std.specs.Prelude.{ℕ}
use Rattle.acs_check.specs.declared.check_name.CheckName.{CheckName}
use Rattle.acs_check.specs.declared.check_name.CheckName.TheVariants.{WrongHead, UnknownVariable, NotSettable}
use Rattle.acs_check.specs.declared.check_name.CheckName.TheVariants.{UnknownList, ListNameTaken, KindMismatch}
use Rattle.acs_check.specs.declared.check_name.CheckName.TheVariants.{OrderOfTexts, ValueOutOfRange, MaskMisplaced}
use Rattle.acs_check.specs.declared.check_name.CheckName.TheVariants.{TooManyEntries, TooManyValues, BadExitCode}
use Rattle.acs_check.specs.declared.check_name.CheckName.TheVariants.{ReadTooEarly}

-- the number behind the C
abbrev pub number_of : CheckName → ℕ
number_of WrongHead = 1
number_of UnknownVariable = 2
number_of NotSettable = 3
number_of UnknownList = 4
number_of ListNameTaken = 5
number_of KindMismatch = 6
number_of OrderOfTexts = 7
number_of ValueOutOfRange = 8
number_of MaskMisplaced = 9
number_of TooManyEntries = 10
number_of TooManyValues = 11
number_of BadExitCode = 12
number_of ReadTooEarly = 13
