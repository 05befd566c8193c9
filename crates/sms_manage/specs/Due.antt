-- What is due of a data set on a day (docs/manual/rules.md, "Space management").
use Rattle.std.specs.Prelude.{ℕ, ◌+◌, ◌&&◌, Bool, true, false, List, bytes_eq, find, nat_le, nat_lt, Option, None, Some}
use Rattle.std.specs.Prelude.{option_and_then, if◌then◌else◌}
use Rattle.std.specs.Option.{option_or}
use Rattle.sms_construct.specs.Configuration.{Configuration}
use Rattle.sms_construct.specs.declared.data_set.DataSet.{DataSet}
use Rattle.sms_construct.specs.declared.management_class.MgmtClass.{MgmtClass}
use Rattle.desk_law.specs.Extents.{tracks_of_set}
use Rattle.desk_law.specs.Releasing.{kept_of}
use Rattle.sms_manage.specs.declared.wanted.Due.{Due}
use Rattle.sms_manage.specs.declared.wanted.Due.TheVariants.{Nothing, Delete, Release}

-- the management class of this name
abbrev pub management_class_of : Configuration → List ℕ → Option MgmtClass
management_class_of config name = find (λ class. bytes_eq name class.name) config.management_classes

-- that of a data set: none where it has a null one, or one that the configuration lacks
abbrev pub class_of : Configuration → DataSet → Option MgmtClass
class_of config set = option_and_then (management_class_of config) set.mgmtclas

-- the days for which it is kept: its retention period, else those of its class
abbrev pub lifetime_of : Configuration → DataSet → Option ℕ
lifetime_of config set = option_or set.retpd (option_and_then (λ class. class.expire_after) (class_of config set))

-- these days have passed
abbrev pub has_passed : ℕ → DataSet → Option ℕ → Bool
has_passed day set None = false
has_passed day set (Some lifetime) = nat_le (set.day + lifetime) day

-- the class lets unused tracks be released
abbrev pub is_releasing : Option MgmtClass → Bool
is_releasing None = false
is_releasing (Some class) = class.release

-- RELEASE would free a track
abbrev pub has_unused : DataSet → Bool
has_unused set = nat_lt (tracks_of_set (kept_of set)) (tracks_of_set set)

-- what is due
abbrev pub due_of : Configuration → ℕ → DataSet → Due
due_of config day set =
    if has_passed day set (lifetime_of config set) then Delete
    else (if is_releasing (class_of config set) && has_unused set then Release else Nothing)

-- something is
abbrev pub is_due : Due → Bool
is_due Nothing = false
is_due Delete = true
is_due Release = true

-- of a data set, if there is one
abbrev pub is_due_if : Configuration → ℕ → Option DataSet → Bool
is_due_if config day None = false
is_due_if config day (Some set) = is_due (due_of config day set)
