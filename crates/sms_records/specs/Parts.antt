-- The record forms of bounded lists, paths and spaces: each is read where it is in its range (docs/manual/records.md,
-- "The record form").
use Rattle.std.specs.Prelude.{◌==◌, ℕ, List, length, ◌&&◌, Option, Some, None, nat_le, if◌then◌else◌}
use Rattle.std.specs.List.{list_all}
use Rattle.desk_common.specs.Limits.{most_account_fields, most_path_bytes, most_volume_count}
use Rattle.sms_construct.specs.Path.{is_shown}
use Rattle.sms_construct.specs.Quantities.{Quantities, space_of}
use Rattle.sms_records.specs.Form.{◌&◌, Form, list, number_form, number_32_form, seen, text_form}
use Rattle.sms_records.specs.Texts.{short_form, volser_form}
use Rattle.sms_records.specs.Enums.{unit_form}

-- the texts of an accounting, where there aren't too many
abbrev pub account_of : List (List ℕ) → Option (List (List ℕ))
account_of items = if nat_le (length items) most_account_fields then Some items else None

-- an accounting: a list of texts
abbrev pub account_form : Form (List (List ℕ))
account_form = seen (list short_form) account_of (λ x. x)

-- the volumes, where their number is that which stands before them, and there aren't too many
abbrev pub volumes_of : ℕ × List (List ℕ) → Option (List (List ℕ))
volumes_of x = if (x.0 == length x.1) && nat_le (length x.1) most_volume_count then Some x.1 else None

-- the volumes that a request names: how many they are, and their list
abbrev pub volumes_form : Form (List (List ℕ))
volumes_form = seen (number_form & list volser_form) volumes_of (λ x. (length x, x))

-- the bytes, where they are a path
abbrev pub path_of : List ℕ → Option (List ℕ)
path_of bytes = if nat_le (length bytes) most_path_bytes && list_all is_shown bytes then Some bytes else None

-- a path: its text
abbrev pub path_form : Form (List ℕ)
path_form = seen text_form path_of (λ x. x)

-- a space: its unit, its primary and its secondary quantity
abbrev pub space_form : Form Quantities
space_form = seen (unit_form & number_32_form & number_32_form)
    (λ x. space_of x.0 x.1.0 x.1.1) (λ q. (q.unit, (q.primary, q.secondary)))
