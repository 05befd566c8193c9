-- The record forms of what is named and what is shown (docs/manual/records.md, "The record form").
use Rattle.std.specs.Prelude.{◌∷◌, [], ℕ, List, Option}
use Rattle.sms_construct.specs.declared.status.Status.{Status}
use Rattle.sms_construct.specs.declared.target.Target.TheVariants as targets
use Rattle.sms_construct.specs.declared.target.Target.{Target}
use Rattle.sms_construct.specs.declared.view.View.TheVariants as views
use Rattle.sms_construct.specs.declared.view.View.{View}
use Rattle.sms_construct.specs.declared.vol_row.VolRow.{VolRow}
use Rattle.sms_records.specs.Form.{◌&◌, Form, made, made_at, variants, number_form, number_32_form}
use Rattle.sms_records.specs.Enums.{status_form}
use Rattle.sms_records.specs.Texts.{dsn_form, name_form, volser_form}
use Rattle.sms_records.specs.Sets.{data_set_form}

-- a storage group, a volume or a data set
abbrev pub target_write : Target → List ℕ
target_write (targets.Group name) = 0 ∷ name_form.write name
target_write (targets.Volume volser) = 1 ∷ volser_form.write volser
target_write (targets.Set dsn) = 2 ∷ dsn_form.write dsn

-- the readers of its variants
abbrev pub target_readers : List (List ℕ → Option (Target × List ℕ))
target_readers =
    made_at name_form targets.Group ∷
    made_at volser_form targets.Volume ∷
    made_at dsn_form targets.Set ∷ []

-- its form
abbrev pub target_form : Form Target
target_form = variants target_write target_readers

-- a volume as reports show it
abbrev pub vol_row_fields : Form (List ℕ × (List ℕ × (Status × (ℕ × (ℕ × ℕ)))))
vol_row_fields = volser_form & name_form & status_form & number_32_form & number_32_form & number_32_form

-- its form
abbrev pub vol_row_form : Form VolRow
vol_row_form = made vol_row_fields
    (λ x. record {
      volser = x.0;
      group = x.1.0;
      status = x.1.1.0;
      capacity = x.1.1.1.0;
      free = x.1.1.1.1.0;
      extents = x.1.1.1.1.1;
    })
    (λ x. (x.volser, (x.group, (x.status, (x.capacity, (x.free, x.extents))))))

-- a storage group as a DISPLAY shows it: its name, its status, its volumes, its tracks and its free tracks
abbrev pub group_fields : Form (List ℕ × (Status × (ℕ × (ℕ × ℕ))))
group_fields = name_form & status_form & number_32_form & number_form & number_form

-- what a DISPLAY shows
abbrev pub view_write : View → List ℕ
view_write (views.Group name status volumes capacity free) =
    0 ∷ group_fields.write (name, (status, (volumes, (capacity, free))))
view_write (views.Volume row) = 1 ∷ vol_row_form.write row
view_write (views.Set set) = 2 ∷ data_set_form.write set

-- the readers of its variants
abbrev pub view_readers : List (List ℕ → Option (View × List ℕ))
view_readers =
    made_at group_fields (λ x. views.Group x.0 x.1.0 x.1.1.0 x.1.1.1.0 x.1.1.1.1) ∷
    made_at vol_row_form views.Volume ∷
    made_at data_set_form views.Set ∷ []

-- its form
abbrev pub view_form : Form View
view_form = variants view_write view_readers
