-- What a deck defines, construct by construct, each in a line (docs/manual/smsd.md, "Check of a deck").
use Rattle.std.specs.Prelude.{ℕ, Bool, true, false, List, [], ◌∷◌, ◌++◌, Option, None, Some, codes, decimal}
use Rattle.page_text.specs.PageBodies.{eattr_text, unit_text}
use Rattle.sms_construct.specs.Quantities.{Quantities}
use Rattle.sms_construct.specs.declared.data_class.DataClass.{DataClass}
use Rattle.sms_construct.specs.declared.management_class.MgmtClass.{MgmtClass}
use Rattle.sms_construct.specs.declared.storage_class.StorClass.{StorClass}
use Rattle.sms_construct.specs.declared.storage_group.StorGroup.{StorGroup}
use Rattle.sms_construct.specs.declared.volume.VolumeDef.{VolumeDef}
use Rattle.sms_script.specs.NameText.{status_text}

-- the word of a switch
abbrev pub switch_word : Bool → List ℕ
switch_word true = codes "YES"
switch_word false = codes "NO"

-- a number behind a front, and nothing where there is none
abbrev pub numbered : List ℕ → Option ℕ → List ℕ
numbered front None = []
numbered front (Some number) = front ++ decimal number

-- the two quantities of a space in their unit
abbrev pub quantities_part : Quantities → List ℕ
quantities_part space =
    (codes " space=(" ++ unit_text space.unit) ++ ((codes ",(" ++ decimal space.primary)
    ++ ((codes "," ++ decimal space.secondary) ++ codes "))"))

-- a space, and nothing where there is none
abbrev pub space_part : Option Quantities → List ℕ
space_part None = []
space_part (Some space) = quantities_part space

-- the line of a data class
abbrev pub data_class_line : DataClass → List ℕ
data_class_line class =
    (codes "DATACLAS " ++ class.name) ++ (space_part class.space ++ (numbered (codes " volcount=") class.volumes
    ++ (codes " eattr=" ++ eattr_text class.eattr)))

-- the line of a storage class
abbrev pub storage_class_line : StorClass → List ℕ
storage_class_line class =
    (codes "STORCLAS " ++ class.name) ++ (codes " multi_tier=" ++ switch_word class.multi_tier)

-- the line of a management class
abbrev pub management_class_line : MgmtClass → List ℕ
management_class_line class =
    (codes "MGMTCLAS " ++ class.name) ++ (numbered (codes " expire_after=") class.expire_after
    ++ (codes " release=" ++ switch_word class.release))

-- the thresholds of a storage group
abbrev pub thresholds_part : StorGroup → List ℕ
thresholds_part group = (codes " high=" ++ decimal group.high) ++ (codes " low=" ++ decimal group.low)

-- whether it is chosen after others, and from where on cylinder-managed space is tried first
abbrev pub order_part : StorGroup → List ℕ
order_part group =
    (codes " overflow=" ++ switch_word group.overflow) ++ (codes " breakpoint=" ++ decimal group.breakpoint)

-- the line of a storage group
abbrev pub group_line : StorGroup → List ℕ
group_line group =
    (codes "STORGRP " ++ group.name) ++ ((codes " status=" ++ status_text group.status)
    ++ (thresholds_part group ++ order_part group))

-- the line of a volume
abbrev pub volume_line : VolumeDef → List ℕ
volume_line volume =
    (codes "VOLUME " ++ volume.volser) ++ ((codes " group=" ++ volume.group)
    ++ ((codes " status=" ++ status_text volume.status) ++ (codes " tracks=" ++ decimal volume.tracks)))

-- the line of a name behind a front, if there is one
abbrev pub name_lines : List ℕ → Option (List ℕ) → List (List ℕ)
name_lines front None = []
name_lines front (Some name) = (front ++ name) ∷ []
