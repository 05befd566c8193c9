-- Each field of a data set and of what is asked for it, at examples where none has its default.
use Rattle.std.proofs.Common.{◌≡◌, [], ◌∷◌, refl}
use Rattle.std.specs.Prelude.{codes, Some, None}
use Rattle.acs_tree.specs.Slates.{blank}
use Rattle.acs_tree.specs.declared.ending.Ending.TheVariants.{Falls}
use Rattle.sms_construct.specs.declared.alloc.Alloc.{Alloc}
use Rattle.sms_construct.specs.declared.data_class.DataClass.{DataClass}
use Rattle.sms_construct.specs.declared.data_set.DataSet.{DataSet}
use Rattle.sms_construct.specs.declared.eattr.Eattr.{Eattr}
use Rattle.sms_construct.specs.declared.eattr.Eattr.TheVariants.{No, Opt}
use Rattle.sms_construct.specs.declared.status.Status.TheVariants.{Enable, QuiNew}
use Rattle.sms_construct.specs.declared.target.Target.TheVariants.{Group}
use Rattle.sms_construct.specs.declared.unit.Unit.TheVariants.{Cyl}
use Rattle.desk_law.specs.Allocation.{Wish, ask_of, eattr_of, new_set, wish_with}
use Rattle.desk_law.specs.Classification.{Classes, begin}
use Rattle.desk_law.specs.Extension.{ask_more, extended}
use Rattle.desk_law.specs.Extents.{with_extents}
use Rattle.desk_law.specs.State.{with_set, with_status}
use Rattle.desk_law.specs.Statuses.{bars_group_growth, bars_volume_growth}
use Rattle.sms_construct.specs.declared.stop.Stop.TheVariants as stops
use Rattle.desk_law.proofs.ExampleDecks.{asks, asks_nothing, desk_with, extent, one, piece, volume}

-- an ALLOC that names everything
abbrev asks_all : Alloc
asks_all = record (asks Cyl 2 1) { dataclas = Some (codes "DC1"); storclas = Some (codes "SC1"); mgmtclas = Some (codes "MC1"); volumes = Some 3; day = 17; retpd = Some 30; eattr = Some Opt }

-- its classes stand before the first routine
begins : begin asks_all ≡ record { values = record { dataclas = codes "DC1"; storclas = codes "SC1"; mgmtclas = codes "MC1"; groups = [] }; written = blank; ending = Falls }
begins = refl

-- what the routines gave
abbrev gave : Classes
gave = record { values = record { dataclas = codes "DC2"; storclas = codes "SC1"; mgmtclas = codes "MC2"; groups = codes "SG2" ∷ codes "SG1" ∷ [] }; written = blank; stop = stops.Done }

abbrev wish : Wish
wish = wish_with asks_all (one 100) gave (record { unit = Cyl; primary = 2; secondary = 1 })

wished : wish ≡ record { config = one 100; classes = gave; space = record { unit = Cyl; primary = 2; secondary = 1 }; volumes = 3; eattr = Opt }
wished = refl

-- the new data set: classes of the routines, the storage group of its volume, the secondary quantity in tracks, and the
-- rest of the request
abbrev made : DataSet
made = record {
  dsn = codes "A.B";
  dataclas = Some (codes "DC2");
  storclas = codes "SC1";
  mgmtclas = Some (codes "MC2");
  group = codes "SG1";
  unit = Cyl;
  secondary = 15;
  volumes = 3;
  day = 17;
  retpd = Some 30;
  used = 0;
  extents = extent (codes "VOL001") 15 30 ∷ [];
  eattr = Opt;
}

catalogued : new_set asks_all wish (volume (codes "VOL001") 100 Enable) (piece 15 30 ∷ []) ≡ made
catalogued = refl

-- what is asked of volumes for it
asked : ask_of wish ≡ record { unit = Cyl; tracks = 30; volumes = 3; eattr = Opt; tiers = [] }
asked = refl

-- and what is asked for it later
asked_more : ask_more made ≡ record { unit = Cyl; tracks = 15; volumes = 3; eattr = Opt; tiers = [] }
asked_more = refl

-- an extension leaves all else, and so does USED
grown : extended (record made { used = 7 }) (extent (codes "VOL002") 0 15 ∷ []) ≡ record made { used = 7; extents = extent (codes "VOL001") 15 30 ∷ extent (codes "VOL002") 0 15 ∷ [] }
grown = refl

noted : with_extents made 7 made.extents ≡ record made { used = 7 }
noted = refl

-- EATTR: the request's, else the data class's, else NO

abbrev class : Eattr → DataClass
class eattr = record { name = codes "DC1"; space = None; volumes = None; eattr = eattr }

of_request : eattr_of (record asks_nothing { eattr = Some No }) (Some (class Opt)) ≡ No
of_request = refl

of_class : eattr_of asks_nothing (Some (class Opt)) ≡ Opt
of_class = refl

of_nothing : eattr_of asks_nothing None ≡ No
of_nothing = refl

-- the data class is the one that the routines gave
of_given_class : (wish_with asks_nothing (record (one 100) { data_classes = class No ∷ record (class Opt) { name = codes "DC2" } ∷ [] }) gave (record { unit = Cyl; primary = 2; secondary = 1 })).eattr ≡ Opt
of_given_class = refl

-- a quiesced storage group or volume goes on giving tracks

quiesced_group_grows : bars_group_growth QuiNew ≡ bars_group_growth Enable
quiesced_group_grows = refl

quiesced_volume_grows : bars_volume_growth QuiNew ≡ bars_volume_growth Enable
quiesced_volume_grows = refl

-- a change of one part of the state leaves the others

put_leaves : with_set (desk_with (one 100) made) (record made { used = 7 }) ≡ desk_with (one 100) (record made { used = 7 })
put_leaves = refl

vary_leaves : (with_status (desk_with (one 100) made) (Group (codes "SG1")) QuiNew).sets ≡ made ∷ []
vary_leaves = refl
