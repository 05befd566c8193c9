-- Replies that show the lines of routines. A routine is what it means.
use Rattle.std.proofs.Common.{◌≡◌, ℕ, List, [], ◌∷◌, refl, inl, inr}
use Rattle.std.specs.Prelude.{codes, Some, None, Ok, Err}
use Rattle.acs_tree.specs.Inputs.{bare_input}
use Rattle.acs_tree.specs.Outcome.{Action, behind, falls}
use Rattle.acs_tree.specs.Setting.{with_class}
use Rattle.acs_tree.specs.declared.kind.Kind.{Kind}
use Rattle.acs_tree.specs.declared.kind.Kind.TheVariants.{DataClas, StorClas, MgmtClas, StorGrp}
use Rattle.acs_tree.specs.declared.line.Line.{Line}
use Rattle.sms_construct.specs.declared.reply.Reply.TheVariants as replies
use Rattle.sms_construct.specs.declared.status.Status.TheVariants.{Enable}
use Rattle.sms_construct.specs.declared.trace.Trace.{Trace}
use Rattle.sms_construct.specs.declared.unit.Unit.TheVariants.{Trk}
use Rattle.desk_law.specs.State.{DeskState, with_set}
use Rattle.desk_law.specs.Candidates.{view_of}
use Rattle.desk_law.specs.Classification.{Classes, Meanings, begin, classes_under, went_through}
use Rattle.desk_law.specs.Allocation.{GrantRule, Wish, space_case, wish_with}
use Rattle.desk_law.proofs.ExampleDecks.{ask, asks, asks_nothing, data_set, desk_under, extent, one, piece, volume}

-- a line of the routine of that kind
abbrev pub line : Kind → List ℕ → Line
line kind text = record { kind = kind; text = text }

-- a trace of these lines, where no others were written
abbrev pub trace : List Line → Trace
trace lines = record { lines = lines; more = record { dataclas = 0; storclas = 0; mgmtclas = 0; storgrp = 0 } }

-- a routine that writes a line and sets a class
abbrev class : Kind → List ℕ → List ℕ → Action
class kind text name input values = behind (text ∷ []) (falls (with_class kind name values))

-- a routine that writes a line and lists storage groups
abbrev groups : List (List ℕ) → List ℕ → Action
groups names text input values = behind (text ∷ []) (falls (record { dataclas = values.dataclas; storclas = values.storclas; mgmtclas = values.mgmtclas; groups = names }))

-- a storage class routine and a storage group routine
abbrev pub these : Action → Action → Meanings
these storclas storgrp DataClas = None
these storclas storgrp StorClas = Some storclas
these storclas storgrp MgmtClas = None
these storclas storgrp StorGrp = Some storgrp

-- what they give a bare ALLOC
abbrev under : Action → Action → Classes
under storclas storgrp = classes_under (one 100) (these storclas storgrp) (bare_input (codes "A.B")) (begin asks_nothing)

-- A01: no storage class
not_managed : went_through (under (class StorClas (codes "NONE") []) (groups (codes "SG1" ∷ []) (codes "POOL"))) ≡ Err (replies.NotManaged (trace (line StorClas (codes "NONE") ∷ [])))
not_managed = refl

-- R15: no such class
unknown_class : went_through (under (class StorClas (codes "ODD") (codes "SC9")) (groups (codes "SG1" ∷ []) (codes "POOL"))) ≡ Err (replies.UnknownClass StorClas (codes "SC9") (trace (line StorClas (codes "ODD") ∷ [])))
unknown_class = refl

-- R17: no storage group, with the lines of both
no_group : went_through (under (class StorClas (codes "FAST") (codes "SC1")) (groups [] (codes "POOL"))) ≡ Err (replies.NoGroup (trace (line StorClas (codes "FAST") ∷ line StorGrp (codes "POOL") ∷ [])))
no_group = refl

-- a storage class and a storage group, with a line of each
abbrev gave : Classes
gave = under (class StorClas (codes "FAST") (codes "SC1")) (groups (codes "SG1" ∷ []) (codes "POOL"))

-- these two lines
abbrev two_lines : Trace
two_lines = trace (line StorClas (codes "FAST") ∷ line StorGrp (codes "POOL") ∷ [])

-- the lines stand for what comes behind
goes_on : went_through gave ≡ Ok gave
goes_on = refl

-- R16: no space
no_quantity : space_case asks_nothing (one 100) gave ≡ Err (replies.NoQuantity two_lines)
no_quantity = refl

abbrev wish : ℕ → Wish
wish primary = wish_with (asks Trk primary 5) (one 100) gave (record { unit = Trk; primary = primary; secondary = 5 })

abbrev bare : DeskState
bare = desk_under (one 100)

-- A00: the data set is catalogued
granted : GrantRule bare (asks Trk 10 5) (wish 10) (replies.Granted (data_set 5 1 (extent (codes "VOL001") 0 10 ∷ [])) two_lines) (with_set bare (data_set 5 1 (extent (codes "VOL001") 0 10 ∷ [])))
granted = inr (record {
  position = 0;
  may = record { view = view_of bare (ask Trk 10 1) (volume (codes "VOL001") 100 Enable); there = refl; listed = refl; first = refl };
  volume = volume (codes "VOL001") 100 Enable;
  there = refl;
  does = record { pieces = piece 0 10 ∷ []; granted = refl; makes = record { reply_is = refl; after_is = refl } };
})

-- R18: no volume has room
no_volume : GrantRule bare (asks Trk 101 5) (wish 101) (replies.NoVolume two_lines) bare
no_volume = inl (refl, record { reply_is = refl; after_is = refl })
