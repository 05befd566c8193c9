-- The classification at worked examples. A routine is what it means.
use Rattle.std.proofs.Common.{◌≡◌, ℕ, List, [], ◌∷◌, refl}
use Rattle.std.specs.Prelude.{codes, Option, Some, None, Err, replicate, length}
use Rattle.acs_tree.specs.Inputs.{bare_input, input_under}
use Rattle.acs_tree.specs.Outcome.{Action, behind, exits, falls}
use Rattle.acs_tree.specs.Setting.{with_class}
use Rattle.acs_tree.specs.declared.kind.Kind.{Kind}
use Rattle.acs_tree.specs.declared.kind.Kind.TheVariants.{DataClas, StorClas, MgmtClas, StorGrp}
use Rattle.sms_construct.specs.declared.reply.Reply.TheVariants as replies
use Rattle.desk_law.specs.Classification.{Classes, Meanings, begin, classes_of, classes_under, trace_of, went_through}
use Rattle.sms_construct.specs.declared.stop.Stop.TheVariants as stops
use Rattle.desk_law.proofs.ExampleDecks.{asks_class, asks_nothing, one}

-- routines: nothing; a class; storage groups; lines and an end with a code
abbrev sets_class : Kind → List ℕ → Action
sets_class kind class input values = falls (with_class kind class values)

abbrev sets_groups : List (List ℕ) → Action
sets_groups groups input values = falls (record { dataclas = values.dataclas; storclas = values.storclas; mgmtclas = values.mgmtclas; groups = groups })

abbrev writes_and_ends : List (List ℕ) → ℕ → Action
writes_and_ends lines code input values = behind lines (exits code values)

-- the routines of the four kinds
abbrev each : Option Action → Option Action → Option Action → Option Action → Meanings
each dataclas storclas mgmtclas storgrp DataClas = dataclas
each dataclas storclas mgmtclas storgrp StorClas = storclas
each dataclas storclas mgmtclas storgrp MgmtClas = mgmtclas
each dataclas storclas mgmtclas storgrp StorGrp = storgrp

-- a bare ALLOC under these routines
abbrev under : Meanings → Classes
under meanings = classes_under (one 100) meanings (bare_input (codes "A.B")) (begin asks_nothing)

-- the storage class and the storage groups that are set
classified : (under (each None (Some (sets_class StorClas (codes "SC1"))) None (Some (sets_groups (codes "SG1" ∷ []))))).values
    ≡ record { dataclas = []; storclas = codes "SC1"; mgmtclas = []; groups = codes "SG1" ∷ [] }
classified = refl

done : (under (each None (Some (sets_class StorClas (codes "SC1"))) None (Some (sets_groups (codes "SG1" ∷ []))))).stop ≡ stops.Done
done = refl

-- no storage class: neither of the last two routines runs
unmanaged : under (each None (Some (sets_class StorClas [])) (Some (writes_and_ends (codes "M" ∷ []) 8)) (Some (sets_groups (codes "SG1" ∷ []))))
    ≡ record { values = record { dataclas = []; storclas = []; mgmtclas = []; groups = [] }; written = (under (each None None None None)).written; stop = stops.Unmanaged }
unmanaged = refl

-- a code that isn't 0 stops all, with the lines that were written
exit : (under (each (Some (writes_and_ends (codes "NO" ∷ []) 12)) None None None)).stop ≡ stops.Exit DataClas 12
exit = refl

exit_lines : (trace_of (under (each (Some (writes_and_ends (codes "NO" ∷ []) 12)) None None None))).lines ≡ record { kind = DataClas; text = codes "NO" } ∷ []
exit_lines = refl

-- the reply to it
exit_reply : went_through (under (each (Some (writes_and_ends (codes "NO" ∷ []) 12)) None None None))
    ≡ Err (replies.Exit DataClas 12 (record { lines = record { kind = DataClas; text = codes "NO" } ∷ []; more = record { dataclas = 0; storclas = 0; mgmtclas = 0; storgrp = 0 } }))
exit_reply = refl

exit_of_management : (under (each None (Some (sets_class StorClas (codes "SC1"))) (Some (writes_and_ends [] 1)) None)).stop ≡ stops.Exit MgmtClas 1
exit_of_management = refl

exit_of_groups : (under (each None (Some (sets_class StorClas (codes "SC1"))) None (Some (writes_and_ends [] 4)))).stop ≡ stops.Exit StorGrp 4
exit_of_groups = refl

-- the code 0 stops nothing
exit_zero : (under (each (Some (writes_and_ends [] 0)) (Some (sets_class StorClas (codes "SC1"))) None (Some (sets_groups (codes "SG1" ∷ []))))).stop ≡ stops.Done
exit_zero = refl

-- a class that the configuration doesn't have; a missing routine is no excuse
unknown_data_class : (under (each (Some (sets_class DataClas (codes "DC9"))) None None None)).stop ≡ stops.Unknown DataClas (codes "DC9")
unknown_data_class = refl

unknown_storage_class : (classes_of (one 100) (codes "JOB1") (asks_class (codes "SC9"))).stop ≡ stops.Unknown StorClas (codes "SC9")
unknown_storage_class = refl

unknown_management_class : (under (each None (Some (sets_class StorClas (codes "SC1"))) (Some (sets_class MgmtClas (codes "MC9"))) None)).stop ≡ stops.Unknown MgmtClas (codes "MC9")
unknown_management_class = refl

known_data_class : (under (each (Some (sets_class DataClas (codes "DC1"))) None None None)).stop ≡ stops.Unmanaged
known_data_class = refl

-- no storage group is listed
no_group : (classes_of (one 100) (codes "JOB1") (asks_class (codes "SC1"))).stop ≡ stops.NoGroup
no_group = refl

-- of 66 lines 64 are kept, and two counted
many_lines : length (trace_of (under (each (Some (writes_and_ends (replicate 66 (codes "L")) 1)) None None None))).lines ≡ 64
many_lines = refl

more_lines : (trace_of (under (each (Some (writes_and_ends (replicate 66 (codes "L")) 1)) None None None))).more ≡ record { dataclas = 2; storclas = 0; mgmtclas = 0; storgrp = 0 }
more_lines = refl

-- routines see the job of the request
sees_the_job : (input_under (bare_input (codes "A.B")) (codes "JOB1") (Some (codes "SYSA")) None).origin.job ≡ codes "JOB1"
sees_the_job = refl

-- the code comes before the class
code_first : (under (each (Some (λ input values. exits 8 (with_class DataClas (codes "DC9") values))) None None None)).stop ≡ stops.Exit DataClas 8
code_first = refl

-- the lines of the first two routines, where the second leaves no storage class
first_two : (trace_of (under (each (Some (writes_and_ends (codes "DATACLAS" ∷ []) 0)) (Some (writes_and_ends (codes "STORCLAS" ∷ []) 0)) (Some (writes_and_ends (codes "MGMTCLAS" ∷ []) 0)) (Some (writes_and_ends (codes "STORGRP" ∷ []) 0))))).lines
    ≡ record { kind = DataClas; text = codes "DATACLAS" } ∷ record { kind = StorClas; text = codes "STORCLAS" } ∷ []
first_two = refl
