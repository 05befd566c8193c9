-- What becomes of the routines: one whose text changed is gone and new.
use Rattle.std.specs.Prelude.{ℕ, List, [], ◌∷◌, ◌++◌, bytes_eq, codes, if◌then◌else◌}
use Rattle.acs_tree.specs.declared.kind.Kind.{Kind}
use Rattle.acs_tree.specs.declared.kind.Kind.TheVariants.{DataClas, StorClas, MgmtClas, StorGrp}
use Rattle.acs_tree.specs.Variables.{name_of}
use Rattle.sms_explain.specs.DeckTexts.{source_in}
use Rattle.sms_explain.specs.declared.deck_sources.DeckSources.{DeckSources}
use Rattle.deck_changes.specs.Differences.{minus, plus, signed}

-- the line of the routine of a kind
abbrev pub routine_line : Kind → List ℕ
routine_line kind = codes "ROUTINE " ++ name_of kind

-- the line of a routine with this text behind a sign, and none where it has no text
abbrev pub signed_routine : ℕ → Kind → List ℕ → List ℕ
signed_routine sign kind [] = []
signed_routine sign kind (byte ∷ bytes) = signed sign (routine_line kind)

-- what becomes of the routine of a kind whose text was this and is that
abbrev pub routine_change : Kind → List ℕ → List ℕ → List ℕ
routine_change kind before after =
    if bytes_eq before after then []
    else signed_routine minus kind before ++ signed_routine plus kind after

-- the same of all four
abbrev pub routines_change : DeckSources → DeckSources → List ℕ
routines_change before after =
    routine_change DataClas before.dataclas.text after.dataclas.text
    ++ (routine_change StorClas before.storclas.text after.storclas.text
    ++ (routine_change MgmtClas before.mgmtclas.text after.mgmtclas.text
    ++ routine_change StorGrp before.storgrp.text after.storgrp.text))
