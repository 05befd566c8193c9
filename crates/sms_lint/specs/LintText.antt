-- Findings as text (docs/manual/tool.md, "Linting a deck").
use Rattle.std.specs.Prelude.{◌++◌, ℕ, List, codes, decimal, flat_map, length}
use Rattle.acs_lint.specs.declared.finding.Finding.{Finding}
use Rattle.acs_lint.specs.declared.finding.Finding.TheVariants.{Covered, Behind, Spare, Quoted, Unused}
use Rattle.acs_telling.specs.Sources.{spot_at, word_at}
use Rattle.acs_telling.specs.Telling.{place_text}
use Rattle.acs_telling.specs.declared.source.Source.{Source}
use Rattle.acs_tree.specs.Variables.{name_of}
use Rattle.acs_tree.specs.declared.kind.Kind.{Kind}
use Rattle.acs_tree.specs.declared.kind.Kind.TheVariants.{MgmtClas, StorGrp}
use Rattle.sms_construct.specs.Keys.{key_of}
use Rattle.sms_explain.specs.DeckTexts.{source_in}
use Rattle.sms_explain.specs.declared.deck_sources.DeckSources.{DeckSources}
use Rattle.sms_lint.specs.declared.deck_finding.DeckFinding.{DeckFinding}
use Rattle.sms_lint.specs.declared.deck_finding.DeckFinding.TheVariants.{InRoutine, NeverExpires, NeverSet, NotEnabled}

-- the line and the column of a token
abbrev pub token_place : Source → ℕ → List ℕ
token_place source at = place_text (spot_at source at).place

-- the place of a token, and the token
abbrev pub token_text : Source → ℕ → List ℕ
token_text source at = token_place source at ++ (codes " " ++ word_at source at)

-- what is found at a token
abbrev pub what_text : Source → ℕ → List ℕ → List ℕ
what_text source at what = token_text source at ++ what

-- what is found at a token, and the place that makes it so with its word
abbrev pub since_text : Source → ℕ → List ℕ → ℕ → List ℕ → List ℕ
since_text source at what since why =
    token_text source at ++ (what ++ (codes ", SINCE " ++ (token_place source since ++ why)))

-- what is found in a routine
abbrev pub in_routine_text : Source → Finding → List ℕ
in_routine_text source (Covered arm since) = since_text source arm (codes " NEVER TAKEN") since (codes " HOLDS WHERE IT DOES")
in_routine_text source (Behind statement since) = since_text source statement (codes " NEVER RUN") since (codes " EXITS")
in_routine_text source (Spare entry since) = since_text source entry (codes " NOT NEEDED") since (codes " COVERS IT")
in_routine_text source (Quoted literal) = what_text source literal (codes " COMPARED AS IT STANDS")
in_routine_text source (Unused list) = what_text source list (codes " NEVER USED")

-- the path of a construct of a kind in a deck, and what is found on it
abbrev pub construct_text : Kind → List ℕ → List ℕ → List ℕ
construct_text kind name what = key_of kind ++ (codes "." ++ (name ++ what))

-- what is found
abbrev pub found_text : DeckSources → DeckFinding → List ℕ
found_text sources (InRoutine kind finding) =
    name_of kind ++ (codes " " ++ in_routine_text (source_in sources kind) finding)
found_text sources (NeverSet kind name) = construct_text kind name (codes " NEVER SET")
found_text sources (NotEnabled name) = construct_text StorGrp name (codes " HAS NO ENABLED VOLUME")
found_text sources (NeverExpires name) = construct_text MgmtClas name (codes " NEVER EXPIRES WITHOUT RETPD")

-- the line of a finding
abbrev pub finding_line : DeckSources → DeckFinding → List ℕ
finding_line sources finding = found_text sources finding ++ codes "\n"

-- findings, a line each, and how many there are
abbrev pub findings_text : DeckSources → List DeckFinding → List ℕ
findings_text sources findings =
    flat_map (finding_line sources) findings ++ (codes "FINDINGS " ++ (decimal (length findings) ++ codes "\n"))
