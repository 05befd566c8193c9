-- What is told of a finding (docs/manual/tool.md, "Linting a deck").
use Rattle.std.specs.Prelude.{ℕ, List, Option, None, Some, codes}
use Rattle.acs_lint.specs.declared.finding.Finding.{Finding}
use Rattle.acs_lint.specs.declared.finding.Finding.TheVariants.{Covered, Behind, Spare, Quoted, Unused}
use Rattle.acs_places.specs.declared.place.Place.{Place}
use Rattle.acs_telling.specs.Sources.{spot_at, word_at}
use Rattle.acs_telling.specs.declared.source.Source.{Source}
use Rattle.acs_tree.specs.Variables.{name_of}
use Rattle.acs_tree.specs.declared.kind.Kind.{Kind}
use Rattle.acs_tree.specs.declared.kind.Kind.TheVariants.{MgmtClas, StorGrp}
use Rattle.sms_construct.specs.Keys.{key_of}
use Rattle.sms_explain.specs.DeckTexts.{source_in}
use Rattle.sms_explain.specs.declared.deck_sources.DeckSources.{DeckSources}
use Rattle.sms_lint.specs.declared.deck_finding.DeckFinding.{DeckFinding}
use Rattle.sms_lint.specs.declared.deck_finding.DeckFinding.TheVariants.{InRoutine, NeverExpires, NeverSet, NotEnabled}

-- a finding: the routine's kind or the key of the construct's table, the word or the construct's name, the word's
-- place, what is found, and the place that makes it so
pub record Told : Type 0 where
  pub at : List ℕ
  pub name : List ℕ
  pub place : Option Place
  pub what : List ℕ
  pub since : Option Place

-- the place of a token
abbrev pub place_at : Source → ℕ → Place
place_at source at = (spot_at source at).place

-- what is found at a token of a routine
abbrev pub told_at : List ℕ → Source → ℕ → List ℕ → Told
told_at routine source at what = record {
  at = routine;
  name = word_at source at;
  place = Some (place_at source at);
  what = what;
  since = None;
}

-- what is found at a token of a routine, and the token that makes it so
abbrev pub told_since : List ℕ → Source → ℕ → List ℕ → ℕ → Told
told_since routine source at what since = record {
  at = routine;
  name = word_at source at;
  place = Some (place_at source at);
  what = what;
  since = Some (place_at source since);
}

-- what is found on a construct of a kind
abbrev pub told_on : Kind → List ℕ → List ℕ → Told
told_on kind name what = record { at = key_of kind; name = name; place = None; what = what; since = None }

-- what is found in a routine
abbrev pub told_in : List ℕ → Source → Finding → Told
told_in routine source (Covered arm since) = told_since routine source arm (codes "NEVER TAKEN") since
told_in routine source (Behind statement since) = told_since routine source statement (codes "NEVER RUN") since
told_in routine source (Spare entry since) = told_since routine source entry (codes "NOT NEEDED") since
told_in routine source (Quoted literal) = told_at routine source literal (codes "COMPARED AS IT STANDS")
told_in routine source (Unused list) = told_at routine source list (codes "NEVER USED")

-- what is found in a deck
abbrev pub told : DeckSources → DeckFinding → Told
told sources (InRoutine kind finding) = told_in (name_of kind) (source_in sources kind) finding
told sources (NeverSet kind name) = told_on kind name (codes "NEVER SET")
told sources (NotEnabled name) = told_on StorGrp name (codes "HAS NO ENABLED VOLUME")
told sources (NeverExpires name) = told_on MgmtClas name (codes "NEVER EXPIRES WITHOUT RETPD")
