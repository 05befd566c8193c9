-- The texts of a deck's routines.
use Rattle.std.specs.Prelude.{◌≡◌, ℕ, List, [], Option, None, Some}
use Rattle.toml.specs.Data.{Members}
use Rattle.acs_telling.specs.Sources.{IsSource}
use Rattle.acs_telling.specs.declared.source.Source.{Source}
use Rattle.acs_tree.specs.declared.kind.Kind.{Kind}
use Rattle.acs_tree.specs.declared.kind.Kind.TheVariants.{DataClas, StorClas, MgmtClas, StorGrp}
use Rattle.deck_meaning.specs.Outcomes.{source_of}
use Rattle.deck_meaning.specs.Reading.{MeansTable}
use Rattle.sms_explain.specs.declared.deck_sources.DeckSources.{DeckSources}

-- the source of the routine of a kind
abbrev pub source_in : DeckSources → Kind → Source
source_in sources DataClas = sources.dataclas
source_in sources StorClas = sources.storclas
source_in sources MgmtClas = sources.mgmtclas
source_in sources StorGrp = sources.storgrp

-- the source is the text with its tokens at their places, or empty where there is no text
abbrev pub IsSourceOf : Option (List ℕ) → Source → Type 0
IsSourceOf None source = (source.text ≡ []) × (source.spots ≡ [])
IsSourceOf (Some text) source = IsSource text source

-- the sources of the routines of a deck
pub record AreSources (deck : List ℕ) (sources : DeckSources) : Type 0 where
  pub top : Members
  pub means : MeansTable deck top
  pub dataclas : IsSourceOf (source_of DataClas top) sources.dataclas
  pub storclas : IsSourceOf (source_of StorClas top) sources.storclas
  pub mgmtclas : IsSourceOf (source_of MgmtClas top) sources.mgmtclas
  pub storgrp : IsSourceOf (source_of StorGrp top) sources.storgrp
