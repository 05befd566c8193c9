-- Filter lists (docs/manual/acs-language.md, "Filter lists").
use Rattle.std.specs.Prelude.{◌≡◌, ◌⊎◌, ◌&&◌, ◌||◌, ℕ, Bool, not, List, [], Any, bytes_eq}
use Rattle.std.specs.List.{list_any}
use Rattle.dsn_mask.specs.Mask.{MaskFits, SimpleFits}
use Rattle.dsn_mask.specs.MaskTest.{is_empty, mask_fits, simple_fits}
use Rattle.dsn_mask.specs.declared.entry.Entry.{Entry}
use Rattle.dsn_mask.specs.declared.entry.Entry.TheVariants.{Quoted, Dots, Plain}

-- a quoted entry fits its equal text, the others as masks
abbrev pub EntryFits : List ℕ → Entry → Type 0
EntryFits value (Quoted literal) = literal ≡ value
EntryFits value (Dots mask) = MaskFits mask value
EntryFits value (Plain simple) = SimpleFits simple value

-- some include entry fits or there is none, and no exclude entry fits
pub record PassesFilter (value : List ℕ) (include exclude : List Entry) : Type 0 where
  pub included : (include ≡ []) ⊎ Any (EntryFits value) include
  pub not_excluded : Any (EntryFits value) exclude → ⊥

-- the lists that an index was built from
pub record FilterLists : Type 0 where
  pub include : List Entry
  pub exclude : List Entry

-- the same as tests

-- the entry fits the value
abbrev pub entry_fits : List ℕ → Entry → Bool
entry_fits value (Quoted literal) = bytes_eq literal value
entry_fits value (Dots mask) = mask_fits mask value
entry_fits value (Plain simple) = simple_fits simple value

-- the value passes the filter of these entries
abbrev pub passes_filter : List ℕ → List Entry → List Entry → Bool
passes_filter value include exclude =
    (is_empty include || list_any (entry_fits value) include) && not (list_any (entry_fits value) exclude)
