-- The last entries of a journal (docs/manual/smsd.md, "What pages show").
use Rattle.std.specs.Prelude.{List, reverse, take}
use Rattle.sms_construct.specs.declared.entry.Entry.{Entry}
use Rattle.desk_pages.specs.Listing.{most_shown}

-- the last entries of a journal, the last of all first, as many as a page shows
abbrev pub newest : List Entry → List Entry
newest journal = take most_shown (reverse journal)
