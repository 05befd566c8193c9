-- The files of the desk's page, as they are (docs/manual/page.md).
use Rattle.std.specs.Prelude.{ℕ, List}
use Rattle.page_files.specs.declared.markup.TheConstants.{MARKUP}
use Rattle.page_files.specs.declared.script.TheConstants.{SCRIPT}
use Rattle.page_files.specs.declared.style.TheConstants.{STYLE}

-- the markup
abbrev pub markup_file : List ℕ
markup_file = MARKUP.now

-- the style sheet
abbrev pub style_file : List ℕ
style_file = STYLE.now

-- the script
abbrev pub script_file : List ℕ
script_file = SCRIPT.now
