-- The runs of a classification as text (docs/manual/tool.md, "Explaining a script").
use Rattle.std.specs.Prelude.{◌++◌, ℕ, List, [], ◌∷◌, codes, decimal, flat_map}
use Rattle.desk_common.specs.Bytes.{space_byte}
use Rattle.acs_telling.specs.Telling.{events_text}
use Rattle.acs_tree.specs.Variables.{name_of}
use Rattle.acs_tree.specs.declared.ending.Ending.{Ending}
use Rattle.acs_tree.specs.declared.ending.Ending.TheVariants.{Falls, Exit}
use Rattle.acs_tree.specs.declared.values.Values.{Values}
use Rattle.sms_script.specs.NameText.{spaced, value_text}
use Rattle.sms_story.specs.declared.run.Run.{Run}
use Rattle.sms_explain.specs.DeckTexts.{source_in}
use Rattle.sms_explain.specs.declared.deck_sources.DeckSources.{DeckSources}

-- storage groups with a blank before each
abbrev pub groups_text : List (List ℕ) → List ℕ
groups_text groups = flat_map (λ group. space_byte ∷ group) groups

-- what the read-write variables hold: the three classes, and the storage groups behind them
abbrev pub values_text : Values → List ℕ
values_text values =
    spaced (value_text values.dataclas ∷ value_text values.storclas ∷ value_text values.mgmtclas ∷ [])
    ++ groups_text values.groups

-- how a run ended
abbrev pub ending_text : Ending → List ℕ
ending_text Falls = codes "END"
ending_text (Exit code) = spaced (codes "EXIT" ∷ decimal code ∷ [])

-- the line before a run
abbrev pub begin_text : Run → List ℕ
begin_text run = spaced (name_of run.kind ∷ codes "BEGIN" ∷ values_text run.begins ∷ []) ++ codes "\n"

-- the line behind a run
abbrev pub end_text : Run → List ℕ
end_text run = spaced (name_of run.kind ∷ ending_text run.ending ∷ values_text run.ends ∷ []) ++ codes "\n"

-- a run: what held at its begin, what happened, and what held at its end
abbrev pub run_text : DeckSources → Run → List ℕ
run_text sources run = begin_text run ++ events_text (source_in sources run.kind) run.events ++ end_text run
