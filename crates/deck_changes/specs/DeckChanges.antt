-- What a deck changes of the active configuration (docs/manual/smsd.md, "Check of a deck").
use Rattle.std.specs.Prelude.{◌≡◌, ◌⊎◌, ℕ, List, [], ◌++◌, Option, None, Some, codes, map}
use Rattle.deck_meaning.specs.Reading.{Configures, HasFirstFault}
use Rattle.sms_construct.specs.Configuration.{Configuration}
use Rattle.sms_construct.specs.declared.fault.Fault.{Fault}
use Rattle.sms_explain.specs.DeckTexts.{AreSources}
use Rattle.sms_explain.specs.declared.deck_sources.DeckSources.{DeckSources}
use Rattle.deck_changes.specs.DeckLines.{data_class_line, group_line, management_class_line, name_lines}
use Rattle.deck_changes.specs.DeckLines.{storage_class_line, volume_line}
use Rattle.deck_changes.specs.Differences.{difference}
use Rattle.deck_changes.specs.RoutineChanges.{routines_change}

-- what becomes of the names of the system and of the sysplex
abbrev pub names_change : Configuration → Configuration → List ℕ
names_change before after =
    difference (name_lines (codes "SYSTEM ") before.system) (name_lines (codes "SYSTEM ") after.system)
    ++ difference (name_lines (codes "SYSPLEX ") before.sysplex) (name_lines (codes "SYSPLEX ") after.sysplex)

-- what becomes of the classes
abbrev pub classes_change : Configuration → Configuration → List ℕ
classes_change before after =
    difference (map data_class_line before.data_classes) (map data_class_line after.data_classes)
    ++ (difference (map storage_class_line before.storage_classes) (map storage_class_line after.storage_classes)
    ++ difference (map management_class_line before.management_classes)
    (map management_class_line after.management_classes))

-- what becomes of the storage groups and of the volumes
abbrev pub places_change : Configuration → Configuration → List ℕ
places_change before after =
    difference (map group_line before.groups) (map group_line after.groups)
    ++ difference (map volume_line before.volumes) (map volume_line after.volumes)

-- what a configuration changes of another, where their routines have these texts
abbrev pub changes_text : Configuration → Configuration → DeckSources → DeckSources → List ℕ
changes_text before after old new =
    names_change before after ++ (classes_change before after ++ (places_change before after ++ routines_change old new))

-- the text is that of what a configuration changes of another
pub record AreChanges (before after : Configuration) (text : List ℕ) : Type 0 where
  pub old : DeckSources
  pub new : DeckSources
  pub old_texts : AreSources before.deck old
  pub new_texts : AreSources after.deck new
  pub text_is : text ≡ changes_text before after old new

-- the text is that of what the deck's configuration changes of the active one
pub record IsChanging (active : Configuration) (deck text : List ℕ) : Type 0 where
  pub config : Configuration
  pub configured : Configures deck config
  pub changes : AreChanges active config text

-- the deck has a fault, and there is no text
pub record IsRefused (deck text : List ℕ) : Type 0 where
  pub fault : Fault
  pub faulty : HasFirstFault deck fault
  pub none : text ≡ []

-- the text is that of what the deck changes of this configuration
abbrev pub IsChangedBy : Configuration → List ℕ → List ℕ → Type 0
IsChangedBy active deck text = IsChanging active deck text ⊎ IsRefused deck text

-- the text is that of what the deck changes of what is active; there is none where nothing is
abbrev pub IsDifference : Option Configuration → List ℕ → List ℕ → Type 0
IsDifference None deck text = text ≡ []
IsDifference (Some active) deck text = IsChangedBy active deck text
