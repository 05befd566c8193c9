-- What comes of a deck.
use Rattle.std.proofs.Common.{◌≡◌, ◌∙◌, ◌+◌, ap, arith, refl, List, [], ◌∷◌, ℕ, length, map, inl, inr}
use Rattle.std.specs.Prelude.{◌&&◌, find, nat_lt, option_map, Option, None, Some, MatchOption}
use Rattle.desk_common.specs.Exact.{MayRefuse}
use Rattle.sms_construct.specs.Configuration.{Configuration}
use Rattle.sms_construct.specs.declared.extent.Extent.{Extent}
use Rattle.sms_construct.specs.declared.fault.Fault.{Fault}
use Rattle.sms_construct.specs.declared.reply.Reply.{Reply}
use Rattle.sms_construct.specs.declared.reply.Reply.TheVariants as replies
use Rattle.sms_construct.specs.declared.vol_row.VolRow.{VolRow}
use Rattle.sms_construct.specs.declared.volume.VolumeDef.{VolumeDef}
use Rattle.deck_meaning.specs.Reading.{Configures, HasFirstFault, TellsFirstFault}
use Rattle.deck_meaning.specs.declared.deck_err.DeckErr.TheVariants as errors
use Rattle.desk_law.specs.Activation.{ActivateRule, ConfigurationRule, activated, first_barred}
use Rattle.desk_law.specs.Display.{shown_volume}
use Rattle.desk_law.specs.Extents.{extents_of, is_used, pieces_on}
use Rattle.desk_law.specs.Replies.{Leaves, Makes}
use Rattle.desk_law.specs.State.{DeskState}
use Rattle.desk_law.specs.Volumes.{tracks_of, volumes_in}
use Rattle.http_flow.specs.declared.page.Page.{Page}
use Rattle.desk_pages.specs.DeskPages.{IsCheckPage, checked_page}
use Rattle.desk_pages.specs.Checking.{Comes, IsBarred, IsPassed, bars}

-- a volume is used where it holds an extent
used_shown : (volser : List ℕ) (extents : List Extent) → nat_lt 0 (length (pieces_on volser extents)) ≡ is_used volser extents
used_shown volser [] = refl
used_shown volser (x ∷ xs) = let rest = used_shown volser xs in grind (arith, rest)

find_barred : (s : DeskState) (config : Configuration) (volumes : List VolumeDef) → find (bars config.volumes) (map (shown_volume s) volumes) ≡ option_map (shown_volume s) (find (λ (volume : VolumeDef). is_used volume.volser (extents_of s.sets) && nat_lt (tracks_of volume.volser config.volumes) volume.tracks) volumes)
find_barred s config [] = refl
find_barred s config (x ∷ xs) =
    let rest = find_barred s config xs in
    let same = used_shown x.volser (extents_of s.sets) in
    grind (arith, rest, same)

module _ (s : DeskState) (config : Configuration) where
  by_rule : (found : Option VolumeDef) (reply : Reply) (after : DeskState) → found ≡ first_barred s config → MatchOption found (Makes (activated s config) (replies.Activated (s.activations + 1)) reply after) (λ (volume : VolumeDef). Leaves s (replies.VolumeInUse volume.volser) reply after) → ConfigurationRule s config reply after
  by_rule found reply after e h = rw e at h

  barred_by : (row : VolRow) (found : Option VolumeDef) → found ≡ first_barred s config → Some row ≡ option_map (shown_volume s) found → IsBarred (ConfigurationRule s config) (replies.VolumeInUse row.volser)
  barred_by row None e is = absurd (cc is)
  barred_by row (Some volume) e is =
      let same : row ≡ shown_volume s volume = cc is in
      record {
        after = s;
        by_rule = by_rule (Some volume) (replies.VolumeInUse row.volser) s e (record { reply_is = ap (λ (r : VolRow). replies.VolumeInUse r.volser) same; after_is = refl });
        other = refl;
      }

  passed_by : (found : Option VolumeDef) → found ≡ first_barred s config → None ≡ option_map (shown_volume s) found → IsPassed (ConfigurationRule s config)
  passed_by None e is = record {
    count = s.activations + 1;
    after = activated s config;
    by_rule = by_rule None (replies.Activated (s.activations + 1)) (activated s config) e (record { reply_is = refl; after_is = refl });
  }
  passed_by (Some volume) e is = absurd (cc is)

  -- the first row that bars the configuration, or none
  pub comes_barred : (rows : List VolRow) (volumes : List VolumeDef) (row : VolRow) → rows ≡ map (shown_volume s) (volumes_in s.active) → volumes ≡ config.volumes → Some row ≡ find (bars volumes) rows → Comes (ConfigurationRule s config) (Some (replies.VolumeInUse row.volser))
  comes_barred rows volumes row is are found =
      barred_by row (first_barred s config) refl (found ∙ ap (λ v. find (bars v) rows) are ∙ ap (λ l. find (bars config.volumes) l) is ∙ find_barred s config (volumes_in s.active))

  pub comes_passed : (rows : List VolRow) (volumes : List VolumeDef) → rows ≡ map (shown_volume s) (volumes_in s.active) → volumes ≡ config.volumes → None ≡ find (bars volumes) rows → Comes (ConfigurationRule s config) None
  comes_passed rows volumes is are found =
      passed_by (first_barred s config) refl (found ∙ ap (λ v. find (bars v) rows) are ∙ ap (λ l. find (bars config.volumes) l) is ∙ find_barred s config (volumes_in s.active))

-- what comes of a configuration comes of its deck
pub comes_of_deck : (s : DeskState) (deck : List ℕ) (config : Configuration) (found : Option Reply) → Configures deck config → Comes (ConfigurationRule s config) found → Comes (ActivateRule s deck) found
comes_of_deck s deck config None configures h = record { count = h.count; after = h.after; by_rule = inr (record { config = config; configures = configures; rule = h.by_rule }) }
comes_of_deck s deck config (Some reply) configures h = record { after = h.after; by_rule = inr (record { config = config; configures = configures; rule = h.by_rule }); other = h.other }

told_fault : (deck : List ℕ) (fault : Fault) → MayRefuse (TellsFirstFault deck) (Some errors.NoMemory) (errors.Fault fault) → HasFirstFault deck fault
told_fault deck fault (inl h) = h
told_fault deck fault (inr w) = absurd (cc w)

-- a fault of the deck
pub comes_faulted : (s : DeskState) (deck : List ℕ) (fault : Fault) (reply : Reply) → MayRefuse (TellsFirstFault deck) (Some errors.NoMemory) (errors.Fault fault) → reply ≡ replies.Deck fault → Comes (ActivateRule s deck) (Some reply)
comes_faulted s deck fault reply may is = record {
  after = s;
  by_rule = inl (record { fault = fault; found = told_fault deck fault may; leaves = record { reply_is = is; after_is = refl } });
  other = rw is refl;
}

-- the page of what comes of a deck
pub page_of_check : (s : DeskState) (deck bytes : List ℕ) (found : Option Reply) (page : Page) → deck ≡ bytes → Comes (ActivateRule s deck) found → page ≡ checked_page found → IsCheckPage s bytes page
page_of_check s deck bytes found page is comes shown = record { reply = found; comes = rw is at comes; page_is = shown }
