-- A volume among those that are shown.
use Rattle.std.proofs.Common.{◌≡◌, ◌∙◌, ap, List, [], ◌∷◌, ℕ, map, refl, arith}
use Rattle.std.specs.Prelude.{bytes_eq, find, option_map, Option, None, Some}
use Rattle.sms_construct.specs.declared.vol_row.VolRow.{VolRow}
use Rattle.sms_construct.specs.declared.volume.VolumeDef.{VolumeDef}
use Rattle.desk_law.specs.Display.{shown_volume}
use Rattle.desk_law.specs.State.{DeskState}
use Rattle.desk_law.specs.Volumes.{volume_named, volumes_in}
use Rattle.http_flow.specs.declared.page.Page.{Page}
use Rattle.desk_pages.specs.DeskPages.{IsVolumePage, ShowsTracks, no_volume_page}

pub find_shown : (s : DeskState) (volser : List ℕ) (volumes : List VolumeDef) → find (λ (row : VolRow). bytes_eq row.volser volser) (map (shown_volume s) volumes) ≡ option_map (shown_volume s) (find (λ (volume : VolumeDef). bytes_eq volume.volser volser) volumes)
find_shown s volser [] = refl
find_shown s volser (x ∷ xs) = let rest = find_shown s volser xs in grind (arith, rest)

page_shown : (s : DeskState) (row : VolRow) (found : Option VolumeDef) (from : ℕ) (page : Page) → Some row ≡ option_map (shown_volume s) found → ShowsTracks s row from page → IsVolumePage s found from page
page_shown s row None from page e h = absurd (cc e)
page_shown s row (Some volume) from page e h = let is : row ≡ shown_volume s volume = cc e in rw is at h

page_none : (s : DeskState) (found : Option VolumeDef) (from : ℕ) (page : Page) → None ≡ option_map (shown_volume s) found → page ≡ no_volume_page → IsVolumePage s found from page
page_none s None from page e is = is
page_none s (Some volume) from page e is = absurd (cc e)

-- the page of a volume whose row was found, or wasn't
pub page_found : (s : DeskState) (volser : List ℕ) (row : VolRow) (rows : List VolRow) (from : ℕ) (page : Page) → rows ≡ map (shown_volume s) (volumes_in s.active) → Some row ≡ find (λ (row : VolRow). bytes_eq row.volser volser) rows → ShowsTracks s row from page → IsVolumePage s (volume_named s volser) from page
page_found s volser row rows from page is found h =
    page_shown s row (volume_named s volser) from page (found ∙ ap (λ l. find (λ (row : VolRow). bytes_eq row.volser volser) l) is ∙ find_shown s volser (volumes_in s.active)) h

pub page_missing : (s : DeskState) (volser : List ℕ) (rows : List VolRow) (from : ℕ) (page : Page) → rows ≡ map (shown_volume s) (volumes_in s.active) → None ≡ find (λ (row : VolRow). bytes_eq row.volser volser) rows → page ≡ no_volume_page → IsVolumePage s (volume_named s volser) from page
page_missing s volser rows from page is found none =
    page_none s (volume_named s volser) from page (found ∙ ap (λ l. find (λ (row : VolRow). bytes_eq row.volser volser) l) is ∙ find_shown s volser (volumes_in s.active)) none
