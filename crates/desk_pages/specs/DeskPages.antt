-- What pages of a desk show (docs/manual/smsd.md, "What pages show").
use Rattle.std.specs.Prelude.{ℕ, ◌≡◌, List, Option, None, Some, codes, length, map, Bool, true, false, option_map}
use Rattle.std.specs.Prelude.{slice_get, take, unwrap_or}
use Rattle.http_flow.specs.declared.page.Page.{Page}
use Rattle.http_flow.specs.declared.page.PageStatus.TheVariants as statuses
use Rattle.http_flow.specs.declared.page_kind.PageKind.TheVariants as kinds
use Rattle.http_page.specs.Pages.{PageAsk}
use Rattle.page_files.specs.Files.{markup_file, script_file, style_file}
use Rattle.page_paths.specs.Paths.{page_path_of}
use Rattle.page_paths.specs.declared.page_path.PagePath.{PagePath}
use Rattle.page_paths.specs.declared.page_path.PagePath.TheVariants as paths
use Rattle.page_text.specs.AnswerBodies.{answers_body, barred_body, passed_body}
use Rattle.page_text.specs.GroupBodies.{shown_groups_body}
use Rattle.page_text.specs.PageBodies.{deck_body, desk_body, health_body, no_deck_body, set_body}
use Rattle.page_text.specs.PageBodies.{sets_body, volumes_body}
use Rattle.page_text.specs.TrackBodies.{tracks_body}
use Rattle.page_text.specs.declared.set_extent.SetExtent.{SetExtent}
use Rattle.sms_construct.specs.Configuration.{Configuration}
use Rattle.sms_construct.specs.declared.data_set.DataSet.{DataSet}
use Rattle.sms_construct.specs.declared.entry.Entry.{Entry}
use Rattle.sms_construct.specs.declared.reply.Reply.{Reply}
use Rattle.sms_construct.specs.declared.vol_row.VolRow.{VolRow}
use Rattle.sms_construct.specs.declared.volume.VolumeDef.{VolumeDef}
use Rattle.desk_law.specs.Activation.{ActivateRule}
use Rattle.desk_law.specs.Display.{shown_volume}
use Rattle.desk_law.specs.State.{DeskState, set_named}
use Rattle.desk_law.specs.Volumes.{groups_in, volume_named, volumes_in}
use Rattle.desk_pages.specs.Checking.{Comes}
use Rattle.desk_pages.specs.Groups.{shown_group}
use Rattle.desk_pages.specs.Listing.{IsListing, most_shown}
use Rattle.desk_pages.specs.Lying.{AreLying, gaps_beside}
use Rattle.desk_pages.specs.Newest.{newest}
use Rattle.desk_pages.specs.Shown.{filed, refusing, showing}
use Rattle.desk_pages.specs.Trials.{IsTrialPage, alloc_asked}

-- there is no page at the path
abbrev pub missing_page : Page
missing_page = refusing statuses.Missing (codes "there is no page at this path")

-- a segment of the path isn't as the page asks
abbrev pub bad_page : Page
bad_page = refusing statuses.Bad (codes "a segment of this path is no name, serial, number or mask")

-- the page isn't there for POST
abbrev pub not_allowed_page : Page
not_allowed_page = refusing statuses.NotAllowed (codes "this page is read by GET")

-- the page is there for POST alone
abbrev pub posted_alone_page : Page
posted_alone_page = refusing statuses.NotAllowed (codes "this page is asked by POST")

-- there is no such volume
abbrev pub no_volume_page : Page
no_volume_page = refusing statuses.Missing (codes "no active volume has this serial")

-- there is no such data set
abbrev pub no_set_page : Page
no_set_page = refusing statuses.Missing (codes "no data set of this name is catalogued")

-- the desk: its activations, its entries and its active volumes
abbrev pub desk_page : DeskState → ℕ → Page
desk_page s entries =
    showing (desk_body (option_map (λ config. s.activations) s.active) entries (length (volumes_in s.active)))

-- the text of the active deck
abbrev pub deck_page : Option Configuration → Page
deck_page None = showing no_deck_body
deck_page (Some config) = showing (deck_body config.deck)

-- all storage groups
abbrev pub groups_page : DeskState → Page
groups_page s =
    showing (shown_groups_body (map (shown_group (map (shown_volume s) (volumes_in s.active))) (groups_in s.active)))

-- all volumes
abbrev pub volumes_page : DeskState → Page
volumes_page s = showing (volumes_body (map (shown_volume s) (volumes_in s.active)))

-- where the next page of a volume begins: at the first extent that isn't shown, if there is one
abbrev pub next_of : List SetExtent → Option ℕ
next_of extents = option_map (λ extent. extent.start) (slice_get extents most_shown)

-- the tracks of a volume from one on, with the first of the extents there, up to the next page or the volume's end
abbrev pub tracks_page : VolRow → ℕ → List SetExtent → Page
tracks_page row from extents =
    showing
    (tracks_body row (take most_shown extents)
    (gaps_beside (unwrap_or (next_of extents) row.capacity) from (take most_shown extents)) (next_of extents))

-- the page shows the tracks of a volume from one on
pub record ShowsTracks (s : DeskState) (row : VolRow) (from : ℕ) (page : Page) : Type 0 where
  pub extents : List SetExtent
  pub lying : AreLying s.sets row.volser from extents
  pub page_is : page ≡ tracks_page row from extents

-- a volume from a track on, if it is there
abbrev pub IsVolumePage : DeskState → Option VolumeDef → ℕ → Page → Type 0
IsVolumePage s None from page = page ≡ no_volume_page
IsVolumePage s (Some volume) from page = ShowsTracks s (shown_volume s volume) from page

-- a data set, if it is there
abbrev pub set_page : Option DataSet → Page
set_page None = no_set_page
set_page (Some set) = showing (set_body set)

-- data sets that fit a mask, behind a name
pub record IsSetsPage (s : DeskState) (mask from : Option (List ℕ)) (page : Page) : Type 0 where
  pub shown : List DataSet
  pub after : Option (List ℕ)
  pub listing : IsListing s.sets mask from shown after
  pub page_is : page ≡ showing (sets_body shown after)

-- the last entries of the journal
abbrev pub answers_page : List Entry → Page
answers_page journal = showing (answers_body (newest journal))

-- the check of a deck: it would be active, or gets this reply instead
abbrev pub checked_page : Option Reply → Page
checked_page None = showing passed_body
checked_page (Some reply) = showing (barred_body reply)

-- the page says what a fresh ACTIVATE of the deck would be answered
pub record IsCheckPage (s : DeskState) (deck : List ℕ) (page : Page) : Type 0 where
  pub reply : Option Reply
  pub comes : Comes (ActivateRule s deck) reply
  pub page_is : page ≡ checked_page reply

-- the page that is read at a path
abbrev pub IsGotten : DeskState → List Entry → PagePath → Page → Type 0
IsGotten s journal paths.Home page = page ≡ filed kinds.Markup markup_file
IsGotten s journal paths.Style page = page ≡ filed kinds.Style style_file
IsGotten s journal paths.Script page = page ≡ filed kinds.Script script_file
IsGotten s journal paths.Desk page = page ≡ desk_page s (length journal)
IsGotten s journal paths.Health page = page ≡ showing health_body
IsGotten s journal paths.Answers page = page ≡ answers_page journal
IsGotten s journal paths.Check page = page ≡ posted_alone_page
IsGotten s journal (paths.Trial shows job dsn) page = page ≡ posted_alone_page
IsGotten s journal paths.Deck page = page ≡ deck_page s.active
IsGotten s journal paths.Groups page = page ≡ groups_page s
IsGotten s journal paths.Volumes page = page ≡ volumes_page s
IsGotten s journal (paths.Volume volser from) page = IsVolumePage s (volume_named s volser) from page
IsGotten s journal (paths.Sets mask after) page = IsSetsPage s mask after page
IsGotten s journal (paths.Set dsn) page = page ≡ set_page (set_named dsn s.sets)
IsGotten s journal paths.Bad page = page ≡ bad_page
IsGotten s journal paths.Missing page = page ≡ missing_page

-- the page at a path that is asked for by POST, with this body
abbrev pub IsPosted : DeskState → List ℕ → PagePath → Page → Type 0
IsPosted s body paths.Home page = page ≡ not_allowed_page
IsPosted s body paths.Style page = page ≡ not_allowed_page
IsPosted s body paths.Script page = page ≡ not_allowed_page
IsPosted s body paths.Desk page = page ≡ not_allowed_page
IsPosted s body paths.Health page = page ≡ not_allowed_page
IsPosted s body paths.Answers page = page ≡ not_allowed_page
IsPosted s body paths.Check page = IsCheckPage s body page
IsPosted s body (paths.Trial shows job dsn) page = IsTrialPage shows s.active job (alloc_asked dsn body) page
IsPosted s body paths.Deck page = page ≡ not_allowed_page
IsPosted s body paths.Groups page = page ≡ not_allowed_page
IsPosted s body paths.Volumes page = page ≡ not_allowed_page
IsPosted s body (paths.Volume volser from) page = page ≡ not_allowed_page
IsPosted s body (paths.Sets mask after) page = page ≡ not_allowed_page
IsPosted s body (paths.Set dsn) page = page ≡ not_allowed_page
IsPosted s body paths.Bad page = page ≡ bad_page
IsPosted s body paths.Missing page = page ≡ missing_page

-- the page at a path, by POST with a body or not
abbrev pub IsPageAt : DeskState → List Entry → Bool → List ℕ → PagePath → Page → Type 0
IsPageAt s journal true body path page = IsPosted s body path page
IsPageAt s journal false body path page = IsGotten s journal path page

-- the page that answers what is asked, of a desk that stands so and has this journal
abbrev pub IsPage : DeskState → List Entry → PageAsk → Page → Type 0
IsPage s journal ask page = IsPageAt s journal ask.posts ask.body (page_path_of ask.path) page
