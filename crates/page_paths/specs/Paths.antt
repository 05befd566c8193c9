-- The paths of pages (docs/manual/smsd.md, "What pages show").
use Rattle.std.specs.Prelude.{ℕ, List, bytes_eq, codes, is_some, Option, None, Some, if◌then◌else◌, option_map}
use Rattle.dsn_mask.specs.DataSetName.{dsn_of}
use Rattle.dsn_mask.specs.MaskText.{mask_of}
use Rattle.dsn_mask.specs.Name.{name_of, volser_of}
use Rattle.http_head.specs.Segments.{segment}
use Rattle.sms_construct.specs.Numbers.{small_number_of}
use Rattle.page_paths.specs.declared.page_path.PagePath.{PagePath}
use Rattle.page_paths.specs.declared.page_path.PagePath.TheVariants as pages
use Rattle.page_paths.specs.declared.trial.Trial.{Trial}
use Rattle.page_paths.specs.declared.trial.Trial.TheVariants as trials

-- the page, where the path has no segment of this number
abbrev pub alone : ℕ → List ℕ → PagePath → PagePath
alone n path page = if is_some (segment n path) then pages.Missing else page

-- the page, unless a segment wasn't as asked
abbrev pub or_bad : Option PagePath → PagePath
or_bad None = pages.Bad
or_bad (Some page) = page

-- the page of a volume from the track on that a segment writes
abbrev pub track_at : List ℕ → List ℕ → Option (List ℕ) → PagePath
track_at path volser None = pages.Missing
track_at path volser (Some text) = alone 5 path (or_bad (option_map (pages.Volume volser) (small_number_of text)))

-- the same, or from the first track on where the path ends at the volume
abbrev pub behind_volume : List ℕ → List ℕ → Option (List ℕ) → PagePath
behind_volume path volser None = pages.Volume volser 0
behind_volume path volser (Some word) =
    if bytes_eq word (codes "FROM") then track_at path volser (segment 4 path) else pages.Missing

-- the same of the volume that the path has, if it is a serial
abbrev pub under_volume : List ℕ → Option (List ℕ) → PagePath
under_volume path None = pages.Bad
under_volume path (Some volser) = behind_volume path volser (segment 3 path)

-- the page of the volume that a segment names
abbrev pub volume_at : List ℕ → Option (List ℕ) → PagePath
volume_at path None = pages.Missing
volume_at path (Some text) = under_volume path (volser_of text)

-- the page of the data set that a segment names
abbrev pub set_at : List ℕ → Option (List ℕ) → PagePath
set_at path None = pages.Missing
set_at path (Some text) = alone 3 path (or_bad (option_map pages.Set (dsn_of text)))

-- the page of the data sets that fit a mask, behind the name that a segment has
abbrev pub after_at : List ℕ → List ℕ → Option (List ℕ) → PagePath
after_at path mask None = pages.Missing
after_at path mask (Some text) =
    alone 5 path (or_bad (option_map (λ dsn. pages.Sets (Some mask) (Some dsn)) (dsn_of text)))

-- the same, or from the first name on where the path ends at the mask
abbrev pub behind_mask : List ℕ → List ℕ → Option (List ℕ) → PagePath
behind_mask path mask None = pages.Sets (Some mask) None
behind_mask path mask (Some word) =
    if bytes_eq word (codes "AFTER") then after_at path mask (segment 4 path) else pages.Missing

-- the same under the mask that the path has, if it is one
abbrev pub under_mask : List ℕ → Option (List ℕ) → PagePath
under_mask path None = pages.Bad
under_mask path (Some mask) = behind_mask path mask (segment 3 path)

-- data sets: all, or those that fit the mask that a segment has
abbrev pub sets_at : List ℕ → Option (List ℕ) → PagePath
sets_at path None = pages.Sets None None
sets_at path (Some text) = under_mask path (mask_of text)

-- the page of what an ALLOC of this job for the data set that a segment names would come to
abbrev pub trial_of : List ℕ → Trial → List ℕ → Option (List ℕ) → PagePath
trial_of path shows job None = pages.Missing
trial_of path shows job (Some text) = alone 4 path (or_bad (option_map (pages.Trial shows job) (dsn_of text)))

-- the same of the job that the path has, if it is a name
abbrev pub under_job : List ℕ → Trial → Option (List ℕ) → PagePath
under_job path shows None = pages.Bad
under_job path shows (Some job) = trial_of path shows job (segment 3 path)

-- the page of what an ALLOC of the job that a segment names would come to
abbrev pub trial_at : List ℕ → Trial → Option (List ℕ) → PagePath
trial_at path shows None = pages.Missing
trial_at path shows (Some text) = under_job path shows (name_of text)

-- the page by the first word of its path, where it is a file of the desk's page
abbrev pub page_of_file : List ℕ → List ℕ → PagePath
page_of_file path word =
    if bytes_eq word (codes "") then alone 2 path pages.Home else
    if bytes_eq word (codes "DESK.CSS") then alone 2 path pages.Style else
    if bytes_eq word (codes "DESK.JS") then alone 2 path pages.Script else pages.Missing

-- the page by the first word of its path, where it shows what an ALLOC would come to
abbrev pub page_of_trial : List ℕ → List ℕ → PagePath
page_of_trial path word =
    if bytes_eq word (codes "CLASSIFY") then trial_at path trials.Classes (segment 2 path) else
    if bytes_eq word (codes "EXPLAIN") then trial_at path trials.Runs (segment 2 path) else page_of_file path word

-- the page by the first word of its path, where it shows some of the volumes or data sets
abbrev pub page_of_some : List ℕ → List ℕ → PagePath
page_of_some path word =
    if bytes_eq word (codes "VOLUME") then volume_at path (segment 2 path) else
    if bytes_eq word (codes "SETS") then sets_at path (segment 2 path) else
    if bytes_eq word (codes "SET") then set_at path (segment 2 path) else page_of_trial path word

-- the page by the first word of its path, where it shows what is active, or data sets
abbrev pub page_of_pool : List ℕ → List ℕ → PagePath
page_of_pool path word =
    if bytes_eq word (codes "DECK") then alone 2 path pages.Deck else
    if bytes_eq word (codes "GROUPS") then alone 2 path pages.Groups else
    if bytes_eq word (codes "VOLUMES") then alone 2 path pages.Volumes else page_of_some path word

-- the page by the first word of its path
abbrev pub page_by : List ℕ → Option (List ℕ) → PagePath
page_by path None = pages.Missing
page_by path (Some word) =
    if bytes_eq word (codes "DESK") then alone 2 path pages.Desk else
    if bytes_eq word (codes "HEALTH") then alone 2 path pages.Health else
    if bytes_eq word (codes "ANSWERS") then alone 2 path pages.Answers else
    if bytes_eq word (codes "CHECK") then alone 2 path pages.Check else page_of_pool path word

-- what a path asks to be shown
abbrev pub page_path_of : List ℕ → PagePath
page_path_of path = page_by path (segment 1 path)
