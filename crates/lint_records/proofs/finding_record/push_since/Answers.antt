-- The place is the JSON.
use Rattle.std.proofs.Common.{◌≡◌, ◌++◌, ◌∙◌, ℕ, List, ap, subst, sym}
use Rattle.std.specs.Prelude.{OnOk, Option}
use Rattle.acs_places.specs.declared.place.Place.{Place}
use Rattle.serde_json.specs.Written.{compact_text}
use Rattle.lint_records.specs.FindingRecords.{since_value}
use Rattle.lint_records.proofs.PieceLemmas.{place_is}
use Rattle.lint_records.proofs.finding_record.push_since.Goals as goal

pub returns-in-Some : goal.returns-in-Some
returns-in-Some c =
    let same = place_is c.in-Some.place ∙ ap (λ (since : Option Place). compact_text (since_value since)) (sym c.in-Some.is) in
    subst (λ (t : List ℕ). OnOk c.push_place.result (c.push_place.new.text.items ≡ c.args.text.now.items ++ t)) same c.push_place.ensures
