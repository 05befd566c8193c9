-- Extents on a volume, data set by data set.
use Rattle.std.proofs.Common.{◌≡◌, ◌∙◌, ◌++◌, ◌∷◌, ℕ, List, [], refl, ap}
use Rattle.std.specs.Prelude.{Option, None, Some}
use Rattle.std.proofs.lemmas.List.{flat_map_more}
use Rattle.sms_construct.specs.declared.data_set.DataSet.{DataSet}
use Rattle.page_text.specs.declared.set_extent.SetExtent.{SetExtent}
use Rattle.desk_state.specs.Following.{IsFirstBehind, IsLastName}
use Rattle.desk_pages.specs.Listing.{IsWalk, last_name}
use Rattle.desk_pages.specs.Lying.{AreFound, lying_in, lying_of}
use Rattle.desk_pages.proofs.ListingLaws.{walk_more, last_more}

-- the extents of the data sets up to a name
pub record AreFoundTo (sets : List DataSet) (volser : List ℕ) (from : ℕ) (at : Option (List ℕ)) (extents : List SetExtent) : Type 0 where
  pub all : List DataSet
  pub walks : IsWalk sets None all
  pub at_is : last_name None all ≡ at
  pub extents_are : extents ≡ lying_of volser from all

pub found_none : (sets : List DataSet) (volser : List ℕ) (from : ℕ) → AreFoundTo sets volser from None []
found_none sets volser from = record { all = []; walks = tt; at_is = refl; extents_are = refl }

module _ (sets : List DataSet) (volser : List ℕ) (from : ℕ) (at : Option (List ℕ)) (extents : List SetExtent) (h : AreFoundTo sets volser from at extents) where
  -- those of the next data set behind them
  pub found_more : (set : DataSet) (extents' : List SetExtent) → IsFirstBehind at sets set → extents' ≡ extents ++ lying_in volser from set.dsn set.extents → AreFoundTo sets volser from (Some set.dsn) extents'
  found_more set extents' first is =
      let f : DataSet → List SetExtent = λ (one : DataSet). lying_in volser from one.dsn one.extents in
      record {
        all = h.all ++ set ∷ [];
        walks = walk_more sets None h.all set h.walks (rw h.at_is first);
        at_is = last_more None h.all set;
        extents_are = is ∙ ap (λ l. l ++ lying_in volser from set.dsn set.extents) h.extents_are ∙ flat_map_more f [] h.all set;
      }

  -- no data set is left
  pub found_all : IsLastName at sets → AreFound sets volser from extents
  found_all last = record { all = h.all; are_all = record { walks = h.walks; last = rw h.at_is last }; extents_are = h.extents_are }
