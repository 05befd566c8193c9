-- The parts of pages are their JSON.
use Rattle.std.proofs.Common.{◌≡◌, ◌++◌, ℕ, List, refl, ap, append_assoc, ◌∙◌}
use Rattle.std.specs.Prelude.{codes, Option, None, Some}
use Rattle.json.specs.Print.{escape_byte}
use Rattle.sms_construct.specs.declared.extent.Extent.{Extent}
use Rattle.sms_construct.specs.declared.data_set.DataSet.{DataSet}
use Rattle.sms_construct.specs.declared.vol_row.VolRow.{VolRow}
use Rattle.page_text.specs.declared.group_row.GroupRow.{GroupRow}
use Rattle.page_text.specs.PageBodies.{health_body, group_body, groups_body, extent_body, volume_body, volumes_body, set_body, sets_body, deck_body, desk_body, error_body, no_deck_body}
use Rattle.page_text.specs.Inner.Pieces.{group_piece, groups_text, extent_piece, volume_front, volume_rest, volumes_text, set_front, set_rest, sets_text, deck_text, desk_text, error_text, refusal_line, refusal_rest}
use Rattle.page_text.specs.RefusalText.{refusal_with}

pub extent_is : (extent : Extent) → extent_piece extent ≡ extent_body extent
unfolding escape_byte
extent_is extent = refl

pub volume_is : (row : VolRow) → volume_front row ++ volume_rest row ≡ volume_body row
unfolding escape_byte
volume_is row = simp append_assoc refl

pub volumes_is : (rows : List VolRow) → volumes_text rows ≡ volumes_body rows
unfolding escape_byte
volumes_is rows = refl

pub set_is : (set : DataSet) → set_front set ++ set_rest set ≡ set_body set
unfolding escape_byte
set_is set = simp append_assoc refl

pub sets_is : (sets : List DataSet) (after : Option (List ℕ)) → sets_text sets after ≡ sets_body sets after
unfolding escape_byte
sets_is sets after = refl

pub desk_is : (activations : Option ℕ) (entries volumes : ℕ) → desk_text activations entries volumes ≡ desk_body activations entries volumes
unfolding escape_byte
desk_is activations entries volumes = refl

pub deck_is : (deck : List ℕ) → deck_text deck ≡ deck_body deck
unfolding escape_byte
deck_is deck = refl

pub no_deck_is : codes "{\"deck\":null}" ≡ no_deck_body
unfolding escape_byte
no_deck_is = refl

pub error_is : (sentence : List ℕ) → error_text sentence ≡ error_body sentence
unfolding escape_byte
error_is sentence = refl

pub refusal_is : (status : ℕ) (body : List ℕ) → refusal_line status ++ refusal_rest body ≡ refusal_with status body
refusal_is status body = simp append_assoc refl

pub group_is : (row : GroupRow) → group_piece row ≡ group_body row
unfolding escape_byte
group_is row = refl

pub groups_is : (rows : List GroupRow) → groups_text rows ≡ groups_body rows
unfolding escape_byte
groups_is rows = refl

pub health_is : codes "{\"health\":\"ok\"}" ≡ health_body
unfolding escape_byte
health_is = refl
