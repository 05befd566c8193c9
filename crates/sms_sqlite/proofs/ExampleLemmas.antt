-- Databases whose tables are told, and some whose tables aren't: the definitions hold of what a desk finds.
use Rattle.std.proofs.Common.{◌≡◌, ◌==◌, ◌∙◌, true, false, cond, pos, [], ◌∷◌, Some, None, codes, ap, refl, inl, inr}
use Rattle.std.proofs.Common.{arith}
use Rattle.sqlite.specs.Effect.{Database}
use Rattle.sqlite.specs.declared.types.Value.TheVariants.{Int}
use Rattle.sqlite_schema.specs.declared.schema.View.{View as Stored}
use Rattle.sms_construct.specs.declared.data_set.DataSet.{DataSet}
use Rattle.sms_construct.specs.declared.eattr.Eattr.TheVariants as eattrs
use Rattle.sms_construct.specs.declared.extent.Extent.{Extent}
use Rattle.sms_construct.specs.declared.reply.Reply.TheVariants as replies
use Rattle.sms_construct.specs.declared.request.Op.TheVariants as ops
use Rattle.sms_construct.specs.declared.request.Request.{Request}
use Rattle.sms_construct.specs.declared.status.Status.TheVariants as statuses
use Rattle.sms_construct.specs.declared.target.Target.TheVariants as targets
use Rattle.sms_construct.specs.declared.unit.Unit.TheVariants as units
use Rattle.sms_keeper.specs.declared.deck_row.DeckRow.{DeckRow}
use Rattle.sms_keeper.specs.declared.floor.Floor.{Floor}
use Rattle.sms_keeper.specs.declared.kept_row.KeptRow.{KeptRow}
use Rattle.sms_keeper.specs.declared.rows.Rows.{Rows}
use Rattle.sms_keeper.specs.declared.status_row.StatusRow.{StatusRow}
use Rattle.sms_records.specs.Form.{both_at, list_at, made_at, many_at, option_at, seen_at, text_at, variant_at, whole}
use Rattle.sms_records.specs.Replies.{reply_form}
use Rattle.sms_records.specs.Requests.{request_form}
use Rattle.sms_records.specs.Sets.{data_set_form}
use Rattle.sqlite.specs.Change.{created}
use Rattle.sqlite.specs.Kind.TheVariants.{Text}
use Rattle.sqlite.specs.Schema.{Schema}
use Rattle.sqlite.specs.Table.{Table}
use Rattle.sqlite.specs.Tree.{Trees}
use Rattle.sqlite_schema.specs.Names.{same_name}
use Rattle.keeper_statements.specs.Schema.{decks_table, floors_table, replies_table, sets_table, statuses_table}
use Rattle.keeper_statements.specs.Schema.{strict_column, strict_table}
use Rattle.sms_keeper.specs.Tables.{no_rows}
use Rattle.keeper_statements.specs.Presence.{has_hidden}
use Rattle.keeper_statements.specs.Tables.{Serves, tables_in}
use Rattle.keeper_statements.specs.Tests.{deck_row, floor_row, reply_row, set_row, status_row}
use Rattle.sms_sqlite.specs.Told.{damage_of, is_whole, tables_of}
use Rattle.sms_sqlite.specs.Values.{deck_in, floor_in, joined, reply_in, rows_in, set_in, status_in}
use Rattle.sms_sqlite.proofs.TablesLemmas.{reads_as}
use Rattle.sms_sqlite.proofs.ToldLemmas.{whole_so}

abbrev no_trees : Trees
no_trees tree = []

abbrev no_schema : Schema
no_schema = record { tables = []; indexes = []; views = [] }

-- an administrator's table
abbrev notes_table : Table
notes_table = strict_table (codes "notes") 0 (strict_column (codes "text") Text ∷ []) None [] ((1 ∷ []) ∷ [])

-- the five behind it, in another order than the desk's
abbrev mixed_schema : Schema
mixed_schema = created (created (created (created (created (created no_schema notes_table) floors_table) decks_table) replies_table) statuses_table) sets_table

-- a database without tables has no rows
pub none_told : (trees : Trees) → tables_of (record { schema = no_schema; trees = trees }) ≡ Some no_rows
none_told trees = refl

-- an administrator's table alone does no harm
pub notes_serve : (trees : Trees) → Serves (record { schema = created no_schema notes_table; trees = trees })
unfolding same_name
notes_serve trees = record {
  schema = record { tables = (inl refl, (inl refl, (inl refl, (inl refl, (inl refl, tt))))); unreferred = refl; apart = (refl, tt); bound = refl; whole = refl };
  keyed = ((tt, tt), ((tt, tt), ((tt, tt), ((tt, tt), ((tt, tt), tt)))));
}

-- the five are found beside others, in any order
pub mixed_serve : Serves (record { schema = mixed_schema; trees = no_trees })
unfolding same_name
mixed_serve = record {
  schema = record {
    tables = (
      inr (record { tree = 10; named = refl; low = omega arith; keys = refl }),
      (
        inr (record { tree = 5; named = refl; low = omega arith; keys = refl }),
        (
          inr (record { tree = 4; named = refl; low = omega arith; keys = refl }),
          (
            inr (record { tree = 8; named = refl; low = omega arith; keys = refl }),
            (inr (record { tree = 2; named = refl; low = omega arith; keys = refl }), tt),
          ),
        ),
      ),
    );
    unreferred = refl;
    apart = (refl, (refl, (refl, (refl, (refl, (refl, tt))))));
    bound = refl;
    whole = refl;
  };
  keyed = ((tt, tt), ((tt, tt), ((tt, tt), ((tt, tt), ((tt, tt), tt)))));
}

-- so they are told
pub mixed_told : is_whole (record { schema = mixed_schema; trees = no_trees }) ≡ true
mixed_told = whole_so (record { schema = mixed_schema; trees = no_trees }) mixed_serve

-- a view that has one of the names
abbrev sets_view : Stored
sets_view = record { name = codes "sets"; tree = 0; sql = codes "CREATE VIEW sets AS SELECT 1"; foreign = None; binds = false; is_bound = false }

abbrev with_view : Trees → Database
with_view trees = record { schema = record { tables = []; indexes = []; views = sets_view ∷ [] }; trees = trees }

-- of such a database nothing is told
pub view_untold : (trees : Trees) → tables_of (with_view trees) ≡ None
unfolding same_name
view_untold trees = refl

pub view_undamaged : (trees : Trees) → damage_of (with_view trees) ≡ None
unfolding same_name
view_undamaged trees = refl

pub view_hides : (trees : Trees) → has_hidden (with_view trees).schema ≡ true
unfolding same_name
view_hides trees = refl

-- a table that is set aside for the trigger on it
abbrev bound_table : Stored
bound_table = record { name = codes "Floors"; tree = 0; sql = []; foreign = Some (codes "Floors"); binds = false; is_bound = true }

abbrev its_trigger : Stored
its_trigger = record { name = codes "watch"; tree = 1; sql = []; foreign = Some (codes "Floors"); binds = true; is_bound = false }

abbrev with_bound : Trees → Database
with_bound trees = record { schema = record { tables = []; indexes = []; views = bound_table ∷ its_trigger ∷ [] }; trees = trees }

-- of such a database nothing is told, whatever rows the table has
pub bound_untold : (trees : Trees) → tables_of (with_bound trees) ≡ None
unfolding same_name
bound_untold trees = refl

pub bound_undamaged : (trees : Trees) → damage_of (with_bound trees) ≡ None
unfolding same_name
bound_undamaged trees = refl

pub bound_hides : (trees : Trees) → has_hidden (with_bound trees).schema ≡ true
unfolding same_name
bound_hides trees = refl

-- a row of each of the five tables

abbrev one_extent : Extent
one_extent = record { volser = codes "V1"; start = 0; length = 15 }

abbrev one_set : DataSet
one_set = record {
  dsn = codes "A.B";
  dataclas = None;
  storclas = codes "SC";
  mgmtclas = None;
  group = codes "SG";
  unit = units.Trk;
  secondary = 0;
  volumes = 1;
  day = 1;
  retpd = Some 30;
  used = 3;
  extents = one_extent ∷ [];
  eattr = eattrs.No;
}

abbrev one_request : Request
one_request = record { job = codes "J1"; number = 2; op = ops.Used (codes "A.B") 3 }

abbrev one_reply : KeptRow
one_reply = record { job = codes "J1"; number = 2; place = 5; request = one_request; reply = replies.Noted }

abbrev one_deck : DeckRow
one_deck = record { count = 1; bytes = codes "x" }

abbrev one_status : StatusRow
one_status = record { target = targets.Group (codes "SG"); status = statuses.QuiNew }

abbrev one_floor : Floor
one_floor = record { job = codes "J1"; floor = 1 }

abbrev one_each : Rows
one_each = record { sets = one_set ∷ []; replies = one_reply ∷ []; decks = one_deck ∷ []; statuses = one_status ∷ []; floors = one_floor ∷ [] }

-- the trees with these rows
abbrev one_trees : Trees
one_trees tree =
    cond (tree == 10) ((Int (pos 1) ∷ set_row (codes "A.B") (data_set_form.write one_set)) ∷ [])
    (cond (tree == 5) ((Int (pos 1) ∷ reply_row (codes "J1") (pos 2) (pos 5) (request_form.write one_request) (reply_form.write replies.Noted)) ∷ [])
    (cond (tree == 4) (deck_row (pos 1) (codes "x") ∷ [])
    (cond (tree == 8) ((Int (pos 1) ∷ status_row (pos 0) (codes "SG") (pos 5)) ∷ [])
    (cond (tree == 2) ((Int (pos 1) ∷ floor_row (codes "J1") (pos 1)) ∷ []) []))))

abbrev one_database : Database
one_database = record { schema = mixed_schema; trees = one_trees }

one_serves : Serves one_database
unfolding same_name
one_serves = record {
  schema = mixed_serve.schema;
  keyed = (((tt, tt), (refl, tt)), (((tt, tt), (refl, tt)), (((tt, tt), (refl, tt)), (((tt, tt), (refl, tt)), (((tt, tt), (refl, tt)), tt)))));
}

set_read : set_in (set_row (codes "A.B") (data_set_form.write one_set)) ≡ Some one_set
unfolding set_in whole text_at seen_at both_at many_at list_at option_at variant_at made_at
set_read = refl

reply_read : reply_in (reply_row (codes "J1") (pos 2) (pos 5) (request_form.write one_request) (reply_form.write replies.Noted)) ≡ Some one_reply
unfolding reply_in whole text_at seen_at both_at variant_at made_at
reply_read = refl

deck_read : deck_in (deck_row (pos 1) (codes "x")) ≡ Some one_deck
unfolding deck_in
deck_read = refl

status_read : status_in (status_row (pos 0) (codes "SG") (pos 5)) ≡ Some one_status
unfolding status_in
status_read = refl

floor_read : floor_in (floor_row (codes "J1") (pos 1)) ≡ Some one_floor
unfolding floor_in
floor_read = refl

-- they are told
pub one_told : tables_of one_database ≡ Some one_each
unfolding same_name
one_told =
    ap (λ b. cond b (rows_in one_database) None) (whole_so one_database one_serves)
    ∙ reads_as (tables_in one_database) one_each (record {
      sets = ap (λ o. joined o (Some [])) set_read;
      replies = ap (λ o. joined o (Some [])) reply_read;
      decks = ap (λ o. joined o (Some [])) deck_read;
      statuses = ap (λ o. joined o (Some [])) status_read;
      floors = ap (λ o. joined o (Some [])) floor_read;
    })
