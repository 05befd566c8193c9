-- A statement that changes the rows of one table.
use Rattle.std.proofs.Common.{◌≡◌, ◌++◌, ◌&&◌, ◌==◌, ℕ, true, false, cond, List, [], ◌∷◌, length, Some, None, Option}
use Rattle.std.proofs.Common.{find, refl, sym, ap, subst, ◌∙◌, ne_eqb}
use Rattle.std.specs.Prelude.{flat_map, filter_map, option_and_then, option_map}
use Rattle.std.specs.List.{AllByRecursion, cons_option, list_any}
use Rattle.std.proofs.lemmas.Bool.{or_parts}
use Rattle.sqlite.specs.Effect.{Database, IsDatabase}
use Rattle.sqlite.specs.Order.{Row}
use Rattle.sqlite.specs.Schema.{Schema}
use Rattle.sqlite.specs.Table.{Table}
use Rattle.sqlite.specs.Tree.{Trees}
use Rattle.sqlite_rules.proofs.ListLemmas.{all_from, all_has, has_found, some_from}
use Rattle.sqlite_rules.specs.Action.{Work, deed_for, loses, pairs, work_by, work_for, works}
use Rattle.sqlite_rules.specs.Lists.{Has}
use Rattle.sqlite_rules.specs.declared.action.Deed.{Deed}
use Rattle.sqlite_schema.specs.Names.{same_name}
use Rattle.sqlite_schema.specs.Rules.{ParentKey, declared_order, key_in, key_places, parent_key}
use Rattle.sqlite_schema.specs.declared.schema.Keys.{Keys}
use Rattle.sqlite_schema.specs.declared.schema.Reference.{Reference}
use Rattle.sqlite_value.specs.declared.keys.Order.{Order}
use Rattle.keeper_statements.specs.Found.{CanServe, IsThere, is_desk_name, placed, table_in}
use Rattle.keeper_statements.specs.Schema.{desk_tables}
use Rattle.keeper_statements.specs.Steps.{LeavesRest}
use Rattle.keeper_statements.specs.Tables.{HasTable, IsKeyed, rows_at, rows_named}
use Rattle.keeper_statements.proofs.PlaceLemmas.{has_table_in, own_tree, still_there}

-- the rows of one table are edited, and those of the others are as before
pub record Edits (tree : ℕ) (edit : List Row → List Row) (old new : Database) : Type 0 where
  pub schema : new.schema ≡ old.schema
  pub rows : new.trees tree ≡ edit (old.trees tree)
  pub others : AllByRecursion (λ t. (t.tree ≡ tree → ⊥) → new.trees t.tree ≡ old.trees t.tree) old.schema.tables
  pub sound : IsDatabase new

-- what each table of a list keeps, seen through two further steps
pub others_then : (tables : List Table) (tree : ℕ) (db next end : Trees) → ((t : ℕ) → end t ≡ next t) → AllByRecursion (λ t. (t.tree ≡ tree → ⊥) → next t.tree ≡ db t.tree) tables
    → AllByRecursion (λ t. (t.tree ≡ tree → ⊥) → end t.tree ≡ db t.tree) tables
others_then [] tree db next end same others = tt
others_then (t ∷ tables) tree db next end same others = (λ out. same t.tree ∙ others.0 out, others_then tables tree db next end same others.1)

pub others_both : (tables : List Table) (tree : ℕ) (db mid end : Trees) → AllByRecursion (λ t. (t.tree ≡ tree → ⊥) → mid t.tree ≡ db t.tree) tables
    → AllByRecursion (λ t. (t.tree ≡ tree → ⊥) → end t.tree ≡ mid t.tree) tables → AllByRecursion (λ t. (t.tree ≡ tree → ⊥) → end t.tree ≡ db t.tree) tables
others_both [] tree db mid end first second = tt
others_both (t ∷ tables) tree db mid end first second = (λ out. second.0 out ∙ first.0 out, others_both tables tree db mid end first.1 second.1)

pub others_same : (tables : List Table) (tree : ℕ) (db : Trees) → AllByRecursion (λ t. (t.tree ≡ tree → ⊥) → db t.tree ≡ db t.tree) tables
others_same [] tree db = tt
others_same (t ∷ tables) tree db = (λ out. refl, others_same tables tree db)

-- an edit of this tree acts on no other table
abbrev pub ActsAlone : Schema → ℕ → Type 0
ActsAlone schema tree = (keys : Keys) (olds news : List Row) → works schema keys 0 tree olds news ≡ []

abbrev first_of : Option ParentKey → ℕ
first_of None = 0
first_of (Some key) = key.0

-- where a foreign key points to
parent_is : (tables : List Table) (ref : Reference) (key : ParentKey) → parent_key tables ref ≡ Some key → (t : Table) × (find (λ u. same_name u.name ref.parent) tables ≡ Some t) × (key.0 ≡ t.tree)
parent_is tables ref key e = by (find (λ u. same_name u.name ref.parent) tables) refl e
  where
    ordered : (t : Table) (places : List ℕ) (o : Option Order) → option_map (λ o. (t.tree, places, o)) o ≡ Some key → key.0 ≡ t.tree
    ordered t places None e = absurd cc
    ordered t places (Some o) e = sym (ap first_of e)

    placed_at : (t : Table) (o : Option (List ℕ)) → option_and_then (key_in t) o ≡ Some key → key.0 ≡ t.tree
    placed_at t None e = absurd cc
    placed_at t (Some places) e = ordered t places (declared_order t places) e

    by : (o : Option Table) → find (λ u. same_name u.name ref.parent) tables ≡ o → option_and_then (λ t. option_and_then (key_in t) (key_places t ref.parent_columns)) o ≡ Some key
        → (t : Table) × (find (λ u. same_name u.name ref.parent) tables ≡ Some t) × (key.0 ≡ t.tree)
    by None is e = absurd cc
    by (Some t) is e = (t, is, placed_at t (key_places t ref.parent_columns) e)

module _ (schema : Schema) (keys : Keys) (tree : ℕ) (olds news : List Row)
    (away : (ref : Reference) (key : ParentKey) → is_desk_name ref.parent ≡ false → parent_key schema.tables ref ≡ Some key → key.0 ≡ tree → ⊥) where
  no_work : (child : Table) (ref : Reference) → is_desk_name ref.parent ≡ false → work_for schema keys 0 tree olds news child ref ≡ None
  no_work child ref other = by (deed_for keys (length news == 0) ref) (parent_key schema.tables ref) refl
    where
      by : (deed : Option Deed) (key : Option ParentKey) → parent_key schema.tables ref ≡ key → work_by 0 tree (pairs olds news) child ref deed key ≡ None
      by None key is = refl
      by (Some deed) None is = refl
      by (Some deed) (Some key) is =
          ap (λ b. cond (b && list_any (loses key.2 key.1) (pairs olds news))
          (Some (record { depth = 0; child = child; ref = ref; places = key.1; order = key.2; deed = deed; moves = pairs olds news })) None) (ne_eqb key.0 tree (away ref key other is))

  none_of : (child : Table) (refs : List Reference) → list_any (λ (r : Reference). is_desk_name r.parent) refs ≡ false → filter_map (work_for schema keys 0 tree olds news child) refs ≡ []
  none_of child [] none = refl
  none_of child (ref ∷ refs) none =
      let p = or_parts (is_desk_name ref.parent) (list_any (λ (r : Reference). is_desk_name r.parent) refs) none in
      passed (work_for schema keys 0 tree olds news child ref) (no_work child ref p.0) (filter_map (work_for schema keys 0 tree olds news child) refs) (none_of child refs p.1)
    where
      passed : (o : Option Work) → o ≡ None → (rest : List Work) → rest ≡ [] → cons_option o rest ≡ []
      passed None is rest none = none
      passed (Some w) is rest none = absurd cc

  none_in : (tables : List Table) → list_any (λ (t : Table). list_any (λ (r : Reference). is_desk_name r.parent) t.references) tables ≡ false
      → flat_map (λ (child : Table). filter_map (work_for schema keys 0 tree olds news child) child.references) tables ≡ []
  none_in [] none = refl
  none_in (t ∷ tables) none =
      let p = or_parts (list_any (λ (r : Reference). is_desk_name r.parent) t.references) (list_any (λ (t : Table). list_any (λ (r : Reference). is_desk_name r.parent) t.references) tables) none in
      λ i. none_of t t.references p.0 i ++ none_in tables p.1 i

-- where no foreign key refers to one of the five, an edit of one of them acts alone
pub acts_alone : (form : Table) (schema : Schema) → Has desk_tables form → CanServe schema → (h : IsThere form schema) → ActsAlone schema h.tree
acts_alone form schema five serves h keys olds news = none_in schema keys h.tree olds news away schema.tables serves.unreferred
  where
    same_some : (t u : Table) → ◌≡◌ {A = Option Table} (Some t) (Some u) → t ≡ u
    same_some t u e = cc

    away : (ref : Reference) (key : ParentKey) → is_desk_name ref.parent ≡ false → parent_key schema.tables ref ≡ Some key → key.0 ≡ h.tree → ⊥
    away ref key other is here =
        let it = parent_is schema.tables ref key is in
        let found = has_found (λ (u : Table). same_name u.name ref.parent) schema.tables it.0 it.1 in
        let own = all_has (λ (t : Table). table_in schema t.tree ≡ Some t) schema.tables it.0 serves.apart found.0 in
        let same : it.0 ≡ placed form h.tree = same_some it.0 (placed form h.tree) (sym own ∙ ap (table_in schema) (sym it.2 ∙ here) ∙ own_tree form schema serves h) in
        let named : same_name form.name ref.parent ≡ true = sym (ap (λ (t : Table). same_name t.name ref.parent) same) ∙ found.1 in
        let some : is_desk_name ref.parent ≡ true = some_from (λ (f : Table). same_name f.name ref.parent) desk_tables form five named in
        let both : true ≡ false = sym some ∙ other in
        absurd cc

-- an edit of one of the five leaves the rest
pub leaves_rest : (form : Table) (edit : List Row → List Row) (old new : Database) → Has desk_tables form → CanServe old.schema → (h : IsThere form old.schema) → Edits h.tree edit old new → LeavesRest old new
leaves_rest form edit old new five serves h edits = record {
  schema = edits.schema;
  others = all_from (λ (t : Table). is_desk_name t.name ≡ false → new.trees t.tree ≡ old.trees t.tree) old.schema.tables
      (λ t has other. all_has (λ (t : Table). (t.tree ≡ h.tree → ⊥) → new.trees t.tree ≡ old.trees t.tree) old.schema.tables t edits.others has (away t has other));
  sound = λ _. edits.sound;
}
  where
    same_some : (t u : Table) → ◌≡◌ {A = Option Table} (Some t) (Some u) → t ≡ u
    same_some t u e = cc

    away : (t : Table) → Has old.schema.tables t → is_desk_name t.name ≡ false → t.tree ≡ h.tree → ⊥
    away t has other here =
        let own = all_has (λ (u : Table). table_in old.schema u.tree ≡ Some u) old.schema.tables t serves.apart has in
        let same : t ≡ placed form h.tree = same_some t (placed form h.tree) (sym own ∙ ap (table_in old.schema) here ∙ own_tree form old.schema serves h) in
        let itself : same_name form.name form.name ≡ true = (has_found (λ (u : Table). same_name u.name form.name) old.schema.tables (placed form h.tree) h.named).1 in
        let named : same_name form.name t.name ≡ true = ap (λ (u : Table). same_name form.name u.name) same ∙ itself in
        let some : is_desk_name t.name ≡ true = some_from (λ (f : Table). same_name f.name t.name) desk_tables form five named in
        let both : true ≡ false = sym some ∙ other in
        absurd cc

pub rest_itself : (db : Database) → LeavesRest db db
rest_itself db = record { schema = refl; others = all_from (λ (t : Table). is_desk_name t.name ≡ false → db.trees t.tree ≡ db.trees t.tree) db.schema.tables (λ t has other. refl); sound = λ is. is }

rest_both : (tables : List Table) (a b c : Trees) → AllByRecursion (λ (t : Table). is_desk_name t.name ≡ false → b t.tree ≡ a t.tree) tables
    → AllByRecursion (λ (t : Table). is_desk_name t.name ≡ false → c t.tree ≡ b t.tree) tables → AllByRecursion (λ (t : Table). is_desk_name t.name ≡ false → c t.tree ≡ a t.tree) tables
rest_both [] a b c one two = tt
rest_both (t ∷ tables) a b c one two = (λ other. two.0 other ∙ one.0 other, rest_both tables a b c one.1 two.1)

pub rest_then : (a b c : Database) → LeavesRest a b → LeavesRest b c → LeavesRest a c
rest_then a b c one two = record {
  schema = two.schema ∙ one.schema;
  others = rest_both a.schema.tables a.trees b.trees c.trees one.others
      (subst (λ (s : Schema). AllByRecursion (λ (t : Table). is_desk_name t.name ≡ false → c.trees t.tree ≡ b.trees t.tree) s.tables) one.schema two.others);
  sound = λ is. two.sound (one.sound is);
}

pub rows_of_form : (form : Table) (db : Database) (h : IsThere form db.schema) → rows_named db form.name ≡ db.trees h.tree
rows_of_form form db h = ap (rows_at db.trees) h.named

module _ (tree : ℕ) (edit : List Row → List Row) (old new : Database) (edits : Edits tree edit old new) where
  -- the rows of another table
  tree_stays : (form : Table) (h : IsThere form old.schema) → (h.tree ≡ tree → ⊥) → new.trees h.tree ≡ old.trees h.tree
  tree_stays form h other = all_has (λ (t : Table). (t.tree ≡ tree → ⊥) → new.trees t.tree ≡ old.trees t.tree) old.schema.tables (placed form h.tree) edits.others (has_table_in form old.schema h) other

  pub table_stays : (form : Table) (h : HasTable form old) → (h.there.tree ≡ tree → ⊥) → HasTable form new
  table_stays form h other = record {
    there = still_there form old.schema new.schema edits.schema h.there;
    keyed = subst IsKeyed (sym (tree_stays form h.there other)) h.keyed;
  }

  pub rows_stay : (form : Table) (h : HasTable form old) → (h.there.tree ≡ tree → ⊥) → rows_named new form.name ≡ rows_named old form.name
  rows_stay form h other =
      rows_of_form form new (still_there form old.schema new.schema edits.schema h.there) ∙ tree_stays form h.there other ∙ sym (rows_of_form form old h.there)

  pub table_edited : (form : Table) (h : HasTable form old) → h.there.tree ≡ tree → IsKeyed (edit (old.trees tree)) → HasTable form new
  table_edited form h here keyed = record {
    there = still_there form old.schema new.schema edits.schema h.there;
    keyed = subst (λ (n : ℕ). IsKeyed (new.trees n)) (sym here) (subst IsKeyed (sym edits.rows) keyed);
  }

  pub rows_edited : (form : Table) (h : HasTable form old) → h.there.tree ≡ tree → rows_named new form.name ≡ edit (rows_named old form.name)
  rows_edited form h here =
      rows_of_form form new (still_there form old.schema new.schema edits.schema h.there) ∙ ap new.trees here ∙ edits.rows
      ∙ ap edit (ap old.trees (sym here) ∙ sym (rows_of_form form old h.there))
