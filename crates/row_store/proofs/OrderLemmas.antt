-- Rows stay in the order of their keys.
use Rattle.std.proofs.Common.{◌≡◌, Bool, List, [], ◌∷◌, ◌++◌, Ordering, Less, Equal, Greater, cond, false, refl, true}
use Rattle.std.specs.Prelude.{filter, if◌then◌else◌, not}
use Rattle.std.specs.Cmp.Lexicographic.{nat_list_cmp_total, slice_cmp}
use Rattle.std.specs.List.{AllByRecursion, list_any}
use Rattle.std.specs.Ordering.{is_lt, nat_cmp}
use Rattle.row_store.specs.Contents.{comes_before, comes_behind, contents_after, has_front, is_above, is_at, is_below, put_row, rows_after, rows_with}
use Rattle.row_store.specs.Order.{AreInOrder, ComesBefore}
use Rattle.row_store.specs.declared.contents.Contents.{Contents}
use Rattle.row_store.specs.declared.row.Row.{Row}
use Rattle.row_store.specs.declared.transaction.Transaction.{Transaction}
use Rattle.row_store.specs.declared.write.Write.{Write}
use Rattle.row_store.specs.declared.write.Write.TheVariants.{Put, PutUnless, Drop, DropFront, DropBelow}

less_of : (o : Ordering) → is_lt o ≡ true → o ≡ Less
less_of Less is = refl
less_of Equal is = absurd cc
less_of Greater is = absurd cc

-- one more, or none
chosen : (P : List Row → Type 0) (b : Bool) (row : Row) (rows : List Row) → P (row ∷ rows) → P rows → P (cond b (row ∷ rows) rows)
chosen P true row rows with_it without = with_it
chosen P false row rows with_it without = without

said_at : (P : Row → Type 0) (b : Bool) (row : Row) (rows : List Row) → (b ≡ true → P row) → AllByRecursion P rows → AllByRecursion P (cond b (row ∷ rows) rows)
said_at P true row rows says more = (says refl, more)
said_at P false row rows says more = more

-- what holds of all rows holds of those that are left
kept : (P : Row → Type 0) (p : Row → Bool) (rows : List Row) → AllByRecursion P rows → AllByRecursion P (filter p rows)
kept P p [] all = tt
kept P p (row ∷ rows) all = said_at P (p row) row (filter p rows) (λ is. all.0) (kept P p rows all.1)

-- those that are left pass the test
pass : (P : Row → Type 0) (p : Row → Bool) (rows : List Row) → ((row : Row) → p row ≡ true → P row) → AllByRecursion P (filter p rows)
pass P p [] says = tt
pass P p (row ∷ rows) says = said_at P (p row) row (filter p rows) (says row) (pass P p rows says)

-- what is left stands in order
filtered : (p : Row → Bool) (rows : List Row) → AreInOrder rows → AreInOrder (filter p rows)
filtered p [] order = tt
filtered p (row ∷ rows) order = let more = filtered p rows order.1 in chosen AreInOrder (p row) row (filter p rows) (kept (ComesBefore row) p rows order.0, more) more

-- before one that comes before all of some
before_all : (x row : Row) (back : List Row) → ComesBefore x row → AllByRecursion (ComesBefore row) back → AllByRecursion (ComesBefore x) back
before_all x row [] first all = tt
before_all x row (y ∷ back) first all = (nat_list_cmp_total.trans x.key row.key y.key first all.0, before_all x row back first all.1)

all_joined : (P : Row → Type 0) (front : List Row) (row : Row) (back : List Row) → AllByRecursion P front → P row → AllByRecursion P back → AllByRecursion P (front ++ row ∷ back)
all_joined P [] row back one two three = (two, three)
all_joined P (x ∷ front) row back one two three = (one.0, all_joined P front row back one.1 two three)

joined : (front : List Row) (row : Row) (back : List Row) → AreInOrder front → AllByRecursion (λ x. ComesBefore x row) front → AllByRecursion (ComesBefore row) back → AreInOrder back → AreInOrder (front ++ row ∷ back)
joined [] row back order before behind more = (behind, more)
joined (x ∷ front) row back order before behind more =
    (all_joined (ComesBefore x) front row back order.0 before.0 (before_all x row back before.0 behind), joined front row back order.1 before.1 behind more)

-- with one more, or another in place of one
put_in_order : (row : Row) (rows : List Row) → AreInOrder rows → AreInOrder (put_row row rows)
put_in_order row rows order =
    joined (filter (comes_before row.key) rows) row (filter (comes_behind row.key) rows) (filtered (comes_before row.key) rows order)
    (pass (λ x. ComesBefore x row) (comes_before row.key) rows (λ x is. less_of (slice_cmp nat_cmp x.key row.key) is))
    (pass (ComesBefore row) (comes_behind row.key) rows (λ x is. less_of (slice_cmp nat_cmp row.key x.key) is))
    (filtered (comes_behind row.key) rows order)

unless_in_order : (b : Bool) (row : Row) (rows : List Row) → AreInOrder rows → AreInOrder (if b then rows else put_row row rows)
unless_in_order true row rows order = order
unless_in_order false row rows order = put_in_order row rows order

-- behind a write
write_in_order : (rows : List Row) (write : Write) → AreInOrder rows → AreInOrder (rows_with rows write)
write_in_order rows (Put row) order = put_in_order row rows order
write_in_order rows (PutUnless row key above) order = unless_in_order (list_any (is_above key above) rows) row rows order
write_in_order rows (Drop key) order = filtered (λ row. not (is_at key row)) rows order
write_in_order rows (DropFront front) order = filtered (λ row. not (has_front front row)) rows order
write_in_order rows (DropBelow front below) order = filtered (λ row. not (is_below front below row)) rows order

-- behind some
writes_in_order : (writes : List Write) (rows : List Row) → AreInOrder rows → AreInOrder (rows_after writes rows)
writes_in_order [] rows order = order
writes_in_order (write ∷ writes) rows order = writes_in_order writes (rows_with rows write) (write_in_order rows write order)

-- behind a transaction
pub stay_in_order : (t : Transaction) (c : Contents) → AreInOrder c.rows → AreInOrder (contents_after t c).rows
stay_in_order t c order = writes_in_order t.writes c.rows order
