-- The members of a document ascend, and so do those of each table inside.
use Rattle.std.proofs.Common.{◌≡◌, ℕ, zero, suc, Bool, true, false, List, [], ◌∷◌, ◌++◌, length, drop, refl, sym, ap}
use Rattle.std.proofs.Common.{◌∙◌, subst}
use Rattle.std.specs.Prelude.{Option, Some, None, option_map, option_and_then, ◌&&◌, ◌==◌, if◌then◌else◌, slice_index}
use Rattle.std.specs.Ordering.{nat_cmp, is_lt, match_ordering, ordering_reverse}
use Rattle.std.specs.declared.cmp.Ordering.{Ordering}
use Rattle.std.specs.declared.cmp.Ordering.TheVariants.{Less, Equal, Greater}
use Rattle.std.specs.Cmp.Lexicographic.{slice_cmp}
use Rattle.std.proofs.lemmas.Bool.{and_parts}
use Rattle.std.proofs.lemmas.Cmp.{nat_list_cmp_total}
use Rattle.toml_parser.specs.Lexical.{Read, right_bracket, left_bracket, left_brace, right_brace, first, skip_ws}
use Rattle.toml_parser.specs.Lexical.{skip_blank}
use Rattle.toml_parser.specs.Strings.{Key, quoted, starts_string, recursion_limit}
use Rattle.toml_parser.specs.Numbers.{unquoted}
use Rattle.toml_parser.specs.declared.scalar.Scalar.{Scalar}
use Rattle.toml_parser.specs.declared.scalar.Scalar.TheVariants.{Boolean, Integer, Float, Datetime}
use Rattle.toml.specs.Data.{Data, string, array, table, Items, no_items, item, Members, is_before, is_sorted}
use Rattle.toml.specs.Data.{items_are_sorted, members_are_sorted, push_item, same_key}
use Rattle.toml.specs.Tables.{implicit, dotted, header, Node, Nodes, value, open_table, open_array, no_nodes, node}
use Rattle.toml.specs.Tables.{get_node, insert, replace, close, close_node, Edit, header_node, dot_node, by_header}
use Rattle.toml.specs.Tables.{by_dot, along_header, along_dots, Definition, key_value, std_table, array_table}
use Rattle.toml.specs.Tables.{Expression, new_node, redefine, at_found, at_key, put, Document, define_as, define}
use Rattle.toml.specs.Parse.{after_element, key_equals, keyval, items, members, scalar_data, atom, val, header_key}
use Rattle.toml.specs.Parse.{expression, ends_line, line, lines, skip_bom, parse_document, read_map, after_byte}

-- options

map_some : {A B : Type 0} (f : A → B) (o : Option A) (y : B) → option_map f o ≡ Some y → (x : A) × (o ≡ Some x) × (f x ≡ y)
map_some f None y e = absurd cc
map_some f (Some x) y e = (x, refl, cc)

then_some : {A B : Type 0} (f : A → Option B) (o : Option A) (y : B) → option_and_then f o ≡ Some y → (x : A) × (o ≡ Some x) × (f x ≡ Some y)
then_some f None y e = absurd cc
then_some f (Some x) y e = (x, refl, e)

same_some : {A : Type 0} {x y : A} → Some x ≡ Some y → x ≡ y
same_some e = cc

both : (a b : Bool) → a ≡ true → b ≡ true → (a && b) ≡ true
both a b p q = rw (p, q) refl

-- tables while they are read

abbrev before_nodes : List ℕ → Nodes → Bool
before_nodes k no_nodes = true
before_nodes k (node l x ns) = is_lt (slice_cmp nat_cmp k l)

abbrev mutual
  node_ok : Node → Bool
  node_ok (value d) = is_sorted d
  node_ok (open_table origin ns) = nodes_ok ns
  node_ok (open_array done ns) = items_are_sorted done && nodes_ok ns

  nodes_ok : Nodes → Bool
  nodes_ok no_nodes = true
  nodes_ok (node k x ns) = (before_nodes k ns && node_ok x) && nodes_ok ns

-- the parts of a table that ascends

pub record Ascends (k : List ℕ) (x : Node) (ns : Nodes) : Type 0 where
  pub front : before_nodes k ns ≡ true
  pub here : node_ok x ≡ true
  pub more : nodes_ok ns ≡ true

parts : (k : List ℕ) (x : Node) (ns : Nodes) → nodes_ok (node k x ns) ≡ true → Ascends k x ns
parts k x ns e =
    let (a, b) = and_parts (before_nodes k ns && node_ok x) (nodes_ok ns) e in
    let (c, d) = and_parts (before_nodes k ns) (node_ok x) a in
    record { front = c; here = d; more = b }

joined : (k : List ℕ) (x : Node) (ns : Nodes) → before_nodes k ns ≡ true → node_ok x ≡ true → nodes_ok ns ≡ true → nodes_ok (node k x ns) ≡ true
joined k x ns a b c = rw (a, b, c) refl

before_close : (k : List ℕ) (ns : Nodes) → is_before k (close ns) ≡ before_nodes k ns
before_close k no_nodes = refl
before_close k (node l x ns) = refl

push_ok : (ds : Items) (d : Data) → items_are_sorted ds ≡ true → is_sorted d ≡ true → items_are_sorted (push_item ds d) ≡ true
push_ok no_items d a b = rw b refl
push_ok (item c ds) d a b =
    let (h, t) = and_parts (is_sorted c) (items_are_sorted ds) a in
    rw (h, push_ok ds d t b) refl

mutual
  close_node_ok : (x : Node) → node_ok x ≡ true → is_sorted (close_node x) ≡ true
  close_node_ok (value d) e = e
  close_node_ok (open_table origin ns) e = close_ok ns e
  close_node_ok (open_array done ns) e =
      let (a, b) = and_parts (items_are_sorted done) (nodes_ok ns) e in
      push_ok done (table (close ns)) a (close_ok ns b)

  close_ok : (ns : Nodes) → nodes_ok ns ≡ true → members_are_sorted (close ns) ≡ true
  close_ok no_nodes e = refl
  close_ok (node k x ns) e =
      let p = parts k x ns e in
      rw (before_close k ns, p.front, close_node_ok x p.here, close_ok ns p.more) refl

-- edits of one table

turned : (o : Ordering) → ordering_reverse o ≡ Greater → o ≡ Less
turned Less e = refl
turned Equal e = absurd cc
turned Greater e = absurd cc

less_turned : (k l : List ℕ) → slice_cmp nat_cmp k l ≡ Greater → is_lt (slice_cmp nat_cmp l k) ≡ true
less_turned k l e = ap is_lt (turned (slice_cmp nat_cmp l k) (sym (nat_list_cmp_total.antisymm k l) ∙ e))

before_placed : (o : Ordering) (j k l : List ℕ) (x y : Node) (ns rest : Nodes) → is_lt (slice_cmp nat_cmp j l) ≡ true → is_lt (slice_cmp nat_cmp j k) ≡ true
    → before_nodes j (match_ordering o (node k x (node l y ns)) (node l x ns) (node l y rest)) ≡ true
before_placed Less j k l x y ns rest a b = b
before_placed Equal j k l x y ns rest a b = a
before_placed Greater j k l x y ns rest a b = a

before_insert : (j k : List ℕ) (x : Node) (ns : Nodes) → before_nodes j ns ≡ true → is_lt (slice_cmp nat_cmp j k) ≡ true → before_nodes j (insert k x ns) ≡ true
before_insert j k x no_nodes a b = b
before_insert j k x (node l y ns) a b = before_placed (slice_cmp nat_cmp k l) j k l x y ns (insert k x ns) a b

placed : (o : Ordering) (k l : List ℕ) (x y : Node) (ns rest : Nodes) → slice_cmp nat_cmp k l ≡ o → node_ok x ≡ true → nodes_ok (node l y ns) ≡ true → nodes_ok rest ≡ true → (o ≡ Greater → before_nodes l rest ≡ true)
    → nodes_ok (match_ordering o (node k x (node l y ns)) (node l x ns) (node l y rest)) ≡ true
placed Less k l x y ns rest e a b c d = joined k x (node l y ns) (ap is_lt e) a b
placed Equal k l x y ns rest e a b c d = let p = parts l y ns b in joined l x ns p.front a p.more
placed Greater k l x y ns rest e a b c d = let p = parts l y ns b in joined l y rest (d refl) p.here c

insert_ok : (k : List ℕ) (x : Node) (ns : Nodes) → nodes_ok ns ≡ true → node_ok x ≡ true → nodes_ok (insert k x ns) ≡ true
insert_ok k x no_nodes a b = rw b refl
insert_ok k x (node l y ns) a b =
    let p = parts l y ns a in
    placed (slice_cmp nat_cmp k l) k l x y ns (insert k x ns) refl b a (insert_ok k x ns p.more b) (λ e. before_insert l k x ns p.front (less_turned k l e))

before_kept : (c : Bool) (j l : List ℕ) (x y : Node) (ns rest : Nodes) → is_lt (slice_cmp nat_cmp j l) ≡ true → before_nodes j (if c then node l x ns else node l y rest) ≡ true
before_kept true j l x y ns rest a = a
before_kept false j l x y ns rest a = a

before_replace : (j k : List ℕ) (x : Node) (ns : Nodes) → before_nodes j ns ≡ true → before_nodes j (replace k x ns) ≡ true
before_replace j k x no_nodes a = refl
before_replace j k x (node l y ns) a = before_kept (same_key k l) j l x y ns (replace k x ns) a

kept : (c : Bool) (l : List ℕ) (x y : Node) (ns rest : Nodes) → node_ok x ≡ true → Ascends l y ns → before_nodes l rest ≡ true → nodes_ok rest ≡ true → nodes_ok (if c then node l x ns else node l y rest) ≡ true
kept true l x y ns rest a p b c = joined l x ns p.front a p.more
kept false l x y ns rest a p b c = joined l y rest b p.here c

replace_ok : (k : List ℕ) (x : Node) (ns : Nodes) → nodes_ok ns ≡ true → node_ok x ≡ true → nodes_ok (replace k x ns) ≡ true
replace_ok k x no_nodes a b = refl
replace_ok k x (node l y ns) a b =
    let p = parts l y ns a in
    kept (same_key k l) l x y ns (replace k x ns) b p (before_replace l k x ns p.front) (replace_ok k x ns p.more b)

got : (c : Bool) (x z : Node) (rest : Option Node) → node_ok x ≡ true → (rest ≡ Some z → node_ok z ≡ true) → (if c then Some x else rest) ≡ Some z → node_ok z ≡ true
got true x z rest a b e = subst (λ y. node_ok y ≡ true) (same_some e) a
got false x z rest a b e = b e

get_ok : (k : List ℕ) (ns : Nodes) (z : Node) → nodes_ok ns ≡ true → get_node k ns ≡ Some z → node_ok z ≡ true
get_ok k no_nodes z a e = absurd cc
get_ok k (node l x ns) z a e = let p = parts l x ns a in got (same_key k l) x z (get_node k ns) p.here (get_ok k ns z p.more) e

-- edits along a path

abbrev Keeps : Edit → Type 0
Keeps e = (ns n : Nodes) → nodes_ok ns ≡ true → e ns ≡ Some n → nodes_ok n ≡ true

header_ok : (e : Edit) → Keeps e → (x y : Node) → node_ok x ≡ true → header_node e x ≡ Some y → node_ok y ≡ true
header_ok e h (value d) y a s = absurd cc
header_ok e h (open_table origin inner) y a s =
    let m = map_some (open_table origin) (e inner) y s in subst (λ z. node_ok z ≡ true) m.2 (h inner m.0 a m.1)
header_ok e h (open_array done last) y a s =
    let (p, q) = and_parts (items_are_sorted done) (nodes_ok last) a in
    let m = map_some (open_array done) (e last) y s in
    subst (λ z. node_ok z ≡ true) m.2 (both (items_are_sorted done) (nodes_ok m.0) p (h last m.0 q m.1))

dot_ok : (e : Edit) → Keeps e → (x y : Node) → node_ok x ≡ true → dot_node e x ≡ Some y → node_ok y ≡ true
dot_ok e h (value d) y a s = absurd cc
dot_ok e h (open_table header inner) y a s = absurd cc
dot_ok e h (open_table implicit inner) y a s = let m = map_some (open_table dotted) (e inner) y s in subst (λ z. node_ok z ≡ true) m.2 (h inner m.0 a m.1)
dot_ok e h (open_table dotted inner) y a s = let m = map_some (open_table dotted) (e inner) y s in subst (λ z. node_ok z ≡ true) m.2 (h inner m.0 a m.1)
dot_ok e h (open_array done last) y a s = absurd cc

by_header_ok : (k : List ℕ) (e : Edit) (ns : Nodes) → Keeps e → nodes_ok ns ≡ true → (o : Option Node) → get_node k ns ≡ o → (n : Nodes) → by_header k e ns o ≡ Some n → nodes_ok n ≡ true
by_header_ok k e ns h a None g n s =
    let m = map_some (λ new. insert k (open_table implicit new) ns) (e no_nodes) n s in
    subst (λ z. nodes_ok z ≡ true) m.2 (insert_ok k (open_table implicit m.0) ns a (h no_nodes m.0 refl m.1))
by_header_ok k e ns h a (Some x) g n s =
    let m = map_some (λ new. replace k new ns) (header_node e x) n s in
    subst (λ z. nodes_ok z ≡ true) m.2 (replace_ok k m.0 ns a (header_ok e h x m.0 (get_ok k ns x a g) m.1))

by_dot_ok : (k : List ℕ) (e : Edit) (ns : Nodes) → Keeps e → nodes_ok ns ≡ true → (o : Option Node) → get_node k ns ≡ o → (n : Nodes) → by_dot k e ns o ≡ Some n → nodes_ok n ≡ true
by_dot_ok k e ns h a None g n s =
    let m = map_some (λ new. insert k (open_table dotted new) ns) (e no_nodes) n s in
    subst (λ z. nodes_ok z ≡ true) m.2 (insert_ok k (open_table dotted m.0) ns a (h no_nodes m.0 refl m.1))
by_dot_ok k e ns h a (Some x) g n s =
    let m = map_some (λ new. replace k new ns) (dot_node e x) n s in
    subst (λ z. nodes_ok z ≡ true) m.2 (replace_ok k m.0 ns a (dot_ok e h x m.0 (get_ok k ns x a g) m.1))

along_header_keeps : (path : List (List ℕ)) (e : Edit) → Keeps e → Keeps (along_header path e)
unfolding along_header
along_header_keeps [] e h = h
along_header_keeps (k ∷ path) e h = λ ns n a s. by_header_ok k (along_header path e) ns (along_header_keeps path e h) a (get_node k ns) refl n s

along_dots_keeps : (path : List (List ℕ)) (e : Edit) → Keeps e → Keeps (along_dots path e)
unfolding along_dots
along_dots_keeps [] e h = h
along_dots_keeps (k ∷ path) e h = λ ns n a s. by_dot_ok k (along_dots path e) ns (along_dots_keeps path e h) a (get_node k ns) refl n s

-- definitions

abbrev IsGood : Definition → Type 0
IsGood (key_value d) = is_sorted d ≡ true
IsGood std_table = Unit {0}
IsGood array_table = Unit {0}

new_ok : (what : Definition) → IsGood what → node_ok (new_node what) ≡ true
new_ok (key_value d) g = g
new_ok std_table g = refl
new_ok array_table g = refl

redefine_ok : (what : Definition) (x y : Node) → node_ok x ≡ true → redefine what x ≡ Some y → node_ok y ≡ true
redefine_ok (key_value d) (value c) y a s = absurd cc
redefine_ok (key_value d) (open_table implicit inner) y a s = absurd cc
redefine_ok (key_value d) (open_table dotted inner) y a s = absurd cc
redefine_ok (key_value d) (open_table header inner) y a s = absurd cc
redefine_ok (key_value d) (open_array done last) y a s = absurd cc
redefine_ok std_table (value c) y a s = absurd cc
redefine_ok std_table (open_table implicit inner) y a s = subst (λ z. node_ok z ≡ true) (same_some s) a
redefine_ok std_table (open_table dotted inner) y a s = absurd cc
redefine_ok std_table (open_table header inner) y a s = absurd cc
redefine_ok std_table (open_array done last) y a s = absurd cc
redefine_ok array_table (value c) y a s = absurd cc
redefine_ok array_table (open_table implicit inner) y a s = absurd cc
redefine_ok array_table (open_table dotted inner) y a s = absurd cc
redefine_ok array_table (open_table header inner) y a s = absurd cc
redefine_ok array_table (open_array done last) y a s =
    let (p, q) = and_parts (items_are_sorted done) (nodes_ok last) a in
    subst (λ z. node_ok z ≡ true) (same_some s) (both (items_are_sorted (push_item done (table (close last)))) true (push_ok done (table (close last)) p (close_ok last q)) refl)

at_found_ok : (k : List ℕ) (what : Definition) (ns : Nodes) → IsGood what → nodes_ok ns ≡ true → (o : Option Node) → get_node k ns ≡ o → (n : Nodes) → at_found k what ns o ≡ Some n → nodes_ok n ≡ true
at_found_ok k what ns g a None e n s = subst (λ z. nodes_ok z ≡ true) (same_some s) (insert_ok k (new_node what) ns a (new_ok what g))
at_found_ok k what ns g a (Some x) e n s =
    let m = map_some (λ y. replace k y ns) (redefine what x) n s in
    subst (λ z. nodes_ok z ≡ true) m.2 (replace_ok k m.0 ns a (redefine_ok what x m.0 (get_ok k ns x a e) m.1))

at_key_keeps : (k : List ℕ) (what : Definition) → IsGood what → Keeps (at_key k what)
unfolding at_key
at_key_keeps k what g = λ ns n a s. at_found_ok k what ns g a (get_node k ns) refl n s

put_keeps : (key : Key) (d : Data) → is_sorted d ≡ true → Keeps (put key d)
put_keeps key d g = along_dots_keeps key.0 (at_key key.1 (key_value d)) (at_key_keeps key.1 (key_value d) g)

-- values

abbrev IsGoodReader : (List ℕ → Read Data) → Type 0
IsGoodReader f = (text : List ℕ) (r : Data × List ℕ) → f text ≡ Some r → is_sorted r.0 ≡ true

items_at : (f : List ℕ → Read Data) → IsGoodReader f → (c : Bool) (n : ℕ) (found : Items) (start : List ℕ) (r : Items × List ℕ) → items_are_sorted found ≡ true
    → ((more : Items) → items_are_sorted more ≡ true → (text : List ℕ) → items f n more text ≡ Some r → items_are_sorted r.0 ≡ true)
    → (if c then Some (found, drop 1 start) else option_and_then (λ v. option_and_then (items f n (push_item found v.0)) (after_element right_bracket v.1)) (f start)) ≡ Some r → items_are_sorted r.0 ≡ true
items_at f g true n found start r a h e = subst (λ z. items_are_sorted z.0 ≡ true) (same_some e) a
items_at f g false n found start r a h e =
    let m = then_some (λ v. option_and_then (items f n (push_item found v.0)) (after_element right_bracket v.1)) (f start) r e in
    let k = then_some (items f n (push_item found m.0.0)) (after_element right_bracket m.0.1) r m.2 in
    h (push_item found m.0.0) (push_ok found m.0.0 a (g start m.0 m.1)) k.0 k.2

items_ok : (f : List ℕ → Read Data) → IsGoodReader f → (n : ℕ) (found : Items) → items_are_sorted found ≡ true → (text : List ℕ) (r : Items × List ℕ) → items f n found text ≡ Some r → items_are_sorted r.0 ≡ true
unfolding items
items_ok f g zero found a text r e = absurd cc
items_ok f g (suc n) found a text r e = items_at f g (first (skip_blank text) == right_bracket) n found (skip_blank text) r a (λ more b t s. items_ok f g n more b t r s) e

keyval_ok : (f : List ℕ → Read Data) → IsGoodReader f → (text : List ℕ) (r : (Key × Data) × List ℕ) → keyval f text ≡ Some r → is_sorted r.0.1 ≡ true
keyval_ok f g text r e =
    let m = then_some (λ k. read_map (λ d. (k.0, d)) (f k.1)) (key_equals text) r e in
    let k = map_some (λ p. ((m.0.0, p.0), p.1)) (f m.0.1) r m.2 in
    subst (λ z. is_sorted z.0.1 ≡ true) k.2 (g m.0.1 k.0 k.1)

members_at : (f : List ℕ → Read Data) → IsGoodReader f → (c : Bool) (n : ℕ) (found : Nodes) (start : List ℕ) (r : Members × List ℕ) → nodes_ok found ≡ true
    → ((more : Nodes) → nodes_ok more ≡ true → (text : List ℕ) → members f n more text ≡ Some r → members_are_sorted r.0 ≡ true)
    → (if c then Some (close found, drop 1 start) else option_and_then (λ e. option_and_then (λ more. option_and_then (members f n more) (after_element right_brace e.1)) (put e.0.0 e.0.1 found)) (keyval f start)) ≡ Some r
    → members_are_sorted r.0 ≡ true
members_at f g true n found start r a h e = subst (λ z. members_are_sorted z.0 ≡ true) (same_some e) (close_ok found a)
members_at f g false n found start r a h e =
    let m = then_some (λ e. option_and_then (λ more. option_and_then (members f n more) (after_element right_brace e.1)) (put e.0.0 e.0.1 found)) (keyval f start) r e in
    let k = then_some (λ more. option_and_then (members f n more) (after_element right_brace m.0.1)) (put m.0.0.0 m.0.0.1 found) r m.2 in
    let j = then_some (members f n k.0) (after_element right_brace m.0.1) r k.2 in
    h k.0 (put_keeps m.0.0.0 m.0.0.1 (keyval_ok f g start m.0 m.1) found k.0 a k.1) j.0 j.2

members_ok : (f : List ℕ → Read Data) → IsGoodReader f → (n : ℕ) (found : Nodes) → nodes_ok found ≡ true → (text : List ℕ) (r : Members × List ℕ) → members f n found text ≡ Some r → members_are_sorted r.0 ≡ true
unfolding members
members_ok f g zero found a text r e = absurd cc
members_ok f g (suc n) found a text r e = members_at f g (first (skip_blank text) == right_brace) n found (skip_blank text) r a (λ more b t s. members_ok f g n more b t r s) e

scalar_ok : (s : Scalar) → is_sorted (scalar_data s) ≡ true
scalar_ok (Boolean b) = refl
scalar_ok (Integer z) = refl
scalar_ok (Float x) = refl
scalar_ok (Datetime dt) = refl

atom_at : (c : Bool) (text : List ℕ) (r : Data × List ℕ) → (if c then read_map string (quoted text) else read_map scalar_data (unquoted text)) ≡ Some r → is_sorted r.0 ≡ true
atom_at true text r e = let m = map_some (λ p. (string p.0, p.1)) (quoted text) r e in subst (λ z. is_sorted z.0 ≡ true) m.2 refl
atom_at false text r e = let m = map_some (λ p. (scalar_data p.0, p.1)) (unquoted text) r e in subst (λ z. is_sorted z.0 ≡ true) m.2 (scalar_ok m.0.0)

atom_ok : IsGoodReader atom
unfolding atom
atom_ok text r e = atom_at (starts_string text) text r e

val_at : (f : List ℕ → Read Data) → IsGoodReader f → (a b : Bool) (n : ℕ) (inner text : List ℕ) (r : Data × List ℕ)
    → (if a then read_map array (items f n no_items inner) else if b then read_map table (members f n no_nodes inner) else atom text) ≡ Some r → is_sorted r.0 ≡ true
val_at f g true b n inner text r e = let m = map_some (λ p. (array p.0, p.1)) (items f n no_items inner) r e in subst (λ z. is_sorted z.0 ≡ true) m.2 (items_ok f g n no_items refl inner m.0 m.1)
val_at f g false true n inner text r e = let m = map_some (λ p. (table p.0, p.1)) (members f n no_nodes inner) r e in subst (λ z. is_sorted z.0 ≡ true) m.2 (members_ok f g n no_nodes refl inner m.0 m.1)
val_at f g false false n inner text r e = atom_ok text r e

val_ok : (depth : ℕ) → IsGoodReader (val depth)
unfolding val
val_ok zero text r e = atom_ok text r e
val_ok (suc depth) text r e = val_at (val depth) (val_ok depth) (first text == left_bracket) (first text == left_brace) (length text) (drop 1 text) text r e

-- documents

expression_at : (a b : Bool) (text : List ℕ) (r : Expression × List ℕ)
    → (if a then option_and_then (λ k. option_map (λ rest. ((k.0, array_table), rest)) (after_byte right_bracket k.1)) (header_key (drop 2 text))
    else if b then read_map (λ k. (k, std_table)) (header_key (drop 1 text)) else read_map (λ p. (p.0, key_value p.1)) (keyval (val recursion_limit) text)) ≡ Some r → IsGood r.0.1
expression_at true b text r e =
    let m = then_some (λ k. option_map (λ rest. ((k.0, array_table), rest)) (after_byte right_bracket k.1)) (header_key (drop 2 text)) r e in
    let k = map_some (λ rest. ((m.0.0, array_table), rest)) (after_byte right_bracket m.0.1) r m.2 in
    subst (λ z. IsGood z.0.1) k.2 tt
expression_at false true text r e = let m = map_some (λ p. ((p.0, std_table), p.1)) (header_key (drop 1 text)) r e in subst (λ z. IsGood z.0.1) m.2 tt
expression_at false false text r e =
    let m = map_some (λ p. ((p.0.0, key_value p.0.1), p.1)) (keyval (val recursion_limit) text) r e in
    subst (λ z. IsGood z.0.1) m.2 (keyval_ok (val recursion_limit) (val_ok recursion_limit) text m.0 m.1)

expression_ok : (text : List ℕ) (r : Expression × List ℕ) → expression text ≡ Some r → IsGood r.0.1
unfolding expression
expression_ok text r e = expression_at (first text == left_bracket && slice_index text 1 == left_bracket) (first text == left_bracket) text r e

line_at : (c : Bool) (x r : Expression × List ℕ) → IsGood x.0.1 → (if c then Some x else None) ≡ Some r → IsGood r.0.1
line_at true x r g e = subst (λ z. IsGood z.0.1) (same_some e) g
line_at false x r g e = absurd cc

line_ok : (text : List ℕ) (r : Expression × List ℕ) → line text ≡ Some r → IsGood r.0.1
unfolding line
line_ok text r e =
    let m = then_some (λ x. if ends_line (skip_ws x.1) then Some x else None) (expression text) r e in
    line_at (ends_line (skip_ws m.0.1)) m.0 r (expression_ok text m.0 m.1) m.2

define_at : (doc : Document) (key : Key) (what : Definition) (next : Document) → nodes_ok doc.0 ≡ true → IsGood what → define_as doc key what ≡ Some next → nodes_ok next.0 ≡ true
define_at doc key (key_value d) next a g e =
    let m = map_some (λ root. (root, doc.1)) (along_header doc.1 (put key d) doc.0) next e in
    subst (λ z. nodes_ok z.0 ≡ true) m.2 (along_header_keeps doc.1 (put key d) (put_keeps key d g) doc.0 m.0 a m.1)
define_at doc key std_table next a g e =
    let m = map_some (λ root. (root, key.0 ++ key.1 ∷ [])) (along_header key.0 (at_key key.1 std_table) doc.0) next e in
    subst (λ z. nodes_ok z.0 ≡ true) m.2 (along_header_keeps key.0 (at_key key.1 std_table) (at_key_keeps key.1 std_table tt) doc.0 m.0 a m.1)
define_at doc key array_table next a g e =
    let m = map_some (λ root. (root, key.0 ++ key.1 ∷ [])) (along_header key.0 (at_key key.1 array_table) doc.0) next e in
    subst (λ z. nodes_ok z.0 ≡ true) m.2 (along_header_keeps key.0 (at_key key.1 array_table) (at_key_keeps key.1 array_table tt) doc.0 m.0 a m.1)

define_ok : (doc : Document) (e : Expression) (next : Document) → nodes_ok doc.0 ≡ true → IsGood e.1 → define doc e ≡ Some next → nodes_ok next.0 ≡ true
unfolding define
define_ok doc e next a g s = define_at doc e.0 e.1 next a g s

lines_at : (c : Bool) (n : ℕ) (doc : Document) (start : List ℕ) (out : Document) → nodes_ok doc.0 ≡ true
    → ((next : Document) → nodes_ok next.0 ≡ true → (text : List ℕ) → lines n next text ≡ Some out → nodes_ok out.0 ≡ true)
    → (if c then Some doc else option_and_then (λ e. option_and_then (λ next. lines n next e.1) (define doc e.0)) (line start)) ≡ Some out → nodes_ok out.0 ≡ true
lines_at true n doc start out a h e = subst (λ z. nodes_ok z.0 ≡ true) (same_some e) a
lines_at false n doc start out a h e =
    let m = then_some (λ e. option_and_then (λ next. lines n next e.1) (define doc e.0)) (line start) out e in
    let k = then_some (λ next. lines n next m.0.1) (define doc m.0.0) out m.2 in
    h k.0 (define_ok doc m.0.0 k.0 a (line_ok start m.0 m.1) k.1) m.0.1 k.2

lines_ok : (n : ℕ) (doc : Document) (text : List ℕ) (out : Document) → nodes_ok doc.0 ≡ true → lines n doc text ≡ Some out → nodes_ok out.0 ≡ true
unfolding lines
lines_ok zero doc text out a e = absurd cc
lines_ok (suc n) doc text out a e = lines_at (length (skip_blank text) == 0) n doc (skip_blank text) out a (λ next b t s. lines_ok n next t out b s) e

-- the keys of each table of a document ascend
pub document_ascends : (text : List ℕ) (top : Members) → parse_document text ≡ Some top → members_are_sorted top ≡ true
unfolding parse_document
document_ascends text top e =
    let m = map_some (λ doc. close doc.0) (lines (suc (length text)) (no_nodes, []) (skip_bom text)) top e in
    subst (λ z. members_are_sorted z ≡ true) m.2 (close_ok m.0.0 (lines_ok (suc (length text)) (no_nodes, []) (skip_bom text) m.0 refl m.1))
