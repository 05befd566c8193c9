-- Where one comparison holds wherever another does.
use Rattle.std.proofs.Common.{◌≡◌, ◌==◌, ◌&&◌, ◌||◌, ℕ, Bool, true, false, not, List, [], ◌∷◌, bytes_eq, codes, refl, sym, ap, ◌∙◌, subst}
use Rattle.std.specs.Prelude.{Option, Some, None, is_some, is_none, if◌then◌else◌}
use Rattle.std.specs.List.{list_all, list_any}
use Rattle.std.proofs.lemmas.Bool.{eqb-true}
use Rattle.dsn_mask.specs.MaskTest.{fits_items, is_star, is_two_stars, mask_fits, passes_behind, passes_somewhere, piece_fits, simple_fits, takes_byte, takes_first}
use Rattle.dsn_mask.specs.MaskText as texts
use Rattle.dsn_mask.specs.MaskText.{mask_of, simple_of}
use Rattle.dsn_mask.specs.Qualifiers.{qualifiers_of}
use Rattle.acs_trace.specs.Lint.{covers_byte, mask_covers, piece_covers, qualifier_covers}
use Rattle.acs_trace.proofs.LintLemmas.{mask_through, simple_through, wider_holds}
use Rattle.acs_tree.specs.declared.input.Input.{Input}
use Rattle.acs_tree.specs.declared.routine.Compare.{Compare}
use Rattle.acs_tree.specs.declared.routine.Compare.TheVariants.{Eq, Ne, Gt, Lt, Ge, Le, Ng, Nl}
use Rattle.acs_tree.specs.declared.routine.Cond.{Cond, roll-Cond, map-Cond}
use Rattle.acs_tree.specs.declared.routine.Cond.TheOpen.{Cond-F}
use Rattle.acs_tree.specs.declared.routine.Cond.TheFolds.{fold-roll-Cond, ind-Cond}
use Rattle.acs_tree.specs.declared.routine.Cond.TheVariants.{Test, rolls-Test}
use Rattle.acs_tree.specs.declared.routine.Operand.{Operand}
use Rattle.acs_tree.specs.declared.routine.OperandForm.{OperandForm}
use Rattle.acs_tree.specs.declared.routine.OperandForm.TheVariants.{Literal, Word, Var}
use Rattle.acs_tree.specs.declared.routine.Ref.{Ref}
use Rattle.acs_tree.specs.declared.routine.Stmt.{Stmt}
use Rattle.acs_tree.specs.declared.routine.WhenTest.{WhenTest}
use Rattle.acs_tree.specs.declared.routine.WhenTest.TheVariants.{Any, Holds}
use Rattle.acs_tree.specs.declared.values.Values.{Values}
use Rattle.acs_tree.specs.declared.variable.Variable.{Variable}
use Rattle.acs_tree.specs.declared.variable.VariableKind.{VariableKind}
use Rattle.acs_tree.specs.declared.variable.VariableKind.TheVariants as kind
use Rattle.acs_tree.specs.Comparands as comparand
use Rattle.acs_tree.specs.Comparands.{Comparand, comparand_or, form_comparand, list_comparand, mask_comparand, name_comparand, word_beside, word_comparand}
use Rattle.acs_tree.specs.Compares.{compares, number_beside, number_compares, text_equals}
use Rattle.acs_tree.specs.Conditions as conditions
use Rattle.acs_tree.specs.Conditions.{comparison, equals_any, holds, when_holds}
use Rattle.acs_tree.specs.FilterLists.{is_mask, is_simple, list_named}
use Rattle.acs_tree.specs.References.{is_counted_kind, is_whole_name, passes, takes_masks}
use Rattle.acs_tree.specs.Value.{Value, Text, Number, Size, AnyOf, AllOf, Groups}
use Rattle.acs_tree.specs.Variables.{index_of, variable_of, variable_value}
use Rattle.acs_lint.specs.Covering.{Asked, covers, each_way, implied_by, implied_step, is_same_index, is_same_operand, is_same_ref, rank_of, right_implies, test_implies, ways_step, word_covers}
use Rattle.acs_lint.specs.Whens.{any_covers, items_implied, test_implied}
use Rattle.acs_lint.proofs.BoolLemmas.{both_of, either_of, left_of, never, on_left, on_right, right_of, same_text, unless}

-- masks over texts

-- symbols fit items wherever they cover them
module _ {S I : Type 0} (is_any : S → Bool) (one other : S → I → Bool) (more : (s : S) (i : I) → one s i ≡ true → other s i ≡ true) where
  behind_more : (f g : List I → Bool) → ((xs : List I) → f xs ≡ true → g xs ≡ true) → (xs : List I) → passes_behind f xs ≡ true → passes_behind g xs ≡ true
  behind_more f g h [] e = e
  behind_more f g h (x ∷ xs) e = either_of (f xs) (passes_behind f xs) e (λ k. on_left (g xs) (passes_behind g xs) (h xs k)) (λ k. on_right (g xs) (passes_behind g xs) (behind_more f g h xs k))

  somewhere_more : (f g : List I → Bool) → ((xs : List I) → f xs ≡ true → g xs ≡ true) → (xs : List I) → passes_somewhere f xs ≡ true → passes_somewhere g xs ≡ true
  somewhere_more f g h xs e = either_of (f xs) (passes_behind f xs) e (λ k. on_left (g xs) (passes_behind g xs) (h xs k)) (λ k. on_right (g xs) (passes_behind g xs) (behind_more f g h xs k))

  first_more : (s : S) (f g : List I → Bool) → ((xs : List I) → f xs ≡ true → g xs ≡ true) → (xs : List I) → takes_first (one s) f xs ≡ true → takes_first (other s) g xs ≡ true
  first_more s f g h [] e = e
  first_more s f g h (x ∷ xs) e = both_of (other s x) (g xs) (more s x (left_of (one s x) (f xs) e)) (h xs (right_of (one s x) (f xs) e))

  step_more : (any : Bool) (s : S) (f g : List I → Bool) → ((xs : List I) → f xs ≡ true → g xs ≡ true) → (xs : List I)
      → (if any then passes_somewhere f xs else takes_first (one s) f xs) ≡ true → (if any then passes_somewhere g xs else takes_first (other s) g xs) ≡ true
  step_more true s f g h xs e = somewhere_more f g h xs e
  step_more false s f g h xs e = first_more s f g h xs e

  pub fits_more : (p : List S) (xs : List I) → fits_items is_any one p xs ≡ true → fits_items is_any other p xs ≡ true
  fits_more [] xs e = e
  fits_more (s ∷ p) xs e = step_more (is_any s) s (fits_items is_any one p) (fits_items is_any other p) (fits_more p) xs e

pub piece_over : (piece text : List ℕ) → piece_covers piece text ≡ true → piece_fits piece text ≡ true
piece_over piece text e = fits_more is_star covers_byte takes_byte (λ s i h. right_of (not (is_star i)) (s == 37 || s == i) h) piece text e

pub mask_over : (mask text : List ℕ) → mask_covers mask text ≡ true → mask_fits mask text ≡ true
mask_over mask text e =
    fits_more is_two_stars qualifier_covers piece_fits (λ s i h. piece_over s i (right_of (not (is_two_stars i)) (piece_covers s i) h)) (qualifiers_of mask) (qualifiers_of text) e

made_if : (b : Bool) (word : List ℕ) → is_some (if b then Some word else None) ≡ true → (if b then Some word else None) ≡ Some word
made_if true word h = refl
made_if false word h = never h

pub mask_made : (word : List ℕ) → is_mask word ≡ true → mask_of word ≡ Some word
mask_made word h = made_if (texts.is_mask word) word h

pub simple_made : (word : List ℕ) → is_simple word ≡ true → simple_of word ≡ Some word
simple_made word h = made_if (texts.is_simple word) word h

-- words beside a variable that takes masks

beside_kind : (k : VariableKind) (whole : Bool) (word : List ℕ) → not (is_counted_kind k) ≡ true → word_beside k whole word ≡ mask_comparand whole word
beside_kind kind.Text whole word h = refl
beside_kind kind.Volumes whole word h = refl
beside_kind kind.Groups whole word h = refl
beside_kind kind.Number whole word h = never h
beside_kind kind.Size whole word h = never h

abbrev masks_beside : Option Variable → Bool
masks_beside variable = passes (λ (v : Variable). not (is_counted_kind v.kind)) variable

beside : (variable : Option Variable) (whole : Bool) (word : List ℕ) → masks_beside variable ≡ true → word_comparand variable whole word ≡ mask_comparand whole word
beside None whole word h = never h
beside (Some variable) whole word h = beside_kind variable.kind whole word h

same_index : (one other : Option (List ℕ)) → is_same_index one other ≡ true → one ≡ other
same_index None None h = refl
same_index None (Some other) h = never h
same_index (Some one) None h = never h
same_index (Some one) (Some other) h = ap (λ (x : List ℕ). Some x) (same_text one other h)

same_name : (one other : Ref) → is_same_ref one other ≡ true → one.name ≡ other.name
same_name one other h = same_text one.name other.name (left_of (bytes_eq one.name other.name) (is_same_index one.index other.index) h)

same_place : (one other : Ref) → is_same_ref one other ≡ true → one.index ≡ other.index
same_place one other h = same_index one.index other.index (right_of (bytes_eq one.name other.name) (is_same_index one.index other.index) h)

abbrev unranked : ℕ → Compare
unranked n =
    if n == 0 then Eq else if n == 1 then Ne else if n == 2 then Gt else if n == 3 then Lt else if n == 4 then Ge else if n == 5 then Le else if n == 6 then Ng else Nl

unrank : (op : Compare) → unranked (rank_of op) ≡ op
unrank Eq = refl
unrank Ne = refl
unrank Gt = refl
unrank Lt = refl
unrank Ge = refl
unrank Le = refl
unrank Ng = refl
unrank Nl = refl

same_op : (one other : Compare) → (rank_of one == rank_of other) ≡ true → one ≡ other
same_op one other h = sym (unrank one) ∙ ap unranked (eqb-true (rank_of one) (rank_of other) h) ∙ unrank other

module _ (body : List Stmt) where
  -- names are the same by their bytes

  abbrev named_by : Bool → List ℕ → Option (List ℕ) → Comparand
  named_by whole name index = if is_some (variable_of name) then comparand.Var name (index_of index) else list_comparand whole (list_named body name)

  name_same : (whole : Bool) (one other : Ref) → is_same_ref one other ≡ true → name_comparand body whole one ≡ name_comparand body whole other
  name_same whole one other h = ap (λ (n : List ℕ). named_by whole n one.index) (same_name one other h) ∙ ap (λ (i : Option (List ℕ)). named_by whole other.name i) (same_place one other h)

  pub operand_same : (left : Ref) (one other : OperandForm) → is_same_operand one other ≡ true → form_comparand body left one ≡ form_comparand body left other
  operand_same left (Literal one) (Literal other) h = ap (λ (x : List ℕ). comparand.Literal x) (same_text one other h)
  operand_same left (Literal one) (Word other) h = never h
  operand_same left (Literal one) (Var other) h = never h
  operand_same left (Word one) (Literal other) h = never h
  operand_same left (Word one) (Word other) h = ap (λ (x : List ℕ). word_comparand (variable_of left.name) (is_whole_name left) x) (same_text one other h)
  operand_same left (Word one) (Var other) h = never h
  operand_same left (Var one) (Literal other) h = never h
  operand_same left (Var one) (Word other) h = never h
  operand_same left (Var one) (Var other) h = name_same (is_whole_name left) one other h

  abbrev whole_by : List ℕ → Option (List ℕ) → Bool
  whole_by name index = bytes_eq name (codes "DSN") && is_none index

  left_same : (one other : Ref) → is_same_ref one other ≡ true → (form : OperandForm) → form_comparand body one form ≡ form_comparand body other form
  left_same one other h (Literal text) = refl
  left_same one other h (Word word) =
      ap (λ (n : List ℕ). word_comparand (variable_of n) (whole_by n one.index) word) (same_name one other h) ∙ ap (λ (i : Option (List ℕ)). word_comparand (variable_of other.name) (whole_by other.name i) word) (same_place one other h)
  left_same one other h (Var ref) =
      ap (λ (n : List ℕ). name_comparand body (whole_by n one.index) ref) (same_name one other h) ∙ ap (λ (i : Option (List ℕ)). name_comparand body (whole_by other.name i) ref) (same_place one other h)

  module _ (input : Input) (values : Values) where
    -- a wider mask

    abbrev Equals : Comparand → List ℕ → Type 0
    Equals right text = text_equals input values right text ≡ true

    dots_fit : (b : Bool) (word text : List ℕ) → Equals (comparand_or comparand.Dots (if b then Some word else None)) text → mask_fits word text ≡ true
    dots_fit true word text h = h
    dots_fit false word text h = never h

    plain_fits : (b : Bool) (word text : List ℕ) → Equals (comparand_or comparand.Plain (if b then Some word else None)) text → simple_fits word text ≡ true
    plain_fits true word text h = h
    plain_fits false word text h = never h

    dots_made : (word text : List ℕ) → is_mask word ≡ true → mask_fits word text ≡ true → Equals (mask_comparand true word) text
    dots_made word text m h = ap (λ (o : Option (List ℕ)). text_equals input values (comparand_or comparand.Dots o) text) (mask_made word m) ∙ h

    plain_made : (word text : List ℕ) → is_simple word ≡ true → simple_fits word text ≡ true → Equals (mask_comparand false word) text
    plain_made word text m h = ap (λ (o : Option (List ℕ)). text_equals input values (comparand_or comparand.Plain o) text) (simple_made word m) ∙ h

    abbrev covers_by : Bool → Bool → List ℕ → List ℕ → Bool
    covers_by takes whole wide word = if whole then mask_covers wide word && (is_mask wide && takes) else piece_covers wide word && (is_simple wide && takes)

    takes_by : (takes whole : Bool) (wide word : List ℕ) → covers_by takes whole wide word ≡ true → takes ≡ true
    takes_by takes true wide word h = right_of (is_mask wide) takes (right_of (mask_covers wide word) (is_mask wide && takes) h)
    takes_by takes false wide word h = right_of (is_simple wide) takes (right_of (piece_covers wide word) (is_simple wide && takes) h)

    mask_wider : (takes whole : Bool) (wide word text : List ℕ) → covers_by takes whole wide word ≡ true → Equals (mask_comparand whole word) text → Equals (mask_comparand whole wide) text
    mask_wider takes true wide word text h k =
        dots_made wide text (left_of (is_mask wide) takes (right_of (mask_covers wide word) (is_mask wide && takes) h))
        (mask_through wide word text (left_of (mask_covers wide word) (is_mask wide && takes) h) (dots_fit (texts.is_mask word) word text k))
    mask_wider takes false wide word text h k =
        plain_made wide text (left_of (is_simple wide) takes (right_of (piece_covers wide word) (is_simple wide && takes) h))
        (simple_through wide word text (left_of (piece_covers wide word) (is_simple wide && takes) h) (plain_fits (texts.is_simple word) word text k))

    mask_of_text : (takes whole : Bool) (wide text : List ℕ) → covers_by takes whole wide text ≡ true → Equals (mask_comparand whole wide) text
    mask_of_text takes true wide text h =
        dots_made wide text (left_of (is_mask wide) takes (right_of (mask_covers wide text) (is_mask wide && takes) h)) (mask_over wide text (left_of (mask_covers wide text) (is_mask wide && takes) h))
    mask_of_text takes false wide text h =
        plain_made wide text (left_of (is_simple wide) takes (right_of (piece_covers wide text) (is_simple wide && takes) h)) (piece_over wide text (left_of (piece_covers wide text) (is_simple wide && takes) h))

    dots_no_number : (b : Bool) (word : List ℕ) → number_beside input values (comparand_or comparand.Dots (if b then Some word else None)) ≡ None
    dots_no_number true word = refl
    dots_no_number false word = refl

    plain_no_number : (b : Bool) (word : List ℕ) → number_beside input values (comparand_or comparand.Plain (if b then Some word else None)) ≡ None
    plain_no_number true word = refl
    plain_no_number false word = refl

    no_number : (whole : Bool) (word : List ℕ) → number_beside input values (mask_comparand whole word) ≡ None
    no_number true word = dots_no_number (texts.is_mask word) word
    no_number false word = plain_no_number (texts.is_simple word) word

    abbrev word_at : Ref → List ℕ → Comparand
    word_at left word = word_comparand (variable_of left.name) (is_whole_name left) word

    as_mask : (left : Ref) (wide word other : List ℕ) → word_covers left wide word ≡ true → word_at left other ≡ mask_comparand (is_whole_name left) other
    as_mask left wide word other h = beside (variable_of left.name) (is_whole_name left) other (takes_by (takes_masks left) (is_whole_name left) wide word h)

    word_wider : (left : Ref) (wide word text : List ℕ) → word_covers left wide word ≡ true → Equals (word_at left word) text → Equals (word_at left wide) text
    word_wider left wide word text h k =
        subst (λ (c : Comparand). Equals c text) (sym (as_mask left wide word wide h))
        (mask_wider (takes_masks left) (is_whole_name left) wide word text h (subst (λ (c : Comparand). Equals c text) (as_mask left wide word word h) k))

    word_of_text : (left : Ref) (wide text : List ℕ) → word_covers left wide text ≡ true → Equals (word_at left wide) text
    word_of_text left wide text h =
        subst (λ (c : Comparand). Equals c text) (sym (as_mask left wide text wide h)) (mask_of_text (takes_masks left) (is_whole_name left) wide text h)

    word_no_number : (left : Ref) (wide word : List ℕ) → word_covers left wide word ≡ true → number_beside input values (word_at left word) ≡ None
    word_no_number left wide word h = ap (number_beside input values) (as_mask left wide word word h) ∙ no_number (is_whole_name left) word

    -- what a variable equals it equals by a wider operand
    pub covers_through : (left : Ref) (wide item : OperandForm) (value : Value) → covers left wide item ≡ true → compares input values Eq value (form_comparand body left item) ≡ true
        → compares input values Eq value (form_comparand body left wide) ≡ true
    covers_through left (Literal wide) (Literal text) value h k = subst (λ (x : List ℕ). compares input values Eq value (comparand.Literal x) ≡ true) (sym (same_text wide text h)) k
    covers_through left (Literal wide) (Word word) value h k = never h
    covers_through left (Literal wide) (Var ref) value h k = never h
    covers_through left (Word wide) (Literal text) value h k =
        wider_holds input values value (comparand.Literal text) (word_at left wide) refl
        (λ found e. subst (λ (x : List ℕ). Equals (word_at left wide) x) (sym (same_text found text e)) (word_of_text left wide text h)) k
    covers_through left (Word wide) (Word word) value h k =
        either_of (bytes_eq wide word) (word_covers left wide word) h
        (λ e. subst (λ (x : List ℕ). compares input values Eq value (word_at left x) ≡ true) (sym (same_text wide word e)) k)
        (λ e. wider_holds input values value (word_at left word) (word_at left wide) (word_no_number left wide word e) (λ text f. word_wider left wide word text e f) k)
    covers_through left (Word wide) (Var ref) value h k = never h
    covers_through left (Var wide) (Literal text) value h k = never h
    covers_through left (Var wide) (Word word) value h k = never h
    covers_through left (Var wide) (Var ref) value h k = ap (compares input values Eq value) (name_same (is_whole_name left) wide ref h) ∙ k

    -- NE is what EQ isn't
    number_differs : (left : ℕ) (right : Option ℕ) → number_compares Ne left right ≡ not (number_compares Eq left right)
    number_differs left None = refl
    number_differs left (Some right) = refl

    differs : (value : Value) (right : Comparand) → compares input values Ne value right ≡ not (compares input values Eq value right)
    differs (Text text) right = refl
    differs (Number number) right = number_differs number (number_beside input values right)
    differs (Size kilobytes) right = number_differs kilobytes (number_beside input values right)
    differs (AnyOf volumes) right = refl
    differs (AllOf volumes) right = refl
    differs (Groups groups) right = refl

    not_through : (left : Ref) (right other : OperandForm) (value : Value) → covers left right other ≡ true → compares input values Ne value (form_comparand body left right) ≡ true
        → compares input values Ne value (form_comparand body left other) ≡ true
    not_through left right other value h k =
        differs value (form_comparand body left other)
        ∙ unless (compares input values Eq value (form_comparand body left right)) (compares input values Eq value (form_comparand body left other)) (λ e. covers_through left right other value h e)
        (sym (differs value (form_comparand body left right)) ∙ k)

    same_through : (left : Ref) (op : Compare) (right other : OperandForm) (value : Value) → is_same_operand right other ≡ true → compares input values op value (form_comparand body left right) ≡ true
        → compares input values op value (form_comparand body left other) ≡ true
    same_through left op right other value h k = subst (λ (c : Comparand). compares input values op value c ≡ true) (operand_same left right other h) k

    right_through : (left : Ref) (op : Compare) (right other : OperandForm) (value : Value) → right_implies left op right other ≡ true → compares input values op value (form_comparand body left right) ≡ true
        → compares input values op value (form_comparand body left other) ≡ true
    right_through left Eq right other value h k = covers_through left other right value h k
    right_through left Ne right other value h k = not_through left right other value h k
    right_through left Gt right other value h k = same_through left Gt right other value h k
    right_through left Lt right other value h k = same_through left Lt right other value h k
    right_through left Ge right other value h k = same_through left Ge right other value h k
    right_through left Le right other value h k = same_through left Le right other value h k
    right_through left Ng right other value h k = same_through left Ng right other value h k
    right_through left Nl right other value h k = same_through left Nl right other value h k

    abbrev value_by : List ℕ → Option (List ℕ) → Value
    value_by name index = variable_value name (index_of index) input values

    value_same : (one other : Ref) → is_same_ref one other ≡ true → value_by one.name one.index ≡ value_by other.name other.index
    value_same one other h = ap (λ (n : List ℕ). value_by n one.index) (same_name one other h) ∙ ap (λ (i : Option (List ℕ)). value_by other.name i) (same_place one other h)

    pub test_through : (left : Ref) (op : Compare) (right : Operand) (left' : Ref) (op' : Compare) (right' : Operand) → test_implies left op right left' op' right' ≡ true
        → comparison body left op right input values ≡ true → comparison body left' op' right' input values ≡ true
    test_through left op right left' op' right' h k =
        let refs = left_of (is_same_ref left left') (rank_of op == rank_of op' && right_implies left op right.form right'.form) h in
        let rest = right_of (is_same_ref left left') (rank_of op == rank_of op' && right_implies left op right.form right'.form) h in
        let ops = same_op op op' (left_of (rank_of op == rank_of op') (right_implies left op right.form right'.form) rest) in
        let rights = right_of (rank_of op == rank_of op') (right_implies left op right.form right'.form) rest in
        let value = value_by left.name left.index in
        ap (λ (o : Compare). compares input values o (value_by left'.name left'.index) (form_comparand body left' right'.form)) (sym ops)
        ∙ ap (λ (v : Value). compares input values op v (form_comparand body left' right'.form)) (sym (value_same left left' refs))
        ∙ ap (compares input values op value) (sym (left_same left left' refs right'.form))
        ∙ right_through left op right.form right'.form value rights k

    -- conditions

    abbrev Holding : Cond → Type 0
    Holding cond = holds body cond input values ≡ true

    holds_test : (left : Ref) (op : Compare) (at : ℕ) (right : Operand) → holds body (Test left op at right) input values ≡ comparison body left op right input values
    holds_test left op at right =
        ap (λ (c : Cond). holds body c input values) (sym (rolls-Test left op at right))
        ∙ ap (λ (f : conditions.Test). f input values) (fold-roll-Cond conditions.Test (conditions.cond_step body) (Cond-F.Test left op at right))

    module _ (asked : Asked) (goal : Bool) (reached : (left : Ref) (op : Compare) (at : ℕ) (right : Operand) → asked left op at right ≡ true → comparison body left op right input values ≡ true → goal ≡ true) where
      abbrev Ways : Cond → Type 0
      Ways cond = each_way asked cond ≡ true → Holding cond → goal ≡ true

      way_layer : (y : Cond-F ((c : Cond) × Ways c)) → Ways (roll-Cond (map-Cond ((c : Cond) × Ways c) Cond (λ e. e.0) y))
      way_layer (Cond-F.And one two) h k =
          let a = sym (fold-roll-Cond Bool (ways_step asked) (Cond-F.And one.0 two.0)) ∙ h in
          let b = sym (ap (λ (f : conditions.Test). f input values) (fold-roll-Cond conditions.Test (conditions.cond_step body) (Cond-F.And one.0 two.0))) ∙ k in
          either_of (each_way asked one.0) (each_way asked two.0) a
          (λ e. one.1 e (left_of (holds body one.0 input values) (holds body two.0 input values) b))
          (λ e. two.1 e (right_of (holds body one.0 input values) (holds body two.0 input values) b))
      way_layer (Cond-F.Or one two) h k =
          let a = sym (fold-roll-Cond Bool (ways_step asked) (Cond-F.Or one.0 two.0)) ∙ h in
          let b = sym (ap (λ (f : conditions.Test). f input values) (fold-roll-Cond conditions.Test (conditions.cond_step body) (Cond-F.Or one.0 two.0))) ∙ k in
          either_of (holds body one.0 input values) (holds body two.0 input values) b
          (λ e. one.1 (left_of (each_way asked one.0) (each_way asked two.0) a) e)
          (λ e. two.1 (right_of (each_way asked one.0) (each_way asked two.0) a) e)
      way_layer (Cond-F.Test left op at right) h k =
          reached left op at right (sym (fold-roll-Cond Bool (ways_step asked) (Cond-F.Test left op at right)) ∙ h)
          (sym (ap (λ (f : conditions.Test). f input values) (fold-roll-Cond conditions.Test (conditions.cond_step body) (Cond-F.Test left op at right))) ∙ k)

      pub ways_through : (cond : Cond) → Ways cond
      ways_through = ind-Cond Ways (λ x y is. subst (λ z. Ways (roll-Cond z)) is (way_layer y))

    abbrev Implied : Cond → Type 0
    Implied cond = (later : Cond) → implied_by cond later ≡ true → Holding later → Holding cond

    abbrev asked_of : Cond → Cond → Asked
    asked_of one two left op at right = implied_by one (Test left op at right) || implied_by two (Test left op at right)

    implied_layer : (y : Cond-F ((c : Cond) × Implied c)) → Implied (roll-Cond (map-Cond ((c : Cond) × Implied c) Cond (λ e. e.0) y))
    implied_layer (Cond-F.And one two) later h k =
        let a = sym (ap (λ (f : Cond → Bool). f later) (fold-roll-Cond (Cond → Bool) implied_step (Cond-F.And one.0 two.0))) ∙ h in
        ap (λ (f : conditions.Test). f input values) (fold-roll-Cond conditions.Test (conditions.cond_step body) (Cond-F.And one.0 two.0))
        ∙ both_of (holds body one.0 input values) (holds body two.0 input values) (one.1 later (left_of (implied_by one.0 later) (implied_by two.0 later) a) k)
        (two.1 later (right_of (implied_by one.0 later) (implied_by two.0 later) a) k)
    implied_layer (Cond-F.Or one two) later h k =
        let a = sym (ap (λ (f : Cond → Bool). f later) (fold-roll-Cond (Cond → Bool) implied_step (Cond-F.Or one.0 two.0))) ∙ h in
        let p = holds body one.0 input values in
        let q = holds body two.0 input values in
        ap (λ (f : conditions.Test). f input values) (fold-roll-Cond conditions.Test (conditions.cond_step body) (Cond-F.Or one.0 two.0))
        ∙ ways_through (asked_of one.0 two.0) (p || q)
        (λ left op at right e f.
        either_of (implied_by one.0 (Test left op at right)) (implied_by two.0 (Test left op at right)) e
        (λ g. on_left p q (one.1 (Test left op at right) g (holds_test left op at right ∙ f)))
        (λ g. on_right p q (two.1 (Test left op at right) g (holds_test left op at right ∙ f)))) later a k
    implied_layer (Cond-F.Test left' op' at' right') later h k =
        let a = sym (ap (λ (f : Cond → Bool). f later) (fold-roll-Cond (Cond → Bool) implied_step (Cond-F.Test left' op' at' right'))) ∙ h in
        ap (λ (f : conditions.Test). f input values) (fold-roll-Cond conditions.Test (conditions.cond_step body) (Cond-F.Test left' op' at' right'))
        ∙ ways_through (λ left op at right. test_implies left op right left' op' right') (comparison body left' op' right' input values)
        (λ left op at right e f. test_through left op right left' op' right' e f) later a k

    pub implied_through : (earlier : Cond) → Implied earlier
    implied_through = ind-Cond Implied (λ x y is. subst (λ z. Implied (roll-Cond z)) is (implied_layer y))

    -- WHENs

    one_of : (subject : Ref) (item : Operand) (others : List Operand) → any_covers subject others item ≡ true → comparison body subject Eq item input values ≡ true → equals_any body subject others input values ≡ true
    one_of subject item [] h k = never h
    one_of subject item (other ∷ others) h k =
        either_of (covers subject other.form item.form) (any_covers subject others item) h
        (λ e. on_left (comparison body subject Eq other input values) (equals_any body subject others input values) (covers_through subject other.form item.form (value_by subject.name subject.index) e k))
        (λ e. on_right (comparison body subject Eq other input values) (equals_any body subject others input values) (one_of subject item others e k))

    items_through : (subject : Ref) (others items : List Operand) → list_all (any_covers subject others) items ≡ true → equals_any body subject items input values ≡ true → equals_any body subject others input values ≡ true
    items_through subject others [] h k = never k
    items_through subject others (item ∷ items) h k =
        either_of (comparison body subject Eq item input values) (equals_any body subject items input values) k
        (λ e. one_of subject item others (left_of (any_covers subject others item) (list_all (any_covers subject others) items) h) e)
        (λ e. items_through subject others items (right_of (any_covers subject others item) (list_all (any_covers subject others) items) h) e)

    pub when_through : (subject : Option Ref) (earlier later : WhenTest) → test_implied subject earlier later ≡ true → when_holds body subject later input values ≡ true → when_holds body subject earlier input values ≡ true
    when_through None (Holds earlier) (Holds later) h k = implied_through earlier later h k
    when_through (Some subject) (Holds earlier) (Holds later) h k = implied_through earlier later h k
    when_through None (Holds earlier) (Any items) h k = never h
    when_through (Some subject) (Holds earlier) (Any items) h k = never h
    when_through None (Any others) (Holds later) h k = never h
    when_through (Some subject) (Any others) (Holds later) h k = never h
    when_through None (Any others) (Any items) h k = never h
    when_through (Some subject) (Any others) (Any items) h k = items_through subject others items h k
