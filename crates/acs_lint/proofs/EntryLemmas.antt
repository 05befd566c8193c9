-- Entries of filter lists that others cover.
use Rattle.std.proofs.Common.{◌≡◌, ◌&&◌, ◌||◌, ℕ, Bool, true, false, not, List, [], ◌∷◌, ◌++◌, ◌⊎◌, inl, inr, bytes_eq, refl, sym, ap, ◌∙◌, subst, append_assoc}
use Rattle.std.specs.Prelude.{Option, Some, None, is_some, option_map, unwrap_or, if◌then◌else◌}
use Rattle.std.specs.List.{AllByRecursion, list_all}
use Rattle.dsn_mask.specs.MaskTest.{mask_fits, simple_fits}
use Rattle.dsn_mask.specs.MaskText as texts
use Rattle.dsn_mask.specs.MaskText.{mask_of, simple_of}
use Rattle.dsn_mask.specs.declared.entry.Entry.{Entry}
use Rattle.dsn_mask.specs.declared.entry.Entry.TheVariants as entries
use Rattle.acs_trace.proofs.LintLemmas.{mask_through, simple_through}
use Rattle.acs_trace.specs.Lint.{mask_covers, piece_covers}
use Rattle.acs_tree.specs.declared.routine.Form.TheVariants.{Filt}
use Rattle.acs_tree.specs.declared.routine.Operand.{Operand}
use Rattle.acs_tree.specs.declared.routine.OperandForm.{OperandForm}
use Rattle.acs_tree.specs.declared.routine.OperandForm.TheVariants.{Literal, Word, Var}
use Rattle.acs_tree.specs.declared.routine.Ref.{Ref}
use Rattle.acs_tree.specs.declared.routine.Routine.{Routine}
use Rattle.acs_tree.specs.declared.routine.Stmt.{Stmt}
use Rattle.acs_tree.specs.Comparands.{entry_of}
use Rattle.acs_tree.specs.FilterLists.{are_simple, is_mask, is_simple, is_simple_entry}
use Rattle.acs_tree.specs.Sound.{Among}
use Rattle.acs_lint.specs.Entries.{covers_entry, covers_mask, covers_text, entry_coverer, spare_behind, spare_if}
use Rattle.acs_lint.specs.Meant.{IsFinding, IsSpare, MayBeCompared, fits, fits_if}
use Rattle.acs_lint.specs.Statements.{statements_of}
use Rattle.acs_lint.proofs.BoolLemmas.{either_of, left_of, never, right_of, same_text}
use Rattle.acs_lint.proofs.CoverLemmas.{mask_made, mask_over, piece_over, simple_made}
use Rattle.acs_lint.proofs.ListLemmas.{all_append, any_here, any_without}

abbrev FitsForm : Bool → List ℕ → OperandForm → Type 0
FitsForm whole value form = fits_if value (entry_of whole form) ≡ true

dots_fit : (word value : List ℕ) → is_mask word ≡ true → mask_fits word value ≡ true → FitsForm true value (Word word)
dots_fit word value m h = ap (λ (o : Option (List ℕ)). fits_if value (option_map entries.Dots o)) (mask_made word m) ∙ h

plain_fits : (word value : List ℕ) → is_simple word ≡ true → simple_fits word value ≡ true → FitsForm false value (Word word)
plain_fits word value m h = ap (λ (o : Option (List ℕ)). fits_if value (option_map entries.Plain o)) (simple_made word m) ∙ h

given : (a b : Bool) → a ≡ true → (not a || b) ≡ true → b ≡ true
given true b e h = h
given false b e h = never e

-- a word is a simple mask, where it is compared as one
abbrev Suits : Bool → List ℕ → Type 0
Suits whole word = (whole ≡ true) ⊎ (is_simple word ≡ true)

simple_of_suits : (word : List ℕ) → Suits false word → is_simple word ≡ true
simple_of_suits word (inl e) = never e
simple_of_suits word (inr e) = e

text_wider : (whole : Bool) (wide text value : List ℕ) → covers_text wide text ≡ true → Suits whole wide → text ≡ value → FitsForm whole value (Word wide)
text_wider true wide text value h s e =
    let dotted = left_of (mask_covers wide text && is_mask wide) (not (is_simple wide) || piece_covers wide text) h in
    dots_fit wide value (right_of (mask_covers wide text) (is_mask wide) dotted) (ap (mask_fits wide) (sym e) ∙ mask_over wide text (left_of (mask_covers wide text) (is_mask wide) dotted))
text_wider false wide text value h s e =
    let plain = right_of (mask_covers wide text && is_mask wide) (not (is_simple wide) || piece_covers wide text) h in
    plain_fits wide value (simple_of_suits wide s) (ap (simple_fits wide) (sym e) ∙ piece_over wide text (given (is_simple wide) (piece_covers wide text) (simple_of_suits wide s) plain))

dots_of : (b : Bool) (word value : List ℕ) → fits_if value (option_map entries.Dots (if b then Some word else None)) ≡ true → mask_fits word value ≡ true
dots_of true word value k = k
dots_of false word value k = never k

plain_of : (b : Bool) (word value : List ℕ) (wider : Bool) → (not (is_some (if b then Some word else None)) || wider) ≡ true → fits_if value (option_map entries.Plain (if b then Some word else None)) ≡ true
    → (simple_fits word value ≡ true) × (wider ≡ true)
plain_of true word value wider h k = (k, h)
plain_of false word value wider h k = never k

mask_wider : (whole : Bool) (wide word value : List ℕ) → covers_mask wide word ≡ true → Suits whole wide → FitsForm whole value (Word word) → FitsForm whole value (Word wide)
mask_wider true wide word value h s k =
    let dotted = left_of (mask_covers wide word && is_mask wide) (not (is_simple word) || (not (is_simple wide) || piece_covers wide word)) h in
    dots_fit wide value (right_of (mask_covers wide word) (is_mask wide) dotted) (mask_through wide word value (left_of (mask_covers wide word) (is_mask wide) dotted) (dots_of (texts.is_mask word) word value k))
mask_wider false wide word value h s k =
    let plain = right_of (mask_covers wide word && is_mask wide) (not (is_simple word) || (not (is_simple wide) || piece_covers wide word)) h in
    let parts = plain_of (texts.is_simple word) word value (not (is_simple wide) || piece_covers wide word) plain k in
    plain_fits wide value (simple_of_suits wide s) (simple_through wide word value (given (is_simple wide) (piece_covers wide word) (simple_of_suits wide s) parts.1) parts.0)

-- an entry is compared with the whole name, or its word is a simple mask
abbrev SuitsForm : Bool → OperandForm → Type 0
SuitsForm whole form = (whole ≡ true) ⊎ (is_simple_entry form ≡ true)

pub entry_through : (whole : Bool) (wide other : OperandForm) (value : List ℕ) → covers_entry wide other ≡ true → SuitsForm whole wide → FitsForm whole value other → FitsForm whole value wide
entry_through whole (Literal wide) (Literal text) value h s k = subst (λ (x : List ℕ). FitsForm whole value (Literal x)) (sym (same_text wide text h)) k
entry_through whole (Literal wide) (Word word) value h s k = never h
entry_through whole (Literal wide) (Var ref) value h s k = never h
entry_through whole (Word wide) (Literal text) value h s k = text_wider whole wide text value h s (same_text text value k)
entry_through whole (Word wide) (Word word) value h s k =
    either_of (bytes_eq wide word) (covers_mask wide word) h
    (λ e. subst (λ (x : List ℕ). FitsForm whole value (Word x)) (sym (same_text wide word e)) k)
    (λ e. mask_wider whole wide word value e s k)
entry_through whole (Word wide) (Var ref) value h s k = never h
entry_through whole (Var wide) (Literal text) value h s k = never h
entry_through whole (Var wide) (Word word) value h s k = never h
entry_through whole (Var wide) (Var ref) value h s k = never h

-- each item passes a test that all pass
all_at : (test : Operand → Bool) (front : List Operand) (x : Operand) (behind : List Operand) → list_all test (front ++ x ∷ behind) ≡ true → test x ≡ true
all_at test [] x behind h = left_of (test x) (list_all test behind) h
all_at test (y ∷ front) x behind h = all_at test front x behind (right_of (test y) (list_all test (front ++ x ∷ behind)) h)

-- the first entry that covers a later one
record FoundEntry (later : OperandForm) (before : List Operand) (since : ℕ) : Type 0 where
  pub front : List Operand
  pub earlier : Operand
  pub rest : List Operand
  pub before_is : before ≡ front ++ earlier ∷ rest
  pub covers : covers_entry earlier.form later ≡ true
  pub at : earlier.at ≡ since

none_some : {A Q : Type 0} {x : A} → None ≡ Some x → Q
none_some e = absurd cc

found_entry : (later : OperandForm) (before : List Operand) (since : ℕ) → entry_coverer later before ≡ Some since → FoundEntry later before since
found_entry later [] since e = none_some e
found_entry later (entry ∷ others) since e = step (λ f. found_entry later others since f) (covers_entry entry.form later) refl e
  where
    step : (entry_coverer later others ≡ Some since → FoundEntry later others since) → (b : Bool) → covers_entry entry.form later ≡ b → (if b then Some entry.at else entry_coverer later others) ≡ Some since → FoundEntry later (entry ∷ others) since
    step go true c f = record { front = []; earlier = entry; rest = others; before_is = refl; covers = c; at = ap (λ (o : Option ℕ). unwrap_or o 0) f }
    step go false c f =
        let more = go f in
        record { front = entry ∷ more.front; earlier = more.earlier; rest = more.rest; before_is = ap (λ (xs : List Operand). entry ∷ xs) more.before_is; covers = more.covers; at = more.at }

module _ (routine : Routine) (statement : Stmt) (among : Among statement (statements_of routine)) (name : List ℕ) (name_at : ℕ) (include exclude : List Operand) (is_list : statement.form ≡ Filt name name_at include exclude)
    (list : List Operand) (of_list : (list ≡ include) ⊎ (list ≡ exclude)) where
  suits : (whole : Bool) (front : List Operand) (earlier : Operand) (behind : List Operand) → list ≡ front ++ earlier ∷ behind → MayBeCompared whole list → SuitsForm whole earlier.form
  suits whole front earlier behind e (inl w) = inl w
  suits whole front earlier behind e (inr s) = inr (all_at (λ (entry : Operand). is_simple_entry entry.form) front earlier behind (ap are_simple (sym e) ∙ s))

  spare_one : (before : List Operand) (later : Operand) (others : List Operand) (since : ℕ) → list ≡ before ++ later ∷ others → FoundEntry later.form before since → IsSpare routine later.at since
  spare_one before later others since e found =
      let is : list ≡ found.front ++ found.earlier ∷ (found.rest ++ later ∷ others) =
      e ∙ ap (λ (xs : List Operand). xs ++ later ∷ others) found.before_is ∙ append_assoc found.front (found.earlier ∷ found.rest) (later ∷ others) in
      let wider : (whole : Bool) → MayBeCompared whole list → (value : List ℕ) → fits whole value later ≡ true → fits whole value found.earlier ≡ true =
      λ whole may value. entry_through whole found.earlier.form later.form value found.covers (suits whole found.front found.earlier (found.rest ++ later ∷ others) is may) in
      record {
        statement = statement;
        among = among;
        name = name;
        name_at = name_at;
        include = include;
        exclude = exclude;
        is_list = is_list;
        entries = list;
        of_list = of_list;
        earlier = found.earlier;
        later = later;
        stand = record { before = found.front; between = found.rest; behind = others; items_are = is };
        entry_is = refl;
        since_is = found.at;
        fitting = wider;
        fit_the_same = λ whole may value. any_without (fits whole value) (found.front ++ found.earlier ∷ found.rest) later others (λ h. any_here (fits whole value) found.front found.earlier found.rest (wider whole may value h));
      }

  spare_here : (before : List Operand) (later : Operand) (others : List Operand) → list ≡ before ++ later ∷ others → (o : Option ℕ) → entry_coverer later.form before ≡ o → AllByRecursion (IsFinding routine) (spare_if later.at o)
  spare_here before later others e None f = tt
  spare_here before later others e (Some since) f = (spare_one before later others since e (found_entry later.form before since f), tt)

  pub spare_all : (before others : List Operand) → list ≡ before ++ others → AllByRecursion (IsFinding routine) (spare_behind before others)
  spare_all before [] e = tt
  spare_all before (entry ∷ others) e =
      all_append (IsFinding routine) (spare_if entry.at (entry_coverer entry.form before)) (spare_behind (before ++ entry ∷ []) others)
      (spare_here before entry others e (entry_coverer entry.form before) refl) (spare_all (before ++ entry ∷ []) others (e ∙ sym (append_assoc before (entry ∷ []) others)))
