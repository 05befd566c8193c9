-- Each finding is true.
use Rattle.std.proofs.Common.{◌≡◌, ◌⊎◌, inl, inr, ℕ, Bool, true, false, List, [], ◌∷◌, ◌++◌, bytes_eq, refl, sym, ap, ◌∙◌, subst}
use Rattle.std.specs.Prelude.{Option, Some, None, flat_map, if◌then◌else◌}
use Rattle.std.specs.List.{AllByRecursion, list_any}
use Rattle.acs_tree.specs.declared.routine.Form.{Form, roll-Form}
use Rattle.acs_tree.specs.declared.routine.Form.TheOpen.{Form-F}
use Rattle.acs_tree.specs.declared.routine.Form.TheVariants.{Filt, Pick, Do, rolls-Filt, rolls-Pick, rolls-Do}
use Rattle.acs_tree.specs.declared.routine.Operand.{Operand}
use Rattle.acs_tree.specs.declared.routine.OperandForm.{OperandForm}
use Rattle.acs_tree.specs.declared.routine.OperandForm.TheVariants.{Literal, Word, Var}
use Rattle.acs_tree.specs.declared.routine.Routine.{Routine}
use Rattle.acs_tree.specs.declared.routine.Stmt.{Stmt}
use Rattle.acs_tree.specs.declared.routine.When.{When}
use Rattle.acs_tree.specs.Comparands.{entry_of, form_comparand}
use Rattle.acs_tree.specs.Compares.{text_equals}
use Rattle.acs_tree.specs.Sound.{Among}
use Rattle.acs_lint.specs.Blocks.{behind_in}
use Rattle.acs_lint.specs.Entries.{spare_in}
use Rattle.acs_lint.specs.Findings.{compared_in, findings_of, found_at, found_in}
use Rattle.acs_lint.specs.Meant.{IsFinding, IsQuoted, IsUnused, fits_if}
use Rattle.acs_lint.specs.Statements.{shape_of, statements_of}
use Rattle.acs_lint.specs.Uses.{is_wildcard, names_in, operands_in, quoted_by, quoted_in, unused_at, unused_in}
use Rattle.acs_lint.specs.declared.finding.Finding.{Finding}
use Rattle.acs_lint.specs.declared.finding.Finding.TheVariants.{Quoted, Unused}
use Rattle.acs_lint.proofs.BlockLemmas.{behind_all}
use Rattle.acs_lint.proofs.EntryLemmas.{spare_all}
use Rattle.acs_lint.proofs.ListLemmas.{all_append, all_flat}
use Rattle.acs_lint.proofs.StatementLemmas.{rolls}
use Rattle.acs_lint.proofs.UnusedLemmas.{body_same}
use Rattle.acs_lint.proofs.WhenLemmas.{covered_all}

module _ (routine : Routine) where
  abbrev AreTrue : List Finding → Type 0
  AreTrue findings = AllByRecursion (IsFinding routine) findings

  -- a statement is what it is made of
  is_made : (s : Stmt) (shape : Form-F Form Stmt When) (form : Form) → shape_of s.form ≡ shape → roll-Form shape ≡ form → s.form ≡ form
  is_made s shape form e f = sym (rolls s.form) ∙ ap roll-Form e ∙ f

  found_true : (s : Stmt) → Among s (statements_of routine) → (shape : Form-F Form Stmt When) → shape_of s.form ≡ shape → AreTrue (found_in shape)
  found_true s m (Form-F.Filt name name_at include exclude) e =
      let list = is_made s (Form-F.Filt name name_at include exclude) (Filt name name_at include exclude) e (rolls-Filt name name_at include exclude) in
      all_append (IsFinding routine) (spare_in include) (spare_in exclude)
      (spare_all routine s m name name_at include exclude list include (inl refl) [] include refl) (spare_all routine s m name name_at include exclude list exclude (inr refl) [] exclude refl)
  found_true s m (Form-F.Put target values) e = tt
  found_true s m (Form-F.If cond first otherwise) e = tt
  found_true s m (Form-F.Pick subject whens otherwise) e =
      covered_all routine s m subject whens otherwise (is_made s (Form-F.Pick subject whens otherwise) (Pick subject whens otherwise) e (rolls-Pick subject whens otherwise)) [] whens refl
  found_true s m (Form-F.Do block) e = behind_all routine block (inr (s, m, is_made s (Form-F.Do block) (Do block) e (rolls-Do block))) [] block refl
  found_true s m (Form-F.Write parts) e = tt
  found_true s m (Form-F.Exit code) e = tt

  quoted_true : (operand : Operand) → Among operand (operands_in (statements_of routine)) → (form : OperandForm) → operand.form ≡ form → AreTrue (quoted_by operand.at form)
  quoted_true operand m (Literal text) e = step (list_any is_wildcard text) refl
    where
      step : (b : Bool) → list_any is_wildcard text ≡ b → AreTrue (if b then Quoted operand.at ∷ [] else [])
      step true w = (
        record {
          operand = operand;
          among = m;
          literal_is = refl;
          text = text;
          form_is = e;
          wild = w;
          as_it_stands = λ left input values value. ap (λ (f : OperandForm). text_equals input values (form_comparand routine.body left f) value) e;
          as_an_entry = λ whole value. ap (λ (f : OperandForm). fits_if value (entry_of whole f)) e;
        },
        tt,
      )
      step false w = tt
  quoted_true operand m (Word word) e = tt
  quoted_true operand m (Var ref) e = tt

  unused_true : (s : Stmt) → Among s (statements_of routine) → (shape : Form-F Form Stmt When) → shape_of s.form ≡ shape → AreTrue (unused_at (names_in (operands_in (statements_of routine))) shape)
  unused_true s m (Form-F.Filt name name_at include exclude) e = step (list_any (bytes_eq name) (names_in (operands_in (statements_of routine)))) refl
    where
      step : (b : Bool) → list_any (bytes_eq name) (names_in (operands_in (statements_of routine))) ≡ b → AreTrue (if b then [] else Unused name_at ∷ [])
      step true u = tt
      step false u = (
        record {
          statement = s;
          among = m;
          name = name;
          include = include;
          exclude = exclude;
          is_list = is_made s (Form-F.Filt name name_at include exclude) (Filt name name_at include exclude) e (rolls-Filt name name_at include exclude);
          unnamed = u;
          means_the_same = λ kind lists alike input values. body_same name routine.body lists alike kind routine.body u input values;
        },
        tt,
      )
  unused_true s m (Form-F.Put target values) e = tt
  unused_true s m (Form-F.If cond first otherwise) e = tt
  unused_true s m (Form-F.Pick subject whens otherwise) e = tt
  unused_true s m (Form-F.Do block) e = tt
  unused_true s m (Form-F.Write parts) e = tt
  unused_true s m (Form-F.Exit code) e = tt

  pub findings_true : AreTrue (findings_of routine)
  findings_true =
      let statements = statements_of routine in
      let operands = operands_in statements in
      all_append (IsFinding routine) (behind_in routine.body) (flat_map found_at statements ++ compared_in statements) (behind_all routine routine.body (inl refl) [] routine.body refl)
      (all_append (IsFinding routine) (flat_map found_at statements) (compared_in statements)
      (all_flat (IsFinding routine) found_at statements (λ s m. found_true s m (shape_of s.form) refl))
      (all_append (IsFinding routine) (quoted_in operands) (unused_in (names_in operands) statements)
      (all_flat (IsFinding routine) (λ (operand : Operand). quoted_by operand.at operand.form) operands (λ o m. quoted_true o m o.form refl))
      (all_flat (IsFinding routine) (λ (s : Stmt). unused_at (names_in operands) (shape_of s.form)) statements (λ s m. unused_true s m (shape_of s.form) refl))))
