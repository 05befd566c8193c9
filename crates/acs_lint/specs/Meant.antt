-- What each finding means: what certainly never happens in a routine (docs/manual/tool.md, "Linting a deck").
use Rattle.std.specs.Prelude.{◌≡◌, ◌⊎◌, ◌++◌, ℕ, Bool, true, false, List, ◌∷◌, [], Option, None, Some, map}
use Rattle.std.specs.List.{list_any}
use Rattle.std.specs.Str.{bytes_eq}
use Rattle.acs_trace.specs.Lint.{Exits}
use Rattle.acs_trace.specs.Story.{Chapter, Story, first_told, story, tell_form, tell_in_turn, tell_stmt, tell_when}
use Rattle.acs_tree.specs.declared.input.Input.{Input}
use Rattle.acs_tree.specs.declared.kind.Kind.{Kind}
use Rattle.acs_tree.specs.declared.routine.Form.{Form}
use Rattle.acs_tree.specs.declared.routine.Form.TheVariants.{Filt, Pick, Do}
use Rattle.acs_tree.specs.declared.routine.Operand.{Operand}
use Rattle.acs_tree.specs.declared.routine.OperandForm.{OperandForm}
use Rattle.acs_tree.specs.declared.routine.OperandForm.TheVariants.{Literal}
use Rattle.acs_tree.specs.declared.routine.Ref.{Ref}
use Rattle.acs_tree.specs.declared.routine.Routine.{Routine}
use Rattle.acs_tree.specs.declared.routine.Stmt.{Stmt}
use Rattle.acs_tree.specs.declared.routine.When.{When, fold-When, out-When}
use Rattle.acs_tree.specs.declared.values.Values.{Values}
use Rattle.acs_tree.specs.Comparands.{comparand_of, entry_of}
use Rattle.acs_tree.specs.Compares.{text_equals}
use Rattle.acs_tree.specs.Conditions.{when_holds}
use Rattle.acs_tree.specs.FilterLists.{are_simple, list_named}
use Rattle.acs_tree.specs.Meaning as meanings
use Rattle.acs_tree.specs.Meaning.{Arm, first_of, in_turn, meaning, meaning_of}
use Rattle.acs_tree.specs.Outcome.{Action}
use Rattle.acs_tree.specs.Sound.{Among}
use Rattle.dsn_mask.specs.Filter.{entry_fits}
use Rattle.dsn_mask.specs.declared.entry.Entry.{Entry}
use Rattle.acs_lint.specs.Statements.{statements_of}
use Rattle.acs_lint.specs.Uses.{is_wildcard, names_in, operands_in}
use Rattle.acs_lint.specs.declared.finding.Finding.{Finding}
use Rattle.acs_lint.specs.declared.finding.Finding.TheVariants.{Covered, Behind, Spare, Quoted, Unused}

-- one item stands in a list before another
pub record StandBefore {A : Type 0} (items : List A) (one other : A) : Type 0 where
  pub before : List A
  pub between : List A
  pub behind : List A
  pub items_are : items ≡ before ++ one ∷ (between ++ other ∷ behind)

-- WHENs that are never taken

-- what a WHEN asks and does
abbrev pub arm_of : Kind → List Stmt → When → Arm
arm_of kind body = fold-When Action Action Arm (meanings.form_step kind body) meanings.stmt_step (meanings.when_step body)

-- what a WHEN asks and tells
abbrev pub chapter_of : Kind → List Stmt → When → Chapter
chapter_of kind body = fold-When Story Story Chapter (tell_form kind body) tell_stmt (tell_when body)

-- the same WHEN with other statements, which tell this
abbrev pub chapter_with : Chapter → Story → Chapter
chapter_with chapter told = record { look = chapter.look; body = told }

-- a SELECT means the same without a WHEN that stands between others
abbrev pub MeansTheSame : Kind → List Stmt → Option Ref → List When → When → List When → Type 0
MeansTheSame kind body subject before arm behind =
    (otherwise : Action) (input : Input) (values : Values) →
    first_of subject (map (arm_of kind body) before ++ arm_of kind body arm ∷ map (arm_of kind body) behind) otherwise
    input values ≡
    first_of subject (map (arm_of kind body) before ++ map (arm_of kind body) behind) otherwise input values

-- whatever the statements of a WHEN told, what happens in its SELECT is the same
abbrev pub IsNeverTaken : Kind → List Stmt → Option Ref → List When → When → List When → Type 0
IsNeverTaken kind body subject before arm behind =
    (told otherwise : Story) (input : Input) (values : Values) →
    first_told subject (map (chapter_of kind body) before ++ chapter_of kind body arm ∷
    map (chapter_of kind body) behind) otherwise input values ≡
    first_told subject (map (chapter_of kind body) before ++ chapter_with (chapter_of kind body arm) told ∷
    map (chapter_of kind body) behind) otherwise input values

-- a WHEN of a SELECT of the routine is never taken, since an earlier one holds wherever it does, whatever the input and
-- the values are
pub record IsCovered (routine : Routine) (arm since : ℕ) : Type 0 where
  pub statement : Stmt
  pub among : Among statement (statements_of routine)
  pub subject : Option Ref
  pub whens : List When
  pub otherwise : Option Stmt
  pub is_select : statement.form ≡ Pick subject whens otherwise
  pub earlier : When
  pub later : When
  pub stand : StandBefore whens earlier later
  pub arm_is : (out-When later).at ≡ arm
  pub since_is : (out-When earlier).at ≡ since
  pub holds : (input : Input) (values : Values) →
      when_holds routine.body subject (out-When later).test input values ≡ true →
      when_holds routine.body subject (out-When earlier).test input values ≡ true
  pub never_taken : (kind : Kind) →
      IsNeverTaken kind routine.body subject (stand.before ++ earlier ∷ stand.between) later stand.behind
  pub means_the_same : (kind : Kind) →
      MeansTheSame kind routine.body subject (stand.before ++ earlier ∷ stand.between) later stand.behind

-- statements that are never begun

-- a block of a routine: its body, or the statements of a DO
abbrev pub IsBlock : Routine → List Stmt → Type 0
IsBlock routine block =
    (block ≡ routine.body) ⊎
    ((statement : Stmt) × Among statement (statements_of routine) × (statement.form ≡ Do block))

-- a statement of a block is never begun, since one before it always exits: what happens in the block and what it means
-- are the same without the statements that stand there
pub record IsBehind (routine : Routine) (statement since : ℕ) : Type 0 where
  pub block : List Stmt
  pub is_block : IsBlock routine block
  pub before : List Stmt
  pub exiting : Stmt
  pub next : Stmt
  pub behind : List Stmt
  pub block_is : block ≡ before ++ exiting ∷ next ∷ behind
  pub statement_is : next.at ≡ statement
  pub since_is : exiting.at ≡ since
  pub exits : (kind : Kind) → Exits (meaning kind routine.body exiting)
  pub never_begun : (kind : Kind) (input : Input) (values : Values) →
      tell_in_turn (map (story kind routine.body) block) input values ≡
      tell_in_turn (map (story kind routine.body) (before ++ exiting ∷ [])) input values
  pub means_the_same : (kind : Kind) (input : Input) (values : Values) →
      in_turn (map (meaning kind routine.body) block) input values ≡
      in_turn (map (meaning kind routine.body) (before ++ exiting ∷ [])) input values

-- entries of filter lists

-- what is no entry fits nothing
abbrev pub fits_if : List ℕ → Option Entry → Bool
fits_if value None = false
fits_if value (Some entry) = entry_fits value entry

-- an entry of a filter list, as it is compared with the whole data set name or with another text, fits a value
abbrev pub fits : Bool → List ℕ → Operand → Bool
fits whole value entry = fits_if value (entry_of whole entry.form)

-- entries are compared with the whole data set name or, where their words are simple masks, with another text
abbrev pub MayBeCompared : Bool → List Operand → Type 0
MayBeCompared whole entries = (whole ≡ true) ⊎ (are_simple entries ≡ true)

-- what any of these entries fits is the same without one that stands between others
abbrev pub FitTheSame : Bool → List Operand → Operand → List Operand → Type 0
FitTheSame whole before entry behind =
    (value : List ℕ) →
    list_any (fits whole value) (before ++ entry ∷ behind) ≡ list_any (fits whole value) (before ++ behind)

-- an entry of a filter list of the routine fits nothing that an earlier one of its list doesn't fit
pub record IsSpare (routine : Routine) (entry since : ℕ) : Type 0 where
  pub statement : Stmt
  pub among : Among statement (statements_of routine)
  pub name : List ℕ
  pub name_at : ℕ
  pub include : List Operand
  pub exclude : List Operand
  pub is_list : statement.form ≡ Filt name name_at include exclude
  pub entries : List Operand
  pub of_list : (entries ≡ include) ⊎ (entries ≡ exclude)
  pub earlier : Operand
  pub later : Operand
  pub stand : StandBefore entries earlier later
  pub entry_is : later.at ≡ entry
  pub since_is : earlier.at ≡ since
  pub fitting : (whole : Bool) → MayBeCompared whole entries → (value : List ℕ) → fits whole value later ≡ true →
      fits whole value earlier ≡ true
  pub fit_the_same : (whole : Bool) → MayBeCompared whole entries →
      FitTheSame whole (stand.before ++ earlier ∷ stand.between) later stand.behind

-- texts between quotes

-- a text between quotes that is compared has a wildcard, and is equal to that very text alone
pub record IsQuoted (routine : Routine) (literal : ℕ) : Type 0 where
  pub operand : Operand
  pub among : Among operand (operands_in (statements_of routine))
  pub literal_is : operand.at ≡ literal
  pub text : List ℕ
  pub form_is : operand.form ≡ Literal text
  pub wild : list_any is_wildcard text ≡ true
  pub as_it_stands : (left : Ref) (input : Input) (values : Values) (value : List ℕ) →
      text_equals input values (comparand_of routine.body left operand) value ≡ bytes_eq value text
  pub as_an_entry : (whole : Bool) (value : List ℕ) → fits whole value operand ≡ bytes_eq text value

-- filter lists

-- the filter lists among these statements are those among others, but for lists of this name
abbrev pub AreAlikeBut : List ℕ → List Stmt → List Stmt → Type 0
AreAlikeBut name one other = (listed : List ℕ) → bytes_eq name listed ≡ false → list_named one listed ≡ list_named other listed

-- no comparison of the routine names the filter list; whatever the list has, or is it not there, the statements of the
-- routine mean the same
pub record IsUnused (routine : Routine) (list : ℕ) : Type 0 where
  pub statement : Stmt
  pub among : Among statement (statements_of routine)
  pub name : List ℕ
  pub include : List Operand
  pub exclude : List Operand
  pub is_list : statement.form ≡ Filt name list include exclude
  pub unnamed : list_any (bytes_eq name) (names_in (operands_in (statements_of routine))) ≡ false
  pub means_the_same : (kind : Kind) (lists : List Stmt) → AreAlikeBut name lists routine.body →
      (input : Input) (values : Values) →
      in_turn (map (meaning kind lists) routine.body) input values ≡ meaning_of routine kind input values

-- what a finding says holds of the routine
abbrev pub IsFinding : Routine → Finding → Type 0
IsFinding routine (Covered arm since) = IsCovered routine arm since
IsFinding routine (Behind statement since) = IsBehind routine statement since
IsFinding routine (Spare entry since) = IsSpare routine entry since
IsFinding routine (Quoted literal) = IsQuoted routine literal
IsFinding routine (Unused list) = IsUnused routine list
