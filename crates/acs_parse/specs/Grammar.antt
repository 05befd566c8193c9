-- The grammar of routines (docs/manual/acs-language.md, Grammar): relations between the tokens, the tree
-- that they mean, and the tokens left behind it. `total` is the number of all tokens, so that a
-- place follows from what is left. `may n` says whether one more may open where n are open
-- (docs/manual/acs-language.md, Nesting); each n is how many are open.
use Rattle.std.specs.Prelude.{◌≡◌, ◌-◌, ◌||◌, ℕ, suc, zero, Bool, true, false, List, [], ◌∷◌, length, nat_lt, Option}
use Rattle.std.specs.Prelude.{Some, None}
use Rattle.desk_common.specs.Limits.{most_nestings}
use Rattle.acs_tree.specs.declared.routine.Compare.{Compare}
use Rattle.acs_tree.specs.declared.routine.Ref.{Ref}
use Rattle.acs_tree.specs.declared.routine.OperandForm.{OperandForm}
use Rattle.acs_tree.specs.declared.routine.OperandForm.TheVariants as operand
use Rattle.acs_tree.specs.declared.routine.Operand.{Operand}
use Rattle.acs_tree.specs.declared.routine.Cond.{Cond}
use Rattle.acs_tree.specs.declared.routine.Cond.TheVariants as condition
use Rattle.acs_tree.specs.declared.routine.WhenTest.{WhenTest}
use Rattle.acs_tree.specs.declared.routine.WhenTest.TheVariants as when_test
use Rattle.acs_tree.specs.declared.routine.When.{When, roll-When}
use Rattle.acs_tree.specs.declared.routine.Form.{Form}
use Rattle.acs_tree.specs.declared.routine.Form.TheVariants as form
use Rattle.acs_tree.specs.declared.routine.Stmt.{Stmt}
use Rattle.acs_tree.specs.declared.routine.Routine.{Routine}
use Rattle.acs_parse.specs.declared.list_kind.ListKind.{ListKind}
use Rattle.acs_parse.specs.declared.list_kind.ListKind.TheVariants as list
use Rattle.acs_symbol.specs.declared.symbol.WordKind.{WordKind}
use Rattle.acs_symbol.specs.declared.symbol.WordKind.TheVariants as word
use Rattle.acs_symbol.specs.declared.symbol.Symbol.{Symbol}
use Rattle.acs_symbol.specs.declared.symbol.Symbol.TheVariants.{Word, Variable, Literal, Open, Close, Comma, Operator}
use Rattle.acs_parse.specs.declared.want.Want.{Want}
use Rattle.acs_parse.specs.declared.want.Want.TheVariants as want
use Rattle.acs_parse.specs.Wants.{fits}

-- the first of the tokens is the one that is wanted
abbrev pub starts : Want → List Symbol → Bool
starts w [] = false
starts w (t ∷ ts) = fits w t

-- the place of the first of these tokens
abbrev pub place_in : ℕ → List Symbol → ℕ
place_in total ts = total - length ts

-- the statement that begins at these tokens
abbrev pub placed : ℕ → List Symbol → Form → Stmt
placed total ts form = record { at = place_in total ts; form = form }

-- the WHEN that begins at these tokens
abbrev pub when_at : ℕ → List Symbol → WhenTest → Stmt → When
when_at total ts test body = roll-When (record { at = place_in total ts; test = test; body = body })

-- the operand that begins at these tokens
abbrev pub operand_at : ℕ → List Symbol → OperandForm → Operand
operand_at total ts form = record { at = place_in total ts; form = form }

-- the lists in which a word may stand
abbrev pub takes_words : ListKind → Bool
takes_words list.Parts = false
takes_words _ = true

-- the lists in which a variable may stand
abbrev pub takes_variables : ListKind → Bool
takes_variables list.Entries = false
takes_variables _ = true

-- an operand of such a list may begin so
abbrev pub may_begin : ListKind → Symbol → Bool
may_begin kind (Literal text) = true
may_begin kind (Word form text) = takes_words kind
may_begin kind (Variable name) = takes_variables kind
may_begin kind _ = false

-- an operand that may follow another with no comma between them: not in SET
abbrev pub joins : ListKind → Symbol → Bool
joins list.Values t = false
joins kind t = may_begin kind t

-- the list goes on here
abbrev pub goes_on : ListKind → List Symbol → Bool
goes_on kind [] = false
goes_on kind (t ∷ ts) = fits want.Comma t || joins kind t

-- a comparison
pub data IsOperator : Symbol → Compare → Type 0 where
  by_sign : {op : Compare} → IsOperator (Operator op) op
  by_word : {op : Compare} {text : List ℕ} → IsOperator (Word (word.Compare op) text) op

-- the name of a filter list: any word, or a variable
pub data IsListName : Symbol → List ℕ → Type 0 where
  named_by_word : {kind : WordKind} {text : List ℕ} → IsListName (Word kind text) text
  named_by_variable : {text : List ℕ} → IsListName (Variable text) text

-- the name at a routine's head: a word that is no number, or a variable
pub data IsHead : Symbol → List ℕ → Type 0 where
  headed_by_word : {kind : WordKind} {text : List ℕ} → fits want.Number (Word kind text) ≡ false →
      IsHead (Word kind text) text
  headed_by_variable : {text : List ℕ} → IsHead (Variable text) text

-- an index, or none: a ( behind a variable opens its index
pub data IsIndex (total : ℕ) : List Symbol → Option (List ℕ) → ℕ → List Symbol → Type 0 where
  no_index : {rest : List Symbol} → starts want.Open rest ≡ false → IsIndex total rest None 0 rest
  index : {text : List ℕ} {rest : List Symbol}
      → IsIndex total (Open ∷ Word word.Number text ∷ Close ∷ rest) (Some text)
      (place_in total (Word word.Number text ∷ Close ∷ rest)) rest

-- a variable and its index
pub data IsRef (total : ℕ) : List Symbol → Ref → List Symbol → Type 0 where
  ref : {name : List ℕ} {ts rest : List Symbol} {i : Option (List ℕ)} {at : ℕ} → IsIndex total ts i at rest
      → IsRef total (Variable name ∷ ts) (record {
        at = place_in total (Variable name ∷ ts);
        name = name;
        index = i;
        index_at = at;
      }) rest

-- one operand of such a list
pub data IsOperand (total : ℕ) (kind : ListKind) : List Symbol → Operand → List Symbol → Type 0 where
  literal : {text : List ℕ} {rest : List Symbol}
      → IsOperand total kind (Literal text ∷ rest) (operand_at total (Literal text ∷ rest) (operand.Literal text)) rest
  word_of : {form : WordKind} {text : List ℕ} {rest : List Symbol} → takes_words kind ≡ true
      → IsOperand total kind (Word form text ∷ rest) (operand_at total (Word form text ∷ rest) (operand.Word text)) rest
  variable : {name : List ℕ} {ts rest : List Symbol} {r : Ref} → takes_variables kind ≡ true
      → IsRef total (Variable name ∷ ts) r rest
      → IsOperand total kind (Variable name ∷ ts) (operand_at total (Variable name ∷ ts) (operand.Var r)) rest

-- operands behind one, as many as come
pub data IsFurther (total : ℕ) (kind : ListKind) : List Symbol → List Operand → List Symbol → Type 0 where
  no_further : {rest : List Symbol} → goes_on kind rest ≡ false → IsFurther total kind rest [] rest
  after_comma : {ts ms rest : List Symbol} {o : Operand} {os : List Operand}
      → IsOperand total kind ts o ms → IsFurther total kind ms os rest → IsFurther total kind (Comma ∷ ts) (o ∷ os) rest
  joined : {t : Symbol} {ts ms rest : List Symbol} {o : Operand} {os : List Operand} → joins kind t ≡ true
      → IsOperand total kind (t ∷ ts) o ms → IsFurther total kind ms os rest
      → IsFurther total kind (t ∷ ts) (o ∷ os) rest

-- a list of such operands
pub data IsOperands (total : ℕ) (kind : ListKind) : List Symbol → List Operand → List Symbol → Type 0 where
  operands : {ts ms rest : List Symbol} {o : Operand} {os : List Operand}
      → IsOperand total kind ts o ms → IsFurther total kind ms os rest → IsOperands total kind ts (o ∷ os) rest

-- the entries of EXCLUDE, or none
pub data IsExclude (total : ℕ) : List Symbol → List Operand → List Symbol → Type 0 where
  no_exclude : {rest : List Symbol} → starts want.Exclude rest ≡ false → IsExclude total rest [] rest
  exclude : {a : List ℕ} {ts rest : List Symbol} {os : List Operand}
      → IsOperands total list.Entries ts os (Close ∷ rest) → IsExclude total (Word word.Exclude a ∷ Open ∷ ts) os rest

-- the entries of INCLUDE and of EXCLUDE
pub data IsLists (total : ℕ) : List Symbol → List Operand → List Operand → List Symbol → Type 0 where
  including : {a : List ℕ} {ts ms rest : List Symbol} {os xs : List Operand}
      → IsOperands total list.Entries ts os (Close ∷ ms) → IsExclude total ms xs rest
      → IsLists total (Word word.Include a ∷ Open ∷ ts) os xs rest
  excluding : {a : List ℕ} {ts rest : List Symbol} {xs : List Operand}
      → IsOperands total list.Entries ts xs (Close ∷ rest) → IsLists total (Word word.Exclude a ∷ Open ∷ ts) [] xs rest

-- a filter list
pub data IsFilter (total : ℕ) : List Symbol → Stmt → List Symbol → Type 0 where
  filter : {a name : List ℕ} {t : Symbol} {ts rest : List Symbol} {os xs : List Operand}
      → IsListName t name → IsLists total ts os xs rest
      → IsFilter total (Word word.FiltList a ∷ t ∷ ts)
      (placed total (Word word.FiltList a ∷ t ∷ ts) (form.Filt name (place_in total (t ∷ ts)) os xs)) rest

-- the code of an EXIT, or none
pub data IsCode (total : ℕ) : List Symbol → Option Operand → List Symbol → Type 0 where
  no_code : {rest : List Symbol} → starts want.Code rest ≡ false → IsCode total rest None rest
  code : {a text : List ℕ} {kind : WordKind} {rest : List Symbol}
      → IsCode total (Word word.Code a ∷ Open ∷ Word kind text ∷ Close ∷ rest)
      (Some (operand_at total (Word kind text ∷ Close ∷ rest) (operand.Word text))) rest

-- one that was open is closed
abbrev pub back : ℕ → ℕ
back zero = zero
back (suc n) = n

-- A condition also says how many are open behind it: an AND or OR stays open until the outermost
-- condition is over.
mutual
  pub data IsCond (total : ℕ) (may : ℕ → Bool) : ℕ → List Symbol → Cond → ℕ → List Symbol → Type 0 where
    cond_of : {n p m : ℕ} {ts ms rest : List Symbol} {x c : Cond}
        → IsConj total may n ts x p ms → IsOrs total may p x ms c m rest → IsCond total may n ts c m rest

  -- x, and what the further ORs make of it
  pub data IsOrs (total : ℕ) (may : ℕ → Bool) : ℕ → Cond → List Symbol → Cond → ℕ → List Symbol → Type 0 where
    no_or : {n : ℕ} {x : Cond} {rest : List Symbol} → starts want.Or rest ≡ false → IsOrs total may n x rest x n rest
    or_more : {n p m : ℕ} {x y c : Cond} {t : Symbol} {ts ms rest : List Symbol} → fits want.Or t ≡ true → may n ≡ true
        → IsConj total may (suc n) ts y p ms → IsOrs total may p (condition.Or x y) ms c m rest
        → IsOrs total may n x (t ∷ ts) c m rest

  -- comparisons or conditions in parentheses with AND between them
  pub data IsConj (total : ℕ) (may : ℕ → Bool) : ℕ → List Symbol → Cond → ℕ → List Symbol → Type 0 where
    conj_of : {n p m : ℕ} {ts ms rest : List Symbol} {x c : Cond}
        → IsPrim total may n ts x p ms → IsAnds total may p x ms c m rest → IsConj total may n ts c m rest

  -- x, and what the further ANDs make of it
  pub data IsAnds (total : ℕ) (may : ℕ → Bool) : ℕ → Cond → List Symbol → Cond → ℕ → List Symbol → Type 0 where
    no_and : {n : ℕ} {x : Cond} {rest : List Symbol} → starts want.And rest ≡ false → IsAnds total may n x rest x n rest
    and_more : {n p m : ℕ} {x y c : Cond} {t : Symbol} {ts ms rest : List Symbol} → fits want.And t ≡ true
        → may n ≡ true → IsPrim total may (suc n) ts y p ms
        → IsAnds total may p (condition.And x y) ms c m rest
        → IsAnds total may n x (t ∷ ts) c m rest

  -- one comparison, or a condition in parentheses
  pub data IsPrim (total : ℕ) (may : ℕ → Bool) : ℕ → List Symbol → Cond → ℕ → List Symbol → Type 0 where
    test : {n : ℕ} {name : List ℕ} {t : Symbol} {op : Compare} {ts ms rest : List Symbol} {r : Ref} {o : Operand}
        → IsRef total (Variable name ∷ ts) r (t ∷ ms) → IsOperator t op → IsOperand total list.Items ms o rest
        → IsPrim total may n (Variable name ∷ ts) (condition.Test r op (place_in total (t ∷ ms)) o) n rest
    group : {n m : ℕ} {ts rest : List Symbol} {c : Cond} → may n ≡ true
        → IsCond total may (suc n) ts c m (Close ∷ rest) → IsPrim total may n (Open ∷ ts) c (back m) rest

mutual
  -- a statement, with what stands inside it
  pub data IsStmt (total : ℕ) (may : ℕ → Bool) : ℕ → List Symbol → Stmt → List Symbol → Type 0 where
    set : {n : ℕ} {a : List ℕ} {t : Symbol} {ts ms rest : List Symbol} {r : Ref} {os : List Operand}
        → IsRef total ts r (t ∷ ms) → fits want.Equal t ≡ true → IsOperands total list.Values ms os rest
        → IsStmt total may n (Word word.Set a ∷ ts) (placed total (Word word.Set a ∷ ts) (form.Put r os)) rest
    choice : {n m : ℕ} {a b : List ℕ} {ts ms ns rest : List Symbol} {c : Cond} {yes : Stmt} {no : Option Stmt}
        → may n ≡ true → IsCond total may (suc n) ts c m (Word word.Then b ∷ ms)
        → IsStmt total may (suc n) ms yes ns
        → IsAlternative total may want.Else (suc n) ns no rest
        → IsStmt total may n (Word word.If a ∷ ts) (placed total (Word word.If a ∷ ts) (form.If c yes no)) rest
    pick : {n : ℕ} {a b : List ℕ} {ts ms rest : List Symbol} {subject : Option Ref} {ws : List When}
        {other : Option Stmt}
        → may n ≡ true → IsChoice total may (suc n) ts subject ws ms
        → IsAlternative total may want.Otherwise (suc n) ms other (Word word.End b ∷ rest)
        → IsStmt total may n (Word word.Select a ∷ ts)
        (placed total (Word word.Select a ∷ ts) (form.Pick subject ws other)) rest
    group_of : {n : ℕ} {a : List ℕ} {ts rest : List Symbol} {ss : List Stmt} → may n ≡ true
        → IsBlock total may false (suc n) ts ss rest
        → IsStmt total may n (Word word.Do a ∷ ts) (placed total (Word word.Do a ∷ ts) (form.Do ss)) rest
    write : {n : ℕ} {a : List ℕ} {ts rest : List Symbol} {os : List Operand} → IsOperands total list.Parts ts os rest
        → IsStmt total may n (Word word.Write a ∷ ts) (placed total (Word word.Write a ∷ ts) (form.Write os)) rest
    exit : {n : ℕ} {a : List ℕ} {ts rest : List Symbol} {o : Option Operand} → IsCode total ts o rest
        → IsStmt total may n (Word word.Exit a ∷ ts) (placed total (Word word.Exit a ∷ ts) (form.Exit o)) rest

  -- the statement behind an ELSE or an OTHERWISE, or none: an ELSE belongs to the nearest IF
  pub data IsAlternative (total : ℕ) (may : ℕ → Bool)
      : Want → ℕ → List Symbol → Option Stmt → List Symbol → Type 0 where
    no_alternative : {w : Want} {n : ℕ} {rest : List Symbol} → starts w rest ≡ false
        → IsAlternative total may w n rest None rest
    alternative : {w : Want} {n : ℕ} {t : Symbol} {ts rest : List Symbol} {s : Stmt} → fits w t ≡ true
        → IsStmt total may n ts s rest → IsAlternative total may w n (t ∷ ts) (Some s) rest

  -- a SELECT's subject and its WHENs, at least one: a ( behind SELECT begins the subject
  pub data IsChoice (total : ℕ) (may : ℕ → Bool) : ℕ → List Symbol → Option Ref → List When → List Symbol → Type 0 where
    by_value : {n : ℕ} {ts ms ns rest : List Symbol} {r : Ref} {w : When} {ws : List When}
        → IsRef total ts r (Close ∷ ms) → IsWhen total may true n ms w ns → IsWhens total may true n ns ws rest
        → IsChoice total may n (Open ∷ ts) (Some r) (w ∷ ws) rest
    by_condition : {n : ℕ} {a : List ℕ} {ts ns rest : List Symbol} {w : When} {ws : List When}
        → IsWhen total may false n (Word word.When a ∷ ts) w ns → IsWhens total may false n ns ws rest
        → IsChoice total may n (Word word.When a ∷ ts) None (w ∷ ws) rest

  -- one WHEN; the Bool tells whether the SELECT has a subject
  pub data IsWhen (total : ℕ) (may : ℕ → Bool) : Bool → ℕ → List Symbol → When → List Symbol → Type 0 where
    when_any : {n : ℕ} {a : List ℕ} {ts ms rest : List Symbol} {os : List Operand} {s : Stmt}
        → IsOperands total list.Items ts os (Close ∷ ms) → IsStmt total may n ms s rest
        → IsWhen total may true n (Word word.When a ∷ Open ∷ ts)
        (when_at total (Word word.When a ∷ Open ∷ ts) (when_test.Any os) s) rest
    when_holds : {n m : ℕ} {a : List ℕ} {ts ms rest : List Symbol} {c : Cond} {s : Stmt}
        → IsCond total may n ts c m (Close ∷ ms) → IsStmt total may n ms s rest
        → IsWhen total may false n (Word word.When a ∷ Open ∷ ts)
        (when_at total (Word word.When a ∷ Open ∷ ts) (when_test.Holds c) s) rest

  -- the WHENs behind the first
  pub data IsWhens (total : ℕ) (may : ℕ → Bool) : Bool → ℕ → List Symbol → List When → List Symbol → Type 0 where
    no_when : {b : Bool} {n : ℕ} {rest : List Symbol} → starts want.When rest ≡ false
        → IsWhens total may b n rest [] rest
    more_whens : {b : Bool} {n : ℕ} {a : List ℕ} {ts ms rest : List Symbol} {w : When} {ws : List When}
        → IsWhen total may b n (Word word.When a ∷ ts) w ms → IsWhens total may b n ms ws rest
        → IsWhens total may b n (Word word.When a ∷ ts) (w ∷ ws) rest

  -- statements and END; filter lists too where it is the routine's own
  pub data IsBlock (total : ℕ) (may : ℕ → Bool) : Bool → ℕ → List Symbol → List Stmt → List Symbol → Type 0 where
    end_of : {top : Bool} {n : ℕ} {a : List ℕ} {rest : List Symbol}
        → IsBlock total may top n (Word word.End a ∷ rest) [] rest
    then_more : {top : Bool} {n : ℕ} {ts ms rest : List Symbol} {s : Stmt} {ss : List Stmt}
        → IsItem total may top n ts s ms → IsBlock total may top n ms ss rest → IsBlock total may top n ts (s ∷ ss) rest

  -- a statement, or at the top a filter list
  pub data IsItem (total : ℕ) (may : ℕ → Bool) : Bool → ℕ → List Symbol → Stmt → List Symbol → Type 0 where
    item_filter : {n : ℕ} {a : List ℕ} {ts rest : List Symbol} {s : Stmt}
        → IsFilter total (Word word.FiltList a ∷ ts) s rest
        → IsItem total may true n (Word word.FiltList a ∷ ts) s rest
    item_statement : {top : Bool} {n : ℕ} {ts rest : List Symbol} {s : Stmt} → IsStmt total may n ts s rest
        → IsItem total may top n ts s rest

-- a number, or none
pub data IsOrNumber : List Symbol → List Symbol → Type 0 where
  no_number : {rest : List Symbol} → starts want.Number rest ≡ false → IsOrNumber rest rest
  number : {text : List ℕ} {rest : List Symbol} → IsOrNumber (Word word.Number text ∷ rest) rest

-- PROC, an optional number, the head and a block up to the end of the text
pub data IsRoutineOf (total : ℕ) (may : ℕ → Bool) : List Symbol → Routine → Type 0 where
  routine : {a name : List ℕ} {t : Symbol} {ts ms : List Symbol} {ss : List Stmt} → IsOrNumber ts (t ∷ ms)
      → IsHead t name
      → IsBlock total may true 0 ms ss []
      → IsRoutineOf total may (Word word.Proc a ∷ ts)
      (record { head = name; head_at = place_in total (t ∷ ms); body = ss })

-- one more may open beside so many
abbrev pub limited : ℕ → Bool
limited n = nat_lt n most_nestings

-- one more may always open
abbrev pub unlimited : ℕ → Bool
unlimited n = true

-- the tokens are a routine, and this is its tree; no more is open than may be
abbrev pub IsRoutine : (ℕ → Bool) → List Symbol → Routine → Type 0
IsRoutine may ts tree = IsRoutineOf (length ts) may ts tree
