-- The cases of a table as a script (docs/manual/tool.md, "Decks with tables of cases").
use Rattle.std.specs.Prelude.{ℕ, Bool, true, List, [], ◌∷◌, Option, None, Some, bytes_eq, filter, map}
use Rattle.sms_construct.specs.declared.request.Op.TheVariants as ops
use Rattle.sms_construct.specs.declared.request.Request.{Request}
use Rattle.sms_script.specs.Script.{activation}
use Rattle.sms_script.specs.declared.item.Item.{Item}
use Rattle.acs_test.specs.declared.case.Case.{Case}

-- the activation of the deck, which no line asks for
abbrev pub deck_item : List ℕ → Item
deck_item deck = record { line = 0; request = activation 1 deck }

-- the ALLOC of a case
abbrev pub case_item : Case → Item
case_item case = record {
  line = case.number;
  request = record { job = case.job; number = case.number; op = ops.Alloc case.alloc };
}

-- the case has the name that is asked for, where one is
abbrev pub is_named : Option (List ℕ) → Case → Bool
is_named None case = true
is_named (Some name) case = bytes_eq case.name name

-- the activation, and the ALLOC of each case that is asked for
abbrev pub items_of_cases : List ℕ → Option (List ℕ) → List Case → List Item
items_of_cases deck name cases = deck_item deck ∷ map case_item (filter (is_named name) cases)

-- a script of these items in one phase
abbrev pub script_of_cases : List ℕ → Option (List ℕ) → List Case → List (List Item)
script_of_cases deck name cases = items_of_cases deck name cases ∷ []
