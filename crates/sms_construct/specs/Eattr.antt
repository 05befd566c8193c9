-- The words of EATTR (docs/manual/script.md, "Operands"; docs/manual/deck.md, "Keys").
use Rattle.std.specs.Prelude.{ℕ, List, [], ◌∷◌, codes}
use Rattle.sms_construct.specs.declared.eattr.Eattr.{Eattr}
use Rattle.sms_construct.specs.declared.eattr.Eattr.TheVariants.{Opt, No}

-- the words that say whether a data set may lie on cylinder-managed space, each with what it says
abbrev pub eattrs : List (List ℕ × Eattr)
eattrs = (codes "OPT", Opt) ∷ (codes "NO", No) ∷ []
