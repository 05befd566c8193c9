-- The code of SET.
use Rattle.std.proofs.Common.{◌≡◌, ◌⊎◌, inl, inr, true, List, refl, sym, subst}
use Rattle.std.specs.Prelude.{bytes_eq, if◌then◌else◌}
use Rattle.dsn_mask.specs.Filter.{FilterLists}
use Rattle.acs_tree.specs.declared.kind.Kind.{Kind}
use Rattle.acs_tree.specs.declared.kind.Kind.TheVariants.{DataClas, StorClas, MgmtClas, StorGrp}
use Rattle.acs_tree.specs.declared.routine.Operand.{Operand}
use Rattle.acs_tree.specs.declared.routine.Ref.{Ref}
use Rattle.acs_tree.specs.Outcome.{nothing, Action}
use Rattle.acs_tree.specs.Setting.{class_set, groups_set, kind_set, sets}
use Rattle.acs_tree.specs.Variables.{name_of}
use Rattle.acs_code.specs.declared.instr.Instr.{Instr}
use Rattle.acs_code.specs.Inner.Upward.{Does}

-- the kind's variable is set
pub set_turn : (kind : Kind) (target : Ref) (operands : List Operand) {rest code : List Instr} → bytes_eq target.name (name_of kind) ≡ true → ((filters : List FilterLists) → Does kind filters (kind_set kind operands) rest code)
    → (filters : List FilterLists) → Does kind filters (sets kind target operands) rest code
set_turn kind target operands {rest} {code} e made filters = subst (λ b. Does kind filters (if b then kind_set kind operands else nothing) rest code) (sym e) (made filters)

of_class : (kind : Kind) (operands : List Operand) → (kind ≡ DataClas) ⊎ ((kind ≡ StorClas) ⊎ (kind ≡ MgmtClas)) → class_set kind operands ≡ kind_set kind operands
of_class kind operands (inl e) = rw e refl
of_class kind operands (inr (inl e)) = rw e refl
of_class kind operands (inr (inr e)) = rw e refl

pub class_turn : (kind : Kind) (operands : List Operand) {rest code : List Instr} → (kind ≡ DataClas) ⊎ ((kind ≡ StorClas) ⊎ (kind ≡ MgmtClas)) → ((filters : List FilterLists) → Does kind filters (class_set kind operands) rest code)
    → (filters : List FilterLists) → Does kind filters (kind_set kind operands) rest code
class_turn kind operands {rest} {code} e made filters = subst (λ (action : Action). Does kind filters action rest code) (of_class kind operands e) (made filters)

pub groups_turn : (kind : Kind) (operands : List Operand) {rest code : List Instr} → kind ≡ StorGrp → ((k : Kind) (filters : List FilterLists) → Does k filters (groups_set operands) rest code)
    → (filters : List FilterLists) → Does kind filters (kind_set kind operands) rest code
groups_turn kind operands {rest} {code} e made filters = rw e (made StorGrp filters)
