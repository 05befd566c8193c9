-- What the walk comes to is the first fault of the routine.
use Rattle.std.proofs.Common.{◌≡◌, List, [], ◌∷◌, ◌++◌, refl, sym, ◌∙◌, ap, subst, arith, append_assoc, ◌⊎◌, inl, inr}
use Rattle.std.specs.Prelude.{Option, Some, None}
use Rattle.desk_common.specs.Exact.{NotBehind}
use Rattle.desk_common.proofs.ExactLemmas.{first_at_one}
use Rattle.acs_tree.specs.declared.check_err.CheckErr.{CheckErr}
use Rattle.acs_tree.specs.declared.kind.Kind.{Kind}
use Rattle.acs_tree.specs.declared.routine.Routine.{Routine}
use Rattle.acs_tree.specs.declared.routine.Stmt.{Stmt}
use Rattle.acs_tree.specs.Nodes.{Node, Head, nodes_of}
use Rattle.acs_tree.specs.Sound.{faults_at, Among, here, there, Stands, at_head, in_body, IsFault, broken, place_of}
use Rattle.acs_tree.specs.Sound.{IsFirstFault, IsSound}
use Rattle.acs_check.specs.Inner.Walk.{least, met, faults_in, faults_behind, faults_of, first_fault_of}
use Rattle.acs_check.proofs.LeastLemmas.{least_append, Behind, In, LeastOf, least_is}
use Rattle.acs_check.proofs.WalkLemmas.{passed_least}

-- where a fault stands

among_left : {f : CheckErr} {a : List CheckErr} (b : List CheckErr) → Among f a → Among f (a ++ b)
among_left b here = here
among_left b (there d) = there (among_left b d)

among_right : {f : CheckErr} (a : List CheckErr) {b : List CheckErr} → Among f b → Among f (a ++ b)
among_right [] d = d
among_right (x ∷ a) d = there (among_right a d)

more_either : {f g : CheckErr} {a b : List CheckErr} → Among f a ⊎ Among f b → Among f (g ∷ a) ⊎ Among f b
more_either (inl d) = inl (there d)
more_either (inr d) = inr d

among_either : {f : CheckErr} (a : List CheckErr) {b : List CheckErr} → Among f (a ++ b) → Among f a ⊎ Among f b
among_either [] d = inr d
among_either (x ∷ a) here = inl here
among_either (x ∷ a) (there d) = more_either (among_either a d)

none_in : {f : CheckErr} → Among f [] → ⊥
none_in d = elim d [ ]

-- the faults of nodes

in_nodes : (kind : Kind) (before : List Stmt) (f : CheckErr) (node : Node) (nodes : List Node) → Among node nodes → Among f (faults_at kind before node) → Among f (faults_in kind before nodes)
in_nodes kind before f node [] m d = elim m [ ]
in_nodes kind before f node (_ ∷ nodes) here d = among_left (faults_in kind before nodes) d
in_nodes kind before f node (other ∷ nodes) (there m) d = among_right (faults_at kind before other) (in_nodes kind before f node nodes m d)

abbrev OfNode : Kind → List Stmt → CheckErr → List Node → Type 0
OfNode kind before f nodes = (node : Node) × Among node nodes × Among f (faults_at kind before node)

node_either : (kind : Kind) (before : List Stmt) (f : CheckErr) (node : Node) (nodes : List Node) → (Among f (faults_in kind before nodes) → OfNode kind before f nodes)
    → Among f (faults_at kind before node) ⊎ Among f (faults_in kind before nodes) → OfNode kind before f (node ∷ nodes)
node_either kind before f node nodes more (inl d) = (node, here, d)
node_either kind before f node nodes more (inr d) = let p = more d in (p.0, there p.1, p.2)

of_nodes : (kind : Kind) (before : List Stmt) (f : CheckErr) (nodes : List Node) → Among f (faults_in kind before nodes) → OfNode kind before f nodes
of_nodes kind before f [] d = absurd (none_in d)
of_nodes kind before f (node ∷ nodes) d = node_either kind before f node nodes (λ e. of_nodes kind before f nodes e) (among_either (faults_at kind before node) d)

-- the faults of statements

no_more : (known : List Stmt) → known ++ [] ≡ known
no_more [] = refl
no_more (s ∷ ss) = ap (λ z. s ∷ z) (no_more ss)

in_behind : (kind : Kind) (f : CheckErr) (known before : List Stmt) (statement : Stmt) (behind : List Stmt) → Among f (faults_in kind (known ++ before) (nodes_of statement))
    → Among f (faults_behind kind known (before ++ statement ∷ behind))
in_behind kind f known [] statement behind d = among_left (faults_behind kind (known ++ statement ∷ []) behind) (subst (λ z. Among f (faults_in kind z (nodes_of statement))) (no_more known) d)
in_behind kind f known (s ∷ ss) statement behind d =
    among_right (faults_in kind known (nodes_of s)) (in_behind kind f (known ++ s ∷ []) ss statement behind (subst (λ z. Among f (faults_in kind z (nodes_of statement))) (sym (append_assoc known (s ∷ []) ss)) d))

abbrev OfBody : Kind → CheckErr → List Stmt → List Stmt → Type 0
OfBody kind f known body = (before : List Stmt) × (statement : Stmt) × (behind : List Stmt) × (body ≡ before ++ statement ∷ behind) × Among f (faults_in kind (known ++ before) (nodes_of statement))

body_more : (kind : Kind) (f : CheckErr) (known : List Stmt) (s : Stmt) (ss : List Stmt) → OfBody kind f (known ++ s ∷ []) ss → OfBody kind f known (s ∷ ss)
body_more kind f known s ss p = (s ∷ p.0, p.1, p.2, ap (λ z. s ∷ z) p.3, subst (λ z. Among f (faults_in kind z (nodes_of p.1))) (append_assoc known (s ∷ []) p.0) p.4)

body_either : (kind : Kind) (f : CheckErr) (known : List Stmt) (s : Stmt) (ss : List Stmt) → (Among f (faults_behind kind (known ++ s ∷ []) ss) → OfBody kind f (known ++ s ∷ []) ss)
    → Among f (faults_in kind known (nodes_of s)) ⊎ Among f (faults_behind kind (known ++ s ∷ []) ss) → OfBody kind f known (s ∷ ss)
body_either kind f known s ss more (inl d) = ([], s, ss, refl, subst (λ z. Among f (faults_in kind z (nodes_of s))) (sym (no_more known)) d)
body_either kind f known s ss more (inr d) = body_more kind f known s ss (more d)

of_behind : (kind : Kind) (f : CheckErr) (known body : List Stmt) → Among f (faults_behind kind known body) → OfBody kind f known body
of_behind kind f known [] d = absurd (none_in d)
of_behind kind f known (s ∷ ss) d = body_either kind f known s ss (λ e. of_behind kind f (known ++ s ∷ []) ss e) (among_either (faults_in kind known (nodes_of s)) d)

-- the faults of a routine

met_at : (routine : Routine) (kind : Kind) (f : CheckErr) (before : List Stmt) (node : Node) → Stands routine before node → Among f (faults_at kind before node) → Among f (faults_of routine kind)
met_at routine kind f _ _ at_head d = among_left (faults_behind kind [] routine.body) d
met_at routine kind f before node (in_body statement behind e m) d =
    among_right (faults_at kind [] (Head routine.head routine.head_at))
    (subst (λ z. Among f (faults_behind kind [] z)) (sym e) (in_behind kind f [] before statement behind (in_nodes kind before f node (nodes_of statement) m d)))

met_by : (routine : Routine) (kind : Kind) (f : CheckErr) → IsFault routine kind f → Among f (faults_of routine kind)
met_by routine kind f (broken before node s d) = met_at routine kind f before node s d

fault_either : (routine : Routine) (kind : Kind) (f : CheckErr) → Among f (faults_at kind [] (Head routine.head routine.head_at)) ⊎ Among f (faults_behind kind [] routine.body) → IsFault routine kind f
fault_either routine kind f (inl d) = broken [] (Head routine.head routine.head_at) at_head d
fault_either routine kind f (inr d) =
    let p = of_behind kind f [] routine.body d in
    let n = of_nodes kind p.0 f (nodes_of p.1) p.4 in
    broken p.0 n.0 (in_body p.1 p.2 p.3 n.1) n.2

fault_of : (routine : Routine) (kind : Kind) (f : CheckErr) → Among f (faults_of routine kind) → IsFault routine kind f
fault_of routine kind f d = fault_either routine kind f (among_either (faults_at kind [] (Head routine.head routine.head_at)) d)

-- the first of them

first_is_least : (routine : Routine) (kind : Kind) → first_fault_of routine kind ≡ least None (faults_of routine kind)
unfolding first_fault_of
first_is_least routine kind =
    passed_least kind [] (met kind [] None (Head routine.head routine.head_at)) routine.body
    ∙ sym (least_append None (faults_at kind [] (Head routine.head routine.head_at)) (faults_behind kind [] routine.body))

comes_first : (f g : CheckErr) → Behind g f → NotBehind (place_of f) (place_of g)
comes_first f g (inl h) = (omega arith, λ e. absurd (omega (arith, e, h)))
comes_first f g (inr h) = (omega (arith, h.0), λ e. h.1)

from_least : (f : CheckErr) (fs : List CheckErr) → In None f ⊎ Among f fs → Among f fs
from_least f fs (inl e) = absurd e
from_least f fs (inr d) = d

abbrev pub Answers : Routine → Kind → Option CheckErr → Type 0
Answers routine kind None = IsSound routine kind
Answers routine kind (Some f) = IsFirstFault routine kind f

answers_least : (routine : Routine) (kind : Kind) (r : Option CheckErr) → LeastOf None (faults_of routine kind) r → Answers routine kind r
answers_least routine kind None l = λ f d. none_in (subst (λ z. Among f z) l.1 (met_by routine kind f d))
answers_least routine kind (Some f) l = record {
  met = fault_of routine kind f (from_least f (faults_of routine kind) l.from);
  first = λ g d. comes_first f g (l.behind g (inr (met_by routine kind g d)));
}

pub answers : (routine : Routine) (kind : Kind) (r : Option CheckErr) → r ≡ first_fault_of routine kind → Answers routine kind r
answers routine kind r e = subst (λ z. Answers routine kind z) (sym (e ∙ first_is_least routine kind)) (answers_least routine kind (least None (faults_of routine kind)) (least_is None (faults_of routine kind)))

pub found : (routine : Routine) (kind : Kind) (f : CheckErr) (r : Option CheckErr) → r ≡ first_fault_of routine kind → r ≡ Some f → IsFirstFault routine kind f
found routine kind f r e h = subst (λ z. Answers routine kind z) h (answers routine kind r e)

pub none_found : (routine : Routine) (kind : Kind) (r : Option CheckErr) → r ≡ first_fault_of routine kind → r ≡ None → IsSound routine kind
none_found routine kind r e h = subst (λ z. Answers routine kind z) h (answers routine kind r e)

fields : (f g : CheckErr) → f.at ≡ g.at → f.number ≡ g.number → f ≡ g
fields f g a b = let e : record { number = f.number; at = f.at } ≡ record { number = g.number; at = g.at } = cc in e

pub one_first : (routine : Routine) (kind : Kind) (f g : CheckErr) → IsFirstFault routine kind f → IsFirstFault routine kind g → f ≡ g
one_first routine kind f g a b =
    let p = first_at_one a b in
    fields f g p.0 p.1
