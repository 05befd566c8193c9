-- The first of many faults, found by going through the nodes of a routine one by one.
use Rattle.std.specs.Prelude.{◌==◌, ◌&&◌, ◌||◌, Bool, true, List, [], ◌∷◌, ◌++◌, nat_lt, Option, Some, None}
use Rattle.std.specs.Prelude.{if◌then◌else◌}
use Rattle.acs_tree.specs.declared.check_err.CheckErr.{CheckErr}
use Rattle.acs_tree.specs.declared.kind.Kind.{Kind}
use Rattle.acs_tree.specs.declared.routine.Routine.{Routine}
use Rattle.acs_tree.specs.declared.routine.Stmt.{Stmt}
use Rattle.acs_tree.specs.Nodes.{Node, Head, nodes_of}
use Rattle.acs_tree.specs.Sound.{faults_at}

-- at a smaller token, or at one token with a smaller number
abbrev pub precedes : CheckErr → CheckErr → Bool
precedes one two = nat_lt one.at two.at || (one.at == two.at && nat_lt one.number two.number)

-- the first of a fault found so far, if there is one, and another
abbrev pub better : Option CheckErr → CheckErr → Option CheckErr
better None err = Some err
better (Some best) err = if precedes err best then Some err else Some best

-- the fault would be the first so far
abbrev pub matters : Option CheckErr → CheckErr → Bool
matters None err = true
matters (Some best) err = precedes err best

-- the first of a fault found so far and others
abbrev pub least : Option CheckErr → List CheckErr → Option CheckErr
least best [] = best
least best (err ∷ errs) = least (better best err) errs

-- the faults of nodes that stand behind these statements
abbrev pub faults_in : Kind → List Stmt → List Node → List CheckErr
faults_in kind before [] = []
faults_in kind before (node ∷ nodes) = faults_at kind before node ++ faults_in kind before nodes

-- the faults of statements that stand behind others
abbrev pub faults_behind : Kind → List Stmt → List Stmt → List CheckErr
faults_behind kind before [] = []
faults_behind kind before (statement ∷ behind) =
    faults_in kind before (nodes_of statement) ++ faults_behind kind (before ++ statement ∷ []) behind

-- the faults of a routine
abbrev pub faults_of : Routine → Kind → List CheckErr
faults_of routine kind = faults_at kind [] (Head routine.head routine.head_at) ++ faults_behind kind [] routine.body

-- the first fault so far, with those of a node
abbrev pub met : Kind → List Stmt → Option CheckErr → Node → Option CheckErr
met kind before best node = least best (faults_at kind before node)

-- the first fault so far, with those of nodes
abbrev pub walked : Kind → List Stmt → Option CheckErr → List Node → Option CheckErr
walked kind before best [] = best
walked kind before best (node ∷ nodes) = walked kind before (met kind before best node) nodes

-- the first fault so far, with those of statements that stand behind others
abbrev pub passed : Kind → List Stmt → Option CheckErr → List Stmt → Option CheckErr
passed kind before best [] = best
passed kind before best (statement ∷ behind) =
    passed kind (before ++ statement ∷ []) (walked kind before best (nodes_of statement)) behind

-- the first fault of a routine, if it has one
unfoldable pub first_fault_of : Routine → Kind → Option CheckErr
first_fault_of routine kind = passed kind [] (met kind [] None (Head routine.head routine.head_at)) routine.body
