-- A slate: the lines of the routines of a request.
use Rattle.std.specs.Prelude.{◌≡◌, ◌≤◌, ◌<◌, ◌==◌, ◌+◌, ◌-◌, ◌^◌, ◌++◌, ℕ, suc, Bool, false, List, [], ◌∷◌, filter, map}
use Rattle.std.specs.Prelude.{min, nat_lt, if◌then◌else◌}
use Rattle.desk_common.specs.Limits.{most_lines}
use Rattle.acs_tree.specs.declared.kind.Kind.{Kind}
use Rattle.acs_tree.specs.declared.kind.Kind.TheVariants.{DataClas, StorClas, MgmtClas, StorGrp}
use Rattle.acs_tree.specs.declared.line.Line.{Line}
use Rattle.acs_tree.specs.declared.more.More.{More}
use Rattle.acs_tree.specs.KeptLines.{KeptLines}
use Rattle.acs_tree.specs.Variables.{rank_of}

-- the lines that are kept, in the order in which they were written, and how many others there are of each kind
pub record SlateLines : Type 0 where
  pub lines : List Line
  pub more : More

-- a line of that kind
abbrev pub line : Kind → List ℕ → Line
line kind text = record { kind = kind; text = text }

-- the two kinds are the same
abbrev pub same_kind : Kind → Kind → Bool
same_kind one other = rank_of one == rank_of other

-- how many lines of that kind there are
abbrev pub count_of : Kind → List Line → ℕ
count_of kind [] = 0
count_of kind (line ∷ lines) = if same_kind line.kind kind then suc (count_of kind lines) else count_of kind lines

-- how many lines of that kind were not kept
abbrev pub more_of : Kind → More → ℕ
more_of DataClas more = more.dataclas
more_of StorClas more = more.storclas
more_of MgmtClas more = more.mgmtclas
more_of StorGrp more = more.storgrp

-- the same with another number for that kind
abbrev pub with_more : Kind → ℕ → More → More
with_more DataClas count more = record more { dataclas = count }
with_more StorClas count more = record more { storclas = count }
with_more MgmtClas count more = record more { mgmtclas = count }
with_more StorGrp count more = record more { storgrp = count }

-- no lines at all
abbrev pub blank : SlateLines
blank = record { lines = []; more = record { dataclas = 0; storclas = 0; mgmtclas = 0; storgrp = 0 } }

-- one more, as far as 32 bits count
abbrev pub one_more : ℕ → ℕ
one_more count = min (count + 1) (2 ^ 32 - 1)

-- one more line of that kind: kept while there is room for one of that kind, and else counted
abbrev pub with_line : Kind → List ℕ → SlateLines → SlateLines
with_line kind text slate =
    if nat_lt (count_of kind slate.lines) most_lines
    then record slate { lines = slate.lines ++ line kind text ∷ [] }
    else record slate { more = with_more kind (one_more (more_of kind slate.more)) slate.more }

-- the lines of a run of that kind
abbrev pub with_kept_lines : Kind → KeptLines → SlateLines → SlateLines
with_kept_lines kind lines slate =
    record { lines = slate.lines ++ map (line kind) lines.kept; more = with_more kind lines.more slate.more }

-- the lines of that kind
abbrev pub lines_of : Kind → List Line → List Line
lines_of kind lines = filter (λ line. same_kind line.kind kind) lines

-- of each other kind the slate has the same lines as before, and the same number of others
pub record KeepsOtherKinds (kind : Kind) (before now : SlateLines) : Type 0 where
  pub lines : (other : Kind) → same_kind kind other ≡ false → lines_of other now.lines ≡ lines_of other before.lines
  pub more : (other : Kind) → same_kind kind other ≡ false → more_of other now.more ≡ more_of other before.more

-- of each kind no more lines are kept than may be, and others are counted only where so many are kept
pub record IsSlate (slate : SlateLines) : Type 0 where
  pub few : (kind : Kind) → count_of kind slate.lines ≤ most_lines
  pub full : (kind : Kind) → 0 < more_of kind slate.more → count_of kind slate.lines ≡ most_lines
