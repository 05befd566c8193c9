use Rattle.std.proofs.Common.{◌≡◌, take}
use Rattle.row_store.specs.Contents.{rows_after}
use Rattle.row_store.proofs.making.make_writes.Given as goal

-- the writes so far are made
abbrev pub invariant-loop-write : goal.invariant-loop-write
invariant-loop-write l = l.rows.items ≡ rows_after (take l.write-index l.writes) l.fn.rows.items
