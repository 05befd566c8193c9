-- Histories of a prefix: the transactions that were made under it, one behind the other.
use Rattle.std.specs.Prelude.{◌≡◌, ◌⊎◌, ◌∷◌, [], List}
use Rattle.row_store.specs.declared.transaction.Transaction.{Transaction}
use Rattle.row_store.specs.declared.contents.Contents.{Contents}
use Rattle.row_store.specs.Contents.{claimed, contents_after, following, passing}

-- the transaction takes the prefix, makes a change or passes over one; no desk writes in another way
abbrev pub IsRule : Transaction → Type 0
IsRule t = (t.next ≡ claimed t.expects) ⊎ ((t.next ≡ following t.expects) ⊎ (t.next ≡ passing t.expects))

-- each transaction is one of these and found the guard that it expects
abbrev pub IsHistory : Contents → List Transaction → Type 0
IsHistory c [] = Unit {0}
IsHistory c (t ∷ ts) = (c.guard ≡ t.expects) × (IsRule t × IsHistory (contents_after t c) ts)
