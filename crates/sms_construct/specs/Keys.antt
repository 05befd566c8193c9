-- The keys of a deck that name the kinds (docs/manual/deck.md).
use Rattle.std.specs.Prelude.{ℕ, List, codes}
use Rattle.acs_tree.specs.declared.kind.Kind.{Kind}
use Rattle.acs_tree.specs.declared.kind.Kind.TheVariants.{DataClas, StorClas, MgmtClas, StorGrp}

-- the constructs of a kind and the routine of that kind stand under one key
abbrev pub key_of : Kind → List ℕ
key_of DataClas = codes "dataclass"
key_of StorClas = codes "storclass"
key_of MgmtClas = codes "mgmtclass"
key_of StorGrp = codes "storgroup"
