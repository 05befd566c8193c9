-- What an accounting and volumes are made of: for the proof that each list is one value.
use Rattle.std.specs.Prelude.{◌≡◌, ℕ, List, length, take}
use Rattle.std.proofs.Common.{sym}
use Rattle.desk_common.specs.Limits.{most_account_fields, most_volume_count}
use Rattle.acs_tree.specs.declared.account.Account.TheInside.{Inside}
use Rattle.acs_tree.specs.declared.volumes.Volumes.TheInside.{Inside as VolumesInside}
use Rattle.acs_tree.specs.Inner.Lists.{filled, no_field, no_volume}

same_account : {b b' : List (List ℕ)} {c c' : ℕ} → b ≡ b' → c ≡ c'
    → let one : Inside = record { items = b; count = c } in one ≡ record { items = b'; count = c' }
same_account p q = cc

same_volumes : {b b' : List (List ℕ)} {c c' : ℕ} → b ≡ b' → c ≡ c'
    → let one : VolumesInside = record { items = b; count = c } in one ≡ record { items = b'; count = c' }
same_volumes p q = cc

-- an accounting is made of its texts and of empty ones behind them
pub account_back : (a : Inside) → a.count ≡ length (take a.count a.items)
    → a.items ≡ filled most_account_fields no_field (take a.count a.items)
    → let back : Inside = record {
      items = filled most_account_fields no_field (take a.count a.items);
      count = length (take a.count a.items);
    } in back ≡ a
account_back a p q = same_account (sym q) (sym p)

-- volumes are made of their serials and of unused ones behind them
pub volumes_back : (a : VolumesInside) → a.count ≡ length (take a.count a.items)
    → a.items ≡ filled most_volume_count no_volume (take a.count a.items)
    → let back : VolumesInside = record {
      items = filled most_volume_count no_volume (take a.count a.items);
      count = length (take a.count a.items);
    } in back ≡ a
volumes_back a p q = same_volumes (sym q) (sym p)
