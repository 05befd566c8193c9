-- Whose tracks are whose.
use Rattle.std.proofs.Common.{◌≡◌, ◌≤◌, ℕ, ◌+◌, List, ◌∷◌, ◌++◌, ap, arith}
use Rattle.sms_construct.specs.declared.data_set.DataSet.{DataSet}
use Rattle.desk_law.specs.State.{DeskState}
use Rattle.desk_law.specs.Extents.{extents_of, pieces_on}
use Rattle.desk_law.specs.Lawful.{IsLawful}
use Rattle.desk_law.proofs.CountLemmas.{all-append, all-cons, once_of, sum_all, times_on, times-is}

-- two data sets among others
pub two-sets : (s : DeskState) (front middle rest : List DataSet) (a b : DataSet) (v : List ℕ) (t : ℕ) → IsLawful s → s.sets ≡ front ++ a ∷ (middle ++ b ∷ rest)
    → times_on v a.extents t + times_on v b.extents t ≤ 1
two-sets s front middle rest a b v t lawful is =
    let f = once_of t in
    let same : sum_all f v s.sets ≡ sum_all f v (front ++ a ∷ (middle ++ b ∷ rest)) = ap (λ (l : List DataSet). sum_all f v l) is in
    omega (
      arith,
      lawful.once v t,
      times-is (pieces_on v (extents_of s.sets)) t,
      times-is (pieces_on v a.extents) t,
      times-is (pieces_on v b.extents) t,
      same,
      all-append f v front (a ∷ (middle ++ b ∷ rest)),
      all-cons f v a (middle ++ b ∷ rest),
      all-append f v middle (b ∷ rest),
      all-cons f v b rest,
    )
