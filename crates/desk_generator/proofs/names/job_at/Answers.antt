use Rattle.std.proofs.Common.{◌≡◌, ◌∷◌, [], ◌%◌, ℕ, List, arith, sym, ap, subst, ◌∙◌}
use Rattle.std.specs.Prelude.{MatchOption, Option}
use Rattle.std.proofs.lemmas.Fmt.{decimal_digit}
use Rattle.dsn_mask.specs.Name.{IsName}
use Rattle.desk_generator.proofs.names.job_at.Goals as goal

pub returns : goal.returns
returns c =
    let text = 71 ∷ c.digit_of.result ∷ [] in
    let found = subst (λ (r : Option (List ℕ)). MatchOption r (IsName text → ⊥) (λ (name : List ℕ). IsName text × (name ≡ text))) c.unwrap.ensures c.new.ensures.exact in
    found.1 ∙ ap (λ (d : ℕ). 71 ∷ d ∷ []) c.digit_of.ensures ∙ ap (λ (ds : List ℕ). 71 ∷ ds) (sym (decimal_digit (c.args.item % 10) (omega arith)))
