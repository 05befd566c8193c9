use Rattle.std.proofs.Common.{◌≡◌, ◌≤◌, ◌<◌, ◌+◌, ◌*◌, ◌/◌, ℕ, List, length, map, take, drop, get_or, bytes_eq, sym}
use Rattle.std.proofs.Common.{subst, ap, ◌∙◌, arith, rules}
use Rattle.std.proofs.lemmas.List.{length-take, length-drop, length-map, take-map, drop-map}
use Rattle.std.proofs.lemmas.List.Sorted.{IsNonDecreasingBy-take, IsNonDecreasingBy-drop}
use Rattle.std.specs.List.{list_any}
use Rattle.std.specs.Ordering.{nat_cmp, ordering_index}
use Rattle.std.specs.Cmp.Lexicographic.{slice_cmp}
use Rattle.dsn_mask.specs.Quoted.{text_at}
use Rattle.dsn_mask.proofs.Halving.{Rises, found_there, halved_next, skips_high, skips_low, text_there}
use Rattle.dsn_mask.proofs.quoted.find.Goals as goal

pub returns-in-Equal-clause-found : goal.returns-in-Equal-clause-found
returns-in-Equal-clause-found g c =
    let rest : List ℕ = c.loop-rest.rest.now in
    let texts : List (List ℕ) = map (text_at c.args.entries.now) rest in
    let some : 1 ≤ length rest = search rules in
    let inside : length rest / 2 < length rest = omega (arith, some) in
    let within : length rest / 2 < length texts = omega (arith, inside, length-map rest (text_at c.args.entries.now)) in
    let there : c.text_at.result.now ≡ get_or texts (length rest / 2) c.text_at.result.now = text_there c.args.entries.now rest (length rest / 2) 0 inside c.text_at.ensures in
    sym (c.loop-rest.invariant.found ∙ found_there c.args.value.now texts c.loop-rest.invariant.rises (length rest / 2) c.text_at.result.now within there (sym c.in-Equal.ensures.order))

pub returns-in-Equal-clause-counted : goal.returns-in-Equal-clause-counted
returns-in-Equal-clause-counted g c =
    let some : 1 ≤ length c.loop-rest.rest.now = search rules in
    (halved_next 0 c.compared.ensures.counted some (omega (arith, some)) c.loop-rest.invariant.halved).2

pub loop-rest-preserved-in-Less : goal.loop-rest-preserved-in-Less
loop-rest-preserved-in-Less g c =
    let rest : List ℕ = c.loop-rest.rest.now in
    let texts : List (List ℕ) = map (text_at c.args.entries.now) rest in
    let some : 1 ≤ length rest = search rules in
    let inside : length rest / 2 < length rest = omega (arith, some) in
    let within : length rest / 2 < length texts = omega (arith, inside, length-map rest (text_at c.args.entries.now)) in
    let there : c.text_at.result.now ≡ get_or texts (length rest / 2) c.text_at.result.now = text_there c.args.entries.now rest (length rest / 2) 0 inside c.text_at.ensures in
    let behind : drop (length rest / 2 + 1) texts ≡ map (text_at c.args.entries.now) c.behind-rest.result.now = drop-map (text_at c.args.entries.now) (length rest / 2 + 1) rest ∙ ap (map (text_at c.args.entries.now)) (sym c.behind-rest.ensures) in
    let short : 2 * length c.behind-rest.result.now ≤ length rest = omega (arith, some, ap length c.behind-rest.ensures, length-drop (length rest / 2 + 1) rest) in
    record {
      found =
          c.loop-rest.invariant.found ∙ skips_low c.args.value.now texts c.loop-rest.invariant.rises (length rest / 2) c.text_at.result.now within there (sym c.in-Less.ensures.order)
          ∙ ap (list_any (λ text. bytes_eq text c.args.value.now)) behind;
      rises = subst (Rises c.args.value.now) behind (IsNonDecreasingBy-drop (λ text. ordering_index (slice_cmp nat_cmp text c.args.value.now)) (length rest / 2 + 1) texts c.loop-rest.invariant.rises);
      halved = halved_next _ c.compared.ensures.counted some short c.loop-rest.invariant.halved;
    }

pub loop-rest-preserved : goal.loop-rest-preserved
loop-rest-preserved g c =
    let rest : List ℕ = c.loop-rest.rest.now in
    let texts : List (List ℕ) = map (text_at c.args.entries.now) rest in
    let some : 1 ≤ length rest = search rules in
    let inside : length rest / 2 < length rest = omega (arith, some) in
    let within : length rest / 2 < length texts = omega (arith, inside, length-map rest (text_at c.args.entries.now)) in
    let there : c.text_at.result.now ≡ get_or texts (length rest / 2) c.text_at.result.now = text_there c.args.entries.now rest (length rest / 2) 0 inside c.text_at.ensures in
    let front : take (length rest / 2) texts ≡ map (text_at c.args.entries.now) (take (length rest / 2) rest) = take-map (text_at c.args.entries.now) (length rest / 2) rest in
    record {
      found =
          c.loop-rest.invariant.found ∙ skips_high c.args.value.now texts c.loop-rest.invariant.rises (length rest / 2) c.text_at.result.now within there (sym c.in-Greater.ensures.order)
          ∙ ap (list_any (λ text. bytes_eq text c.args.value.now)) front;
      rises = subst (Rises c.args.value.now) front (IsNonDecreasingBy-take (λ text. ordering_index (slice_cmp nat_cmp text c.args.value.now)) (length rest / 2) texts c.loop-rest.invariant.rises);
      halved = halved_next _ c.compared.ensures.counted some (omega (arith, some, length-take (length rest / 2) rest)) c.loop-rest.invariant.halved;
    }
