use Rattle.std.proofs.Common.{◌≡◌, ◌+◌, ◌/◌, ◌%◌, ℕ, arith, sym, ap, ◌∙◌, length}
use Rattle.desk_generator.specs.Generated.{drawn_at, next_number, number_at}
use Rattle.desk_generator.proofs.GeneratedLemmas.{first_item, length-up_to, number_more}
use Rattle.desk_generator.proofs.generating.generate.Goals as goal

pub loop-place-init : goal.loop-place-init
loop-place-init c =
    let first = c.in_ok-push_item.ensures ∙ first_item c.args.seed c.new-items.result c.in_ok-first_request.field-0 c.new-items.ensures c.in_ok-first_request.ensures in
    (first, ap (λ (n : ℕ). n % 2147483648) c.from-number.ensures, omega arith, ap (λ xs. length xs) first)

pub loop-place-preserved : goal.loop-place-preserved
loop-place-preserved c =
    let place = c.loop-place.place in
    let number : c.next_number-number.result ≡ number_at c.args.seed (place + 1) =
    c.next_number-number.ensures.value ∙ ap next_number c.loop-place.invariant.1 ∙ sym (number_more c.args.seed place) in
    let drew : c.drawn_from.result ≡ drawn_at c.args.seed (place + 1) = c.drawn_from.ensures.value ∙ ap (λ (n : ℕ). n / 65536) number in
    let items = c.in_ok-push_behind.ensures c.args.seed drew c.loop-place.invariant.0 in
    (items, number, c.next_number-number.ensures.small, ap (λ xs. length xs) items ∙ length-up_to c.args.seed (place + 1))
