use Rattle.std.proofs.Common.{◌∙◌, sym, ap, nat_cmp, rules}
use Rattle.std.specs.Cmp.Lexicographic.{slice_cmp}
use Rattle.std.specs.Ordering.{ordering_then}
use Rattle.dsn_mask.proofs.WordLemmas.{texts-order, then-decided, then-level}
use Rattle.dsn_mask.proofs.text.Text.order.Goals as goal

pub returns-then-is_ne : goal.returns-then-is_ne
returns-then-is_ne g c =
    let mine = c.self.inside in
    let other = c.other.inside in
    let order = texts-order g.row.N mine.buffer other.buffer mine.count other.count c.self.invariant.0 c.self.invariant.1 c.other.invariant.0 c.other.invariant.1 search rules search rules in
    sym (order ∙ ap (λ r. ordering_then r (nat_cmp mine.count other.count)) (sym c.order-found.ensures)
    ∙ then-decided c.order-found.result (nat_cmp mine.count other.count) (sym c.is_ne.ensures ∙ c.if-is_ne.true)) ∙ (λ i. slice_cmp nat_cmp (c.self.view_is i) (c.other.view_is i))

pub returns : goal.returns
returns g c =
    let mine = c.self.inside in
    let other = c.other.inside in
    let order = texts-order g.row.N mine.buffer other.buffer mine.count other.count c.self.invariant.0 c.self.invariant.1 c.other.invariant.0 c.other.invariant.1 search rules search rules in
    sym (order ∙ ap (λ r. ordering_then r (nat_cmp mine.count other.count)) (sym c.order-found.ensures)
    ∙ then-level c.order-found.result (nat_cmp mine.count other.count) (sym c.is_ne.ensures ∙ c.if-is_ne.false) ∙ sym c.cmp.ensures) ∙ (λ i. slice_cmp nat_cmp (c.self.view_is i) (c.other.view_is i))
