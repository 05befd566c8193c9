use Rattle.std.proofs.Common.{◌∙◌, ap, sym, arith}
use Rattle.acs_tree.specs.Slates.{count_of}
use Rattle.acs_tree.proofs.SlateLemmas.{room_pushed, fields_pushed, view_pushed}
use Rattle.acs_tree.proofs.slate.Slate.write.Goals as goal

pub index_mut-requires : goal.index_mut-requires
index_mut-requires c =
    let is = c.self.invariant in
    let counted = c.count_of.ensures ∙ ap (count_of c.args.kind) (c.lines.ensures.lines ∙ ap (λ slate. slate.lines) (sym c.self.view_is)) in
    let within = room_pushed c.self.inside.room.items c.self.inside.count c.self.inside.more c.args.kind c.args.text is.0 is.1 is.2 (omega (arith, counted, c.if-count_of-lt-MAX_LINES.true)) in
    omega (arith, within)

pub invariant_of-self : goal.invariant_of-self
invariant_of-self c =
    let is = c.self.invariant in
    let counted = c.count_of.ensures ∙ ap (count_of c.args.kind) (c.lines.ensures.lines ∙ ap (λ slate. slate.lines) (sym c.self.view_is)) in
    fields_pushed c.self.inside.room.items c.self.inside.count c.self.inside.more c.args.kind c.args.text is.0 is.1 is.2 (omega (arith, counted, c.if-count_of-lt-MAX_LINES.true))

pub returns-then-count_of-lt-MAX_LINES : goal.returns-then-count_of-lt-MAX_LINES
returns-then-count_of-lt-MAX_LINES c =
    let is = c.self.invariant in
    let counted = c.count_of.ensures ∙ ap (count_of c.args.kind) (c.lines.ensures.lines ∙ ap (λ slate. slate.lines) (sym c.self.view_is)) in
    view_pushed c.self.inside.room.items c.self.inside.count c.self.inside.more c.args.kind c.args.text c.args.self.now is.0 is.1 is.2 (omega (arith, counted, c.if-count_of-lt-MAX_LINES.true)) (sym c.self.view_is)
