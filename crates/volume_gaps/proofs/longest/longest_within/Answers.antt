use Rattle.std.proofs.Common.{◌≤◌, ◌∙◌, ℕ, rules, subst, sym}
use Rattle.std.proofs.Common.{◌≡◌, ◌-◌}
use Rattle.std.specs.Prelude.{max}
use Rattle.volume_gaps.specs.Inner.Walking.{most_before}
use Rattle.volume_gaps.proofs.GapLaws.{ended, most-range, walked}
use Rattle.volume_gaps.proofs.longest.longest_within.Goals as goal

pub returns-clause-value : goal.returns-clause-value
returns-clause-value c =
    let l = c.loop-rest in
    let is : c.max.result ≡ max (c.args.end - l.at) l.most = search rules in
    ended c.args.from c.args.end l.at l.most c.max.result c.args.pieces.now l.rest.now c.in_default.len_below l.invariant is ∙ walked c.args.from c.args.end c.args.pieces.now c.requires

pub returns-clause-range : goal.returns-clause-range
returns-clause-range c =
    let l = c.loop-rest in
    let is : c.max.result ≡ max (c.args.end - l.at) l.most = search rules in
    subst (λ (n : ℕ). n ≤ c.args.end) (sym (ended c.args.from c.args.end l.at l.most c.max.result c.args.pieces.now l.rest.now c.in_default.len_below l.invariant is)) (most-range c.args.from c.args.end c.args.pieces.now)
