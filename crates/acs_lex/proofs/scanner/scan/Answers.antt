-- What is read so far is cut, and the next piece takes the cut on.
use Rattle.std.proofs.Common.{◌≡◌, ◌<◌, ◌∷◌, true, [], ap, length, arith}
use Rattle.std.proofs.lemmas.Grind.{common_steps}
use Rattle.acs_lex.proofs.CutLemmas.{cut_at_end, cut_past_blank, cut_past_gap, cut_past_token, fault_at, gap_less, token_less}
use Rattle.acs_lex.proofs.CutLemmas.{may_refuse, exact_tokens, exact_fault}
use Rattle.acs_lex.proofs.PlaceLemmas.{cut_in_order, cut_of_tokens}
use Rattle.acs_lex.proofs.scanner.scan.Goals as goal

pub returns-clause-ok : goal.returns-clause-ok
returns-clause-ok c =
    let e : c.pieces.rest.now ≡ [] = grind (arith, common_steps) in
    cut_at_end c.pieces.invariant.cut e

pub returns-clause-exactly : goal.returns-clause-exactly
returns-clause-exactly c =
    let e : c.pieces.rest.now ≡ [] = grind (arith, common_steps) in
    exact_tokens _ _ (cut_at_end c.pieces.invariant.cut e)

pub returns-clause-order : goal.returns-clause-order
returns-clause-order c =
    let e : c.pieces.rest.now ≡ [] = grind (arith, common_steps) in
    cut_in_order _ _ (cut_at_end c.pieces.invariant.cut e)

pub returns-clause-each : goal.returns-clause-each
returns-clause-each c =
    let e : c.pieces.rest.now ≡ [] = grind (arith, common_steps) in
    cut_of_tokens _ _ (cut_at_end c.pieces.invariant.cut e)

pub pieces-smaller-in-Gap : goal.pieces-smaller-in-Gap
pieces-smaller-in-Gap c = gap_less _ _ _ c.in-Gap.ensures

pub pieces-preserved-in-Gap : goal.pieces-preserved-in-Gap
pieces-preserved-in-Gap c =
    let less : length c.in-Gap.behind.now < length c.pieces.rest.now = gap_less _ _ _ c.in-Gap.ensures in
    record {
      cut = cut_past_gap c.pieces.invariant.cut c.in-Gap.ensures;
      within = omega arith;
    }

pub pieces-smaller : goal.pieces-smaller
pieces-smaller c = token_less _ _ _ _ c.in-Token.ensures

pub pieces-preserved : goal.pieces-preserved
pieces-preserved c =
    let less : length c.in-Token.behind.now < length c.pieces.rest.now = token_less _ _ _ _ c.in-Token.ensures in
    record {
      cut = cut_past_token c.pieces.invariant.cut c.in-Token.ensures (grind (arith, common_steps));
      within = omega arith;
    }

pub returns-in-Fault-clause-err : goal.returns-in-Fault-clause-err
returns-in-Fault-clause-err c = may_refuse _ _ (fault_at c.pieces.invariant.cut c.in-Fault.ensures)

pub returns-in-Fault-clause-exactly : goal.returns-in-Fault-clause-exactly
returns-in-Fault-clause-exactly c = exact_fault _ _ (fault_at c.pieces.invariant.cut c.in-Fault.ensures)

pub pieces-smaller-then-is_blank : goal.pieces-smaller-then-is_blank
pieces-smaller-then-is_blank c = grind (arith, common_steps)

pub pieces-preserved-then-is_blank : goal.pieces-preserved-then-is_blank
pieces-preserved-then-is_blank c =
    let e : c.pieces.rest.now ≡ c.in-Some.first.now ∷ c.in-Some.behind.now = grind (arith, common_steps) in
    record {
      cut = cut_past_blank c.pieces.invariant.cut e (grind (arith, common_steps));
      within = omega (arith, ap length e, c.pieces.invariant.within);
    }
