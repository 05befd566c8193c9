-- What is read so far stands before what is left, and the next piece takes it on.
use Rattle.std.proofs.Common.{◌≡◌, ◌<◌, ◌∷◌, [], ap, length, arith}
use Rattle.std.proofs.lemmas.Grind.{common_steps}
use Rattle.acs_lex.proofs.OneFrontLemmas.{gap_shorter, token_shorter}
use Rattle.acs_symbol.proofs.ScanLemmas.{all_read, read_past_blank, read_past_gap, read_past_token, token_read, may_stop}
use Rattle.acs_symbol.proofs.ScanLemmas.{exact_symbols, exact_stop}
use Rattle.acs_symbol.proofs.scanning.read_symbols.Goals as goal

pub returns-clause-ok : goal.returns-clause-ok
returns-clause-ok c =
    let e : c.pieces.rest.now ≡ [] = grind (arith, common_steps) in
    all_read c.pieces.invariant.read e

pub returns-clause-exactly : goal.returns-clause-exactly
returns-clause-exactly c =
    let e : c.pieces.rest.now ≡ [] = grind (arith, common_steps) in
    exact_symbols c.pieces.invariant.read e

pub pieces-smaller-in-Gap : goal.pieces-smaller-in-Gap
pieces-smaller-in-Gap c = gap_shorter c.in-Gap.ensures

pub pieces-preserved-in-Gap : goal.pieces-preserved-in-Gap
pieces-preserved-in-Gap c = record {
  read = read_past_gap c.pieces.invariant.read c.in-Gap.ensures;
  within = omega (arith, gap_shorter c.in-Gap.ensures, c.pieces.invariant.within);
}

pub symbol-requires : goal.symbol-requires
symbol-requires c = token_read c.pieces.invariant.read c.in-Token.ensures

pub pieces-smaller : goal.pieces-smaller
pieces-smaller c = token_shorter c.in-Token.ensures

pub pieces-preserved : goal.pieces-preserved
pieces-preserved c = record {
  read = read_past_token c.pieces.invariant.read c.in-Token.ensures c.symbol.ensures (grind (arith, common_steps));
  within = omega (arith, token_shorter c.in-Token.ensures, c.pieces.invariant.within);
}

pub returns-in-Fault-clause-err : goal.returns-in-Fault-clause-err
returns-in-Fault-clause-err c = may_stop c.pieces.invariant.read c.in-Fault.ensures

pub returns-in-Fault-clause-exactly : goal.returns-in-Fault-clause-exactly
returns-in-Fault-clause-exactly c = exact_stop c.pieces.invariant.read c.in-Fault.ensures

pub pieces-smaller-then-is_blank : goal.pieces-smaller-then-is_blank
pieces-smaller-then-is_blank c = grind (arith, common_steps)

pub pieces-preserved-then-is_blank : goal.pieces-preserved-then-is_blank
pieces-preserved-then-is_blank c =
    let e : c.pieces.rest.now ≡ c.in-Some.first.now ∷ c.in-Some.behind.now = grind (arith, common_steps) in
    record {
      read = read_past_blank c.pieces.invariant.read e (grind (arith, common_steps));
      within = omega (arith, ap length e, c.pieces.invariant.within);
    }
