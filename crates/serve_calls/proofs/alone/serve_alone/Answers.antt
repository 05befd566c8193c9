use Rattle.std.proofs.Common.{rules, ◌≡◌, [], ◌∷◌, ◌++◌, ap, ◌∙◌}
use Rattle.desk_http.specs.Entered.{HasEntered, entries_of}
use Rattle.serve_door.specs.Visits.{talks_of}
use Rattle.serve_calls.specs.Seen.{seen_door}
use Rattle.serve_calls.proofs.EndLaws.{AreServed-one}
use Rattle.serve_calls.proofs.HistoryLaws.{one_worker}
use Rattle.serve_calls.proofs.alone.serve_alone.Goals as goal

-- the one door was served
pub returns-clause-served : goal.returns-clause-served
returns-clause-served g c =
    let visits = c.serve_door-end.result.2 in
    let end = c.serve_door-end.result.0 in
    let all : c.from_vec-visits.result ≡ visits ∷ [] = search rules in
    let ends : c.push_reserved-2.new.self.items ≡ end ∷ [] = search rules in
    rw (all, ends) (AreServed-one _ c.args.most
    (seen_door g.A.Accept.asked g.A.Accept.given g.A.Accept.ended g.A.Accept.door_faults g.A.Accept.link_faults
    g.A.Accept.waiting g.A.Accept.back)
    c.args.doors.now.items c.index_mut.result.now c.serve_door-end.new.door visits end c.requires.count (search rules) c.serve_door-end.ensures.served)

-- the talks of the door's visits are all that was heard
pub returns-clause-once : goal.returns-clause-once
returns-clause-once g c =
    let visits = c.serve_door-end.result.2 in
    let all : c.from_vec-visits.result ≡ visits ∷ [] = search rules in
    let entered : HasEntered c.args.core c.into_core.result (talks_of visits) = rw c.into_core.ensures (rw c.new-bench.ensures at c.serve_door-end.ensures.bench) in
    rw all (one_worker visits c.into_core.result.journal (entered.journal ∙ ap (λ l. l ++ entries_of (talks_of visits)) c.requires.new) entered.placed)
