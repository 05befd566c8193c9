use Rattle.std.proofs.Common.{rules, ◌≡◌, [], ◌∷◌, ◌++◌, ap, ◌∙◌}
use Rattle.http_talk.specs.declared.talk.Talk.{Talk}
use Rattle.desk_http.specs.SeatTalks.{view_of}
use Rattle.desk_http.proofs.SeatLaws.{HasSubmitted-more}
use Rattle.desk_http.proofs.seat_clerk.hear.Goals as goal

-- the turn's entry is that of the talk
pub invariant_of-clerk-2 : goal.invariant_of-clerk-2
invariant_of-clerk-2 g c =
    let talk : Talk = record { request = c.in_ok-request.request; answer = c.submit-answer.result } in
    let lock = c.clerk.inside.desk.now.lock.table.shared.table_id in
    let whole : c.push_reserved.new.self.items ≡ c.clerk.inside.talks.items ++ talk ∷ [] = c.push_reserved.ensures.items ∙ ap (λ l. l ++ talk ∷ []) c.reserve.ensures.items in
    (c.submit-answer.ensures.job, rw whole (HasSubmitted-more (view_of lock c.clerk.inside.start.value) lock c.clerk.inside.seat c.submit-answer.new.seat c.clerk.inside.talks.items talk c.clerk.invariant.1 c.submit-answer.ensures))

-- the talk is the last
pub returns-clause-ok : goal.returns-clause-ok
returns-clause-ok g c =
    let talk : Talk = record { request = c.in_ok-request.request; answer = c.submit-answer.result } in
    let before : c.clerk.inside.talks.items ≡ c.args.clerk.now.talks = search rules in
    let same : talk.request ≡ c.args.request.now = search rules in
    (talk, c.push_reserved.ensures.items ∙ ap (λ l. l ++ talk ∷ []) (c.reserve.ensures.items ∙ before), same)
