use Rattle.std.proofs.Common.{◌≡◌, ◌-◌, length, take, drop, rules, subst}
use Rattle.std.proofs.lemmas.List.{take_rest}
use Rattle.desk_generator.specs.Generated.{numbered_name}
use Rattle.desk_generator.proofs.NameLemmas.{numbered_is}
use Rattle.desk_generator.proofs.names.numbered_name.Goals as goal

-- the text from its start on is the name of the number
pub named-requires : goal.named-requires
named-requires c =
    let start = c.write_front-start.result in
    let room = c.write_front-start.new.room in
    let long : length room ≡ 24 = search rules in
    let whole : take (24 - start) (drop start room) ≡ drop start room = subst (λ k. take (k - start) (drop start room) ≡ drop start room) long (take_rest room start) in
    let name : drop start room ≡ numbered_name c.args.number = search rules in
    rw (whole, name) (numbered_is c.args.number c.requires)
