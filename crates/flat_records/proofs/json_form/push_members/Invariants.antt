-- With what is left, the text is the whole.
use Rattle.std.proofs.Common.{◌≡◌, ◌++◌, false, length, map}
use Rattle.serde_json.specs.Written.{members_text}
use Rattle.flat_records.specs.Records.{members_of, named_of}
use Rattle.flat_records.proofs.json_form.push_members.Given as goal

abbrev pub invariant-loop-rest : goal.invariant-loop-rest
invariant-loop-rest l = l.text.items ++ members_text l.later (members_of (map named_of l.rest)) ≡ l.fn.text.items ++ members_text false (members_of (map named_of l.fn.fields))

abbrev pub decreases-loop-rest : goal.decreases-loop-rest
decreases-loop-rest l = length l.rest
