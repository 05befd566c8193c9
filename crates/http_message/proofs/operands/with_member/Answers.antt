-- The operand is that of the member.
use Rattle.std.proofs.lemmas.Str.{IsUtf8-from_ascii}
use Rattle.http_message.proofs.PutLemmas.{not_put, put}
use Rattle.http_message.proofs.MemberLemmas.{one_operand}
use Rattle.http_message.proofs.operands.with_member.Goals as goal

pub returns-then-branch : goal.returns-then-branch
returns-then-branch c =
    put _ c.push_member.new.line.items c.args.line.items _ _ c.if-branch.true
    (one_operand c.args.body.now c.args.key.now c.args.text.now c.requires.member (IsUtf8-from_ascii c.args.body.now c.requires.ascii)) c.in_ok-push_member.ensures

pub returns-else-branch : goal.returns-else-branch
returns-else-branch c =
    not_put _ c.push_member.new.line.items c.args.line.items _ _ c.if-branch.false
    (one_operand c.args.body.now c.args.key.now c.args.text.now c.requires.member (IsUtf8-from_ascii c.args.body.now c.requires.ascii)) c.in_ok-push_member.ensures
