use Rattle.http_flow.proofs.PageLaws.{page_is_refused}
use Rattle.http_flow.proofs.laws.pages_hide_nothing.Goals as goal

pub returns : goal.returns
returns c = λ port bytes ask closes after h. page_is_refused port bytes ask closes after h
