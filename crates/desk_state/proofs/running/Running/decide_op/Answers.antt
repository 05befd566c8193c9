use Rattle.std.proofs.Common.{◌≡◌, subst, sym}
use Rattle.std.specs.Option.{option_copied}
use Rattle.sms_construct.specs.declared.alloc.Alloc.{Alloc}
use Rattle.sms_construct.specs.declared.request.Op.TheVariants as ops
use Rattle.desk_state.proofs.DecideLemmas.{purge-answers}
use Rattle.desk_state.proofs.WorkLemmas.{classes-used, deck-used}
use Rattle.desk_state.proofs.running.Running.decide_op.Goals as goal

pub returns-in-Purge-clause-answers : goal.returns-in-Purge-clause-answers
returns-in-Purge-clause-answers c = λ s floors lawful is old.
    purge-answers floors s c.args.self.now c.args.request.now.job c.args.request.now.op c.in-Purge.job c.in-Purge.floor c.args.old c.get-in-Purge.result c.decide_purge.result c.in-Purge.is c.get-in-Purge.ensures.value old
    (c.decide_purge.ensures.answers s c.args.self.now)

pub returns-in-Purge-clause-possible : goal.returns-in-Purge-clause-possible
returns-in-Purge-clause-possible c = c.decide_purge.ensures.possible c.args.self.now

pub decide_alloc-requires-clause-before : goal.decide_alloc-requires-clause-before
decide_alloc-requires-clause-before c =
    classes-used c.args.self.now c.args.request.now c.args.slate.now c.args.work.now (option_copied c.classified_under-before.result) c.get.result.now c.requires.work
    (subst (λ (alloc : Alloc). c.args.request.now.op ≡ ops.Alloc alloc) (sym c.get.ensures) c.in-Alloc.is) c.classified_under-before.ensures

pub decide_activate-requires-clause-work : goal.decide_activate-requires-clause-work
decide_activate-requires-clause-work c = λ read is. deck-used c.args.self.now c.args.request.now c.args.slate.now c.args.work.now read _ c.requires.work c.in-Activate.is is
