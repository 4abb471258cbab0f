use Rattle.single_router.proofs.single.SingleRouter.tell.Goals as goal

pub returns-in-Message-clause-ok : goal.returns-in-Message-clause-ok
returns-in-Message-clause-ok c = rw c.in-Message.is c.take_message.ensures.ok
