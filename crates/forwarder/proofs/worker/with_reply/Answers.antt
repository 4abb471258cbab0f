use Rattle.std.proofs.Common.{rules}
use Rattle.forwarder.proofs.worker.with_reply.Goals as goal

pub returns-in_err-replies-clause-ok : goal.returns-in_err-replies-clause-ok
returns-in_err-replies-clause-ok g c = search rules

pub returns-in_err-reply-clause-ok : goal.returns-in_err-reply-clause-ok
returns-in_err-reply-clause-ok g c = search rules

pub returns-in_err-map_err-clause-ok : goal.returns-in_err-map_err-clause-ok
returns-in_err-map_err-clause-ok g c = search rules
