use Rattle.std.proofs.Common.{subst, rules}
use Rattle.network_model.specs.Network.{program_limits}
use Rattle.network_calls.specs.Parts.{IsFaultWithin}
use Rattle.network_ffi.proofs.tuhvondi_network_new.Goals as goal

pub returns-in-Err-clause-cause : goal.returns-in-Err-clause-cause
returns-in-Err-clause-cause c = λ refused. record {
  failure = c.in-Err.failure;
  cause = subst (λ n. IsFaultWithin program_limits n c.args.links.now c.args.attachments.now (c.in-Err.failure, c.in-Err.at)) c.from.ensures c.in-Err.ensures.err;
  number = c.number.ensures.number;
}

pub returns-in-Ok-clause-done : goal.returns-in-Ok-clause-done
returns-in-Ok-clause-done c = search rules

pub returns-in-Ok-clause-cause : goal.returns-in-Ok-clause-cause
returns-in-Ok-clause-cause c = search rules

pub returns-in-Err-clause-done : goal.returns-in-Err-clause-done
returns-in-Err-clause-done c = search rules
