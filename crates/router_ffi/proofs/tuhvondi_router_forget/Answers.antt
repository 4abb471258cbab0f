use Rattle.std.proofs.Common.{rules}
use Rattle.router_ffi.proofs.tuhvondi_router_forget.Goals as goal

pub returns-in-Err-clause-done : goal.returns-in-Err-clause-done
returns-in-Err-clause-done c = search rules

pub returns-in_default-clause-done : goal.returns-in_default-clause-done
returns-in_default-clause-done c = search rules

pub returns-clause-done : goal.returns-clause-done
returns-clause-done c = search rules
