use Rattle.std.proofs.Common.{rules}
use Rattle.router_ffi.proofs.tuhvondi_router_link_down.Goals as goal

pub returns : goal.returns
returns c = search rules
