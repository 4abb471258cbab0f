use Rattle.std.proofs.Common.{subst, sym}
use Rattle.guarded.specs.Served.{IsServed}
use Rattle.guarded.proofs.Shares.{new_home}
use Rattle.control.proofs.settling.settle_together.Goals as goal

pub returns-in-Err-clause-turns : goal.returns-in-Err-clause-turns
returns-in-Err-clause-turns g c = subst (IsServed g.N.ControlName.opened g.N.ControlName.asked) (sym c.in-Err.ensures.object) c.requires.opened

pub settle-done-requires-clause-home : goal.settle-done-requires-clause-home
settle-done-requires-clause-home g c κs within = new_home _ c.in-Ok.shares.items c.in-Ok.ensures.shares.1
