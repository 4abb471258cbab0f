use Rattle.std.proofs.Common.{◌≡◌, drop}
use Rattle.std.specs.List.{list_all}
use Rattle.router_core.specs.Alone.{is_unreported}
use Rattle.router_core.proofs.knowledge.are_unreported.Given as goal

-- what is left decides
abbrev pub invariant-loop-port : goal.invariant-loop-port
invariant-loop-port g l = list_all is_unreported (drop l.port l.machine.machine.ports) ≡ list_all is_unreported l.machine.machine.ports
