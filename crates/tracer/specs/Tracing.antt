-- What a trace does at a router, as code has it.
use Rattle.network_model.specs.Forwarding.{Onward as PacketOnward, Ends, Goes}
use Rattle.tracer.specs.declared.onward.Onward.{Onward}

-- what a trace does at a router
abbrev pub traced_onward : Onward → PacketOnward
traced_onward (Onward.Ends end) = Ends end
traced_onward (Onward.Goes prefix router) = Goes prefix router
