-- A network that runs goes to another thread.
use denote.Param.Send.{IsSend, sendable}
use denote.Param.SendFields.{declared_send}
use Rattle.network_calls.proofs.running.Going.TheSendSync as going
use Rattle.network_calls.specs.contracts.running.Running as Running

-- its one field is an enumeration, which `search` does not look into
inside_sends : IsSend Running.TheInside.the_row
inside_sends = declared_send Running.TheInside.the_type (going.the_send, tt)

pub running_sends : IsSend Running.the_row
running_sends = search (sendable, inside_sends)
