-- What a router is told: how it is read, when it is refused, and what the router makes of it.
use Rattle.std.specs.Prelude.{◌≡◌, ℕ, Bool, ◌==◌, ◌&&◌, nat_lt, nat_le, if◌then◌else◌, Option, Some, None, option_and_then, slice_get, is_some, Result, Ok, Err}
use Rattle.std.specs.FinMap.{find as row_of}
use Rattle.metric.specs.{Distance.greatest_cost, declared.kind.Kind.Kind, declared.kind.Kind.TheVariants.Update, declared.kind.Kind.TheVariants.Query, declared.kind.Kind.TheVariants.Reply}
use Rattle.ipv4_prefix.specs.Prefix.{Prefix, prefix_cmp}
use Rattle.network_model.specs.{declared.item.Item.Item, declared.network.Port.Port, World.Router, World.machine_of, Machine.Computation, Machine.is_port, Step.router_accepting, Step.router_at_home, Step.session_at}
use Rattle.dual_machine.specs.State.{awaits_at}
use Rattle.router_core.specs.Room.{MeetingNeedsMemory, NoticeNeedsMemory}
use Rattle.c_interface.specs.{Faults.first_of, Rows.prefix_fault, declared.fault.CallFault.CallFault}
use Rattle.c_interface.specs.declared.fault.CallFault.TheVariants.{BadCost, BadKind, UnknownPort, AlreadyUp, IsDown, NotAttached, OtherSession, NoMemory, Unasked, AskedTwice}
use Rattle.single_router.specs.{declared.frame.Frame.Frame, declared.input.Input.Input}
use Rattle.single_router.specs.declared.input.Input.TheVariants as input

-- ---- as it is read

-- what comes of a reading that has no fault
abbrev pub and_then : {X Y : Type 0} → Result X CallFault → (X → Result Y CallFault) → Result Y CallFault
and_then (Ok x) next = next x
and_then (Err f) next = Err f

-- a value, unless a test found something
abbrev pub unless : {X : Type 0} → Option CallFault → X → Result X CallFault
unless None x = Ok x
unless (Some f) x = Err f

-- the fault of a number for a cost
abbrev pub cost_fault : ℕ → Option CallFault
cost_fault n = if nat_le 1 n && nat_le n greatest_cost then None else Some BadCost

-- the cost of a number
abbrev pub cost_of : ℕ → Result ℕ CallFault
cost_of n = unless (cost_fault n) n

-- the prefix of an address's first bits
abbrev pub prefix_of : ℕ → ℕ → Result Prefix CallFault
prefix_of addr len = unless (prefix_fault addr len) (record { addr = addr; len = len })

-- the kind of a number
abbrev pub kind_by_number : ℕ → Result Kind CallFault
kind_by_number n = if n == 0 then Ok Update else if n == 1 then Ok Query else if n == 2 then Ok Reply else Err BadKind

-- a link that comes up, if its cost is one
abbrev pub up_input : ℕ → ℕ → ℕ → Result Input CallFault
up_input port session cost = and_then (cost_of cost) (λ c. Ok (input.Up port session c))

-- another cost of a link, if it is one
abbrev pub cost_input : ℕ → ℕ → Result Input CallFault
cost_input port cost = and_then (cost_of cost) (λ c. Ok (input.Cost port c))

-- a message, if its prefix and its kind are such
abbrev pub frame_input : Frame → Result Input CallFault
frame_input f = and_then (prefix_of f.addr f.len) (λ p. and_then (kind_by_number f.kind) (λ k.
    Ok (input.Message f.port f.session (record { kind = k; prefix = p; value = f.value }))))

-- an attachment, if its prefix and its cost are such
abbrev pub attached_input : ℕ → ℕ → ℕ → Result Input CallFault
attached_input addr len cost = and_then (prefix_of addr len) (λ p. and_then (cost_of cost) (λ c. Ok (input.Attached p c)))

-- an attachment that goes, if its prefix is one
abbrev pub detached_input : ℕ → ℕ → Result Input CallFault
detached_input addr len = and_then (prefix_of addr len) (λ p. Ok (input.Detached p))

-- ---- as it is refused

-- the fault that a test finds at a port; that there is no such port comes first
abbrev pub port_fault : Option Port → (Port → Option CallFault) → Option CallFault
port_fault None test = Some UnknownPort
port_fault (Some p) test = test p

-- a port whose link is down
abbrev pub down_fault : Port → Option CallFault
down_fault p = if p.up then None else Some IsDown

-- a port whose link cannot come up in this session: it is up, or was up in this session or a later one
abbrev pub up_fault : ℕ → Port → Option CallFault
up_fault session p = if p.up then Some AlreadyUp else if nat_lt p.session session then None else Some OtherSession

-- a port that takes no message of this session: its link is down, or up in another
abbrev pub message_fault : ℕ → Port → Option CallFault
message_fault session p = if p.up then (if p.session == session then None else Some OtherSession) else Some IsDown

-- whether a computation under way owes a reply to this port
abbrev pub owes_at : Option Computation → ℕ → Bool
owes_at c q = is_port q (option_and_then (λ k. k.debt) c)

-- a message that nobody who keeps to the protocol sends from port q, of a prefix with this computation: a query while the reply to the
-- one before is owed, or a reply that is not awaited
abbrev pub kind_fault : Option Computation → ℕ → Kind → Option CallFault
kind_fault c q Update = None
kind_fault c q Query = if owes_at c q then Some AskedTwice else None
kind_fault c q Reply = if awaits_at c q then None else Some Unasked

-- the cost of a router's attachment to a prefix, as it was told last
abbrev pub attachment_of : Router → Prefix → Option ℕ
attachment_of r p = option_and_then (λ m. m.attachment) (row_of prefix_cmp p r.machines)

-- why a router is not told: the first of the tests that finds something
abbrev pub told_fault : Input → Router → Option CallFault
told_fault (input.Up port session cost) r = port_fault (slice_get r.ports port) (up_fault session)
told_fault (input.Down port) r = port_fault (slice_get r.ports port) down_fault
told_fault (input.Cost port cost) r = port_fault (slice_get r.ports port) down_fault
told_fault (input.Message port session m) r =
    port_fault (slice_get r.ports port) (λ p. first_of (message_fault session p) (kind_fault (machine_of r m.prefix).computation port m.kind))
told_fault (input.Attached p cost) r = None
told_fault (input.Detached p) r = if is_some (attachment_of r p) then None else Some NotAttached

-- ---- as the router takes it

-- the router that was told
abbrev pub router_after : Input → Router → Router
router_after (input.Up port session cost) r = router_accepting port (Item.Up session cost) r
router_after (input.Down port) r = router_accepting port (Item.Down (session_at r.ports port)) r
router_after (input.Cost port cost) r = router_accepting port (Item.Cost (session_at r.ports port) cost) r
router_after (input.Message port session m) r = router_accepting port (Item.Message m) r
router_after (input.Attached p cost) r = router_at_home (record { prefix = p; cost = Some cost }) r
router_after (input.Detached p) r = router_at_home (record { prefix = p; cost = None }) r

-- the fault with which a call is refused, where this test is all that speaks against it: what the test finds, or else want
-- of memory
abbrev pub IsRefusedBy : Option CallFault → CallFault → Type 0
IsRefusedBy (Some f) fault = fault ≡ f
IsRefusedBy None fault = fault ≡ NoMemory

-- the same of a call that may need memory only if this is so
abbrev pub IsRefusedOnlyBy : Option CallFault → Type 0 → CallFault → Type 0
IsRefusedOnlyBy (Some f) needs fault = fault ≡ f
IsRefusedOnlyBy None needs fault = (fault ≡ NoMemory) × needs

-- an input may need memory
abbrev pub InputNeedsMemory : Input → Router → Type 0
InputNeedsMemory (input.Message port session m) r = MeetingNeedsMemory m.prefix r
InputNeedsMemory (input.Attached p cost) r = MeetingNeedsMemory p r
InputNeedsMemory (input.Detached p) r = MeetingNeedsMemory p r
InputNeedsMemory _ r = NoticeNeedsMemory r
