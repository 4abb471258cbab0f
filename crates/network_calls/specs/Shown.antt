-- What a machine, a link, a queue, a gate and notices have, as C is shown it.
use Rattle.std.specs.Prelude.{◌≡◌, ℕ, nat_lt, List, map, take, drop, length, Option, option_and_then, option_map, slice_get, unwrap_or, IfSome}
use Rattle.std.specs.{List.range_with_len, Option.option_map_or, FinMap.find as row_of}
use Rattle.ipv4_prefix.specs.Prefix.{Prefix, prefix_cmp}
use Rattle.network_model.specs.{Machine.Machine, Step.is_due, Step.ripe_front, declared.item.Item.Item, declared.item.Notice.Notice}
use Rattle.network_model.specs.World.{Link, Router, World, side_at}
use Rattle.network_model.specs.declared.item.Item.TheVariants.{Up, Down, Cost, Message}
use Rattle.single_router.specs.{Frames.frame_of, Frames.message_kind_number, States.flag, States.state_of, declared.frame.Frame.Frame}
use Rattle.network_calls.specs.{declared.gate.GateShown.GateShown, declared.gate.NoticeShown.NoticeShown, declared.link.ItemShown.ItemShown, declared.link.LinkShown.LinkShown, declared.machine.MachineShown.MachineShown, declared.machine.NeighbourShown.NeighbourShown}

-- ---- machines

-- what a machine keeps of the neighbour at a port; nothing of a port that is not there
abbrev pub neighbour_shown : Machine → ℕ → NeighbourShown
neighbour_shown m q = option_map_or (λ n. record { reported = n.reported; cost = n.cost; up = flag n.up }) (slice_get m.ports q) (record { reported = 0; cost = 0; up = 0 })

-- the successor, a port or the attachment; 255 where there is none
abbrev pub successor_shown : Machine → ℕ
successor_shown m = unwrap_or m.successor 255

-- what C is shown of a machine: its state, the neighbours at 32 ports, and its successor
abbrev pub machine_shown : Router → Prefix → Machine → MachineShown
machine_shown r p m = record { state = state_of r.table p m; neighbours = map (neighbour_shown m) (range_with_len 0 32); successor = successor_shown m }

-- a router's machine for a prefix, where the router has heard of it
abbrev pub machine_heard : Prefix → Router → Option MachineShown
machine_heard p r = option_map (machine_shown r p) (row_of prefix_cmp p r.machines)

-- ---- links and queues

-- what C is shown of a link
abbrev pub link_shown : Link → LinkShown
link_shown k = record {
  to_a = length (k.a).inbox;
  to_b = length (k.b).inbox;
  from_a = (k.a).cost;
  from_b = (k.b).cost;
  a = (k.a).router;
  b = (k.b).router;
  session = k.session;
  up = flag k.up;
}

-- an item as C has it: a message, or a notice of the link
abbrev pub item_shown : Item → ItemShown
item_shown (Up session cost) = record { addr = 0; value = cost; session = session; kind = 3; len = 0 }
item_shown (Down session) = record { addr = 0; value = 0; session = session; kind = 4; len = 0 }
item_shown (Cost session cost) = record { addr = 0; value = cost; session = session; kind = 5; len = 0 }
item_shown (Message m) = record { addr = (m.prefix).addr; value = m.value; session = 0; kind = message_kind_number m.kind; len = (m.prefix).len }

-- of this list, oldest first, as many as there is room for were written, as C is shown them, over the first of those that were there: so many, and whether there are more
pub record AreShownOver {X S : Type 0} (shown : X → S) (list : List X) (old new : List S) (written more : ℕ) : Type 0 where
  pub count : written ≡ length (take (length old) list)
  pub first : take written new ≡ map shown (take (length old) list)
  pub rest : drop written new ≡ drop written old
  pub more_is : more ≡ flag (nat_lt (length old) (length list))

-- so of the items that a router has yet to take from a port
abbrev pub IsQueueShown : World → ℕ → ℕ → List ItemShown → List ItemShown → ℕ → ℕ → Type 0
IsQueueShown w i q old new written more = IfSome (side_at w i q) (λ d. AreShownOver item_shown d.inbox old new written more)

-- ---- gates

-- the message that leaves next; of none kind 255
abbrev pub front_shown : Router → Frame
front_shown r = option_map_or frame_of (ripe_front r) (record { addr = 0; value = 0; session = 0; len = 0; kind = 255; port = 0 })

-- what a router holds back, which has yet to take so many notices
abbrev pub gate_shown : Router → ℕ → GateShown
gate_shown r notices = record {
  held = length (r.gate).held;
  ripe = (r.gate).ripe;
  notices = notices;
  generation = r.generation;
  front = front_shown r;
  due = flag (is_due r);
}

-- what C is shown of what a router holds, by its number
abbrev pub gate_at : ℕ → World → Option GateShown
gate_at i w = option_and_then (λ r. option_map (λ a. gate_shown r (length a.notices)) (slice_get w.attachments i)) (slice_get w.routers i)

-- of the messages that a router holds, so many were written
abbrev pub AreHeldShown : World → ℕ → List Frame → List Frame → ℕ → ℕ → Type 0
AreHeldShown w i old new written more = IfSome (slice_get w.routers i) (λ r. AreShownOver frame_of (r.gate).held old new written more)

-- a notice of a router's own attachment as C has it: of one that is over the cost is 0
abbrev pub notice_shown : Notice → NoticeShown
notice_shown n = record { addr = (n.prefix).addr; cost = unwrap_or n.cost 0; len = (n.prefix).len }

-- of the notices of its attachments that a router has yet to take, so many were written
abbrev pub AreNoticesShown : World → ℕ → List NoticeShown → List NoticeShown → ℕ → ℕ → Type 0
AreNoticesShown w i old new written more = IfSome (slice_get w.attachments i) (λ a. AreShownOver notice_shown a.notices old new written more)
