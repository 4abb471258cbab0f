-- The steps of a network: which are lawful, why another is refused, and what a lawful one makes.
use Rattle.std.specs.Prelude.{◌≡◌, ℕ, ◌+◌, ◌-◌, ◌<◌, Bool, true, false, not, ◌&&◌, ◌||◌, ◌==◌, nat_lt, if◌then◌else◌, List, [], ◌∷◌, ◌++◌, map, length, drop, Option, Some, None, slice_get, filter, option_and_then, is_none, ◌⊎◌}
use Rattle.std.specs.{List.flat_map, Option.option_map_or, FinMap.find as row_of, FinMap.put, FinMap.Entries.where_key}
use Rattle.metric.specs.Distance.{IsCost}
use Rattle.ipv4_prefix.specs.Prefix.{Prefix, prefix_cmp, prefix_eq}
use Rattle.network_model.specs.{declared.machine.Event.Event, declared.machine.Outgoing.Outgoing, declared.item.Message.Message, declared.item.Item.Item, declared.item.Held.Held, declared.item.Notice.Notice, declared.route.Entry.Entry, declared.route.Entry.TheVariants.Local, declared.route.Entry.TheVariants.Via, declared.route.Entry.TheVariants.Unreachable, declared.network.End.End, declared.network.Port.Port, declared.step.Step.Step, declared.step.Refusal.Refusal, Network.first_cause, declared.route.NextHop.NextHop, NextHops.hops_by_prefix, NextHops.hops_eq}
use Rattle.network_model.specs.declared.step.Step.TheVariants.{LinkUp, LinkDown, SetCost, Deliver, Publish, Release, Attach, Detach}
use Rattle.network_model.specs.declared.step.Refusal.TheVariants.{UnknownRouter, UnknownLink, AlreadyUp, IsDown, SessionsSpent, NothingToDeliver, NothingDue, NothingRipe, UnknownPrefix, NotAttached}
pub use Rattle.network_model.specs.World.{session_at}
use Rattle.network_model.specs.Machine.{Machine, Reaction, reaction, changed_at, port_count, event_at_home}
use Rattle.network_model.specs.World.{Gate, Side, Link, Table, Router, Attachments, World, other, place_at, link_at, side_at, degree_of, attachment_at, is_known, machine_of}

-- ---- links

-- whether an item tells of the link itself
abbrev pub is_notice : Item → Bool
is_notice (Item.Message message) = false
is_notice _ = true

-- the side with one more item at the back
abbrev pub with_item : Item → Side → Side
with_item item s = record s { inbox = s.inbox ++ item ∷ [] }

-- the link with one of its sides changed
abbrev pub changed_side : End → (Side → Side) → Link → Link
changed_side End.A f k = record k { a = f k.a }
changed_side End.B f k = record k { b = f k.b }

-- a link that comes up: the next session, and both ends are told it with the cost from there
abbrev pub link_come_up : Link → Link
link_come_up k = record {
  up = true;
  session = k.session + 1;
  a = with_item (Item.Up (k.session + 1) (k.a).cost) k.a;
  b = with_item (Item.Up (k.session + 1) (k.b).cost) k.b;
}

-- the side of a link that goes down: the messages are lost, the notices stay in order, and one more comes
abbrev pub side_cut : ℕ → Side → Side
side_cut session s = record s { inbox = filter is_notice s.inbox ++ Item.Down session ∷ [] }

-- a link that goes down: both ends are told; the session stays
abbrev pub link_gone_down : Link → Link
link_gone_down k = record k { up = false; a = side_cut k.session k.a; b = side_cut k.session k.b }

-- another cost from one end, which is told it
abbrev pub with_cost : ℕ → End → Link → Link
with_cost cost e k = changed_side e (λ s. record s { cost = cost; inbox = s.inbox ++ Item.Cost k.session cost ∷ [] }) k

-- the link without the front item towards this end
abbrev pub with_front_taken : End → Link → Link
with_front_taken e k = changed_side e (λ s. record s { inbox = drop 1 s.inbox }) k

-- whether the link is up in this session
abbrev pub is_up_in : ℕ → Link → Bool
is_up_in session k = k.up && (k.session == session)

-- the link with a message from this end, which is discarded where the link is not up in the message's session
abbrev pub with_message : Held → End → Link → Link
with_message h e k = if is_up_in h.session k then changed_side (other e) (with_item (Item.Message h.message)) k else k

-- ---- routers

-- the entry of a machine: local where the successor is its attachment, else by way of the successor where there is one,
-- also while a computation runs, else unreachable
abbrev pub entry_of : List Port → Machine → Entry
entry_of ports m = option_map_or (λ q. if q == port_count m then Local else Via q (session_at ports q)) m.successor Unreachable

-- what a machine sends becomes held for the session of its port
abbrev pub held_of : List Port → Prefix → Outgoing → Held
held_of ports p s = record {
  port = s.port;
  session = session_at ports s.port;
  message = record { kind = s.kind; prefix = p; value = s.value };
}

-- the rows that these machines choose
abbrev pub chosen_rows : List Port → List (Prefix × Machine) → List (Prefix × Entry)
chosen_rows ports machines = map (λ m. (m.0, entry_of ports m.1)) machines

-- a router with these ports and machines: its control rows follow them, and what they sent is held at the back, not ripe
abbrev pub with_machines : List Port → List (Prefix × Machine) → List Held → Router → Router
with_machines ports machines sent r = record r {
  ports = ports;
  machines = machines;
  table = record r.table { control = chosen_rows ports machines };
  gate = record r.gate { held = (r.gate).held ++ sent };
}

-- what each machine does at an event, in the order of the prefixes
abbrev pub reactions : Event → List (Prefix × Machine) → List (Prefix × Reaction)
reactions e machines = map (λ m. (m.0, reaction m.1 e)) machines

-- a router that took a notice: its ports changed, and each of its machines meets the event
abbrev pub router_noticing : Event → List Port → Router → Router
router_noticing e ports r =
    let all = reactions e r.machines in
    with_machines ports (map (λ x. (x.0, (x.1).machine)) all) (flat_map (λ x. map (held_of ports x.0) (x.1).sends) all) r

-- a router where the machine of one prefix meets an event. A prefix that was unheard is heard of from now on
abbrev pub router_meeting : Prefix → Event → Router → Router
router_meeting p e r =
    let x = reaction (machine_of r p) e in
    with_machines r.ports (put prefix_cmp p x.machine r.machines) (map (held_of r.ports p) x.sends) r

-- a router that took a message: the machine of its prefix meets it
abbrev pub router_told : ℕ → Message → Router → Router
router_told q m r = router_meeting m.prefix (Event.Message q m.kind m.value) r

-- a router that took a notice of its attachment to a prefix: the machine of that prefix meets it
abbrev pub router_at_home : Notice → Router → Router
router_at_home n r = router_meeting n.prefix (event_at_home n.cost) r

-- a router that took an item from its port q
abbrev pub router_accepting : ℕ → Item → Router → Router
router_accepting q (Item.Up session cost) r = router_noticing (Event.Up q cost) (changed_at q (λ p. record { up = true; session = session; cost = cost }) r.ports) r
router_accepting q (Item.Down session) r = router_noticing (Event.Down q) (changed_at q (λ p. record p { up = false; session = session }) r.ports) r
router_accepting q (Item.Cost session cost) r = router_noticing (Event.Cost q cost) (changed_at q (λ p. record p { session = session; cost = cost }) r.ports) r
router_accepting q (Item.Message m) r = router_told q m r

-- all that a gate holds is ripe
abbrev pub with_all_ripe : Gate → Gate
with_all_ripe g = record g { ripe = length g.held }

-- the oldest message that a gate holds, where it is ripe
abbrev pub gate_front : Gate → Option Held
gate_front g = if nat_lt 0 g.ripe then slice_get g.held 0 else None

-- a gate without that message
abbrev pub with_front_released : Gate → Gate
with_front_released g = record { held = drop 1 g.held; ripe = g.ripe - 1 }

-- the next hops that a router would publish
abbrev pub offered_hops : Router → List (Prefix × List NextHop)
offered_hops r = hops_by_prefix (r.hops).offer (session_at r.ports) r.machines

-- a router that publishes: its control rows and what it offers beside them are in force, and all that it holds is ripe
abbrev pub router_publishing : Router → Router
router_publishing r = record r {
  table = record r.table { published = (r.table).control };
  hops = record r.hops { published = offered_hops r };
  gate = with_all_ripe r.gate;
  generation = r.generation + 1;
}

-- a router without the front of what it holds
abbrev pub router_releasing : Router → Router
router_releasing r = record r { gate = with_front_released r.gate }

-- the oldest message that a router holds, where it is ripe
abbrev pub ripe_front : Router → Option Held
ripe_front r = gate_front r.gate

-- whether two entries are one
abbrev pub entry_eq : Entry → Entry → Bool
entry_eq Local Local = true
entry_eq (Via p s) (Via q t) = (p == q) && (s == t)
entry_eq Unreachable Unreachable = true
entry_eq _ _ = false

-- whether a row stands among these
abbrev pub has_row : List (Prefix × Entry) → Prefix × Entry → Bool
has_row rows r = option_map_or (λ e. entry_eq e r.1) (row_of prefix_cmp r.0 rows) false

-- the control rows that differ from the published ones
abbrev pub changed_rows : Table → List (Prefix × Entry)
changed_rows t = filter (λ r. not (has_row t.published r)) t.control

-- whether the next hops of a prefix are these: of one that was never published they are not, even if there are none
abbrev pub has_hops : List (Prefix × List NextHop) → Prefix × List NextHop → Bool
has_hops rows x = option_map_or (λ hs. hops_eq hs x.1) (row_of prefix_cmp x.0 rows) false

-- the offered next hops that differ from the published ones
abbrev pub changed_hops : Router → List (Prefix × List NextHop)
changed_hops r = filter (λ x. not (has_hops (r.hops).published x)) (offered_hops r)

-- whether a publication would put other next hops or rows in force
abbrev pub has_changes : Router → Bool
has_changes r = nat_lt 0 (length (changed_hops r)) || nat_lt 0 (length (changed_rows r.table))

-- whether there is something to publish: next hops or a row that differ, or a held message that is not ripe
abbrev pub is_due : Router → Bool
is_due r = has_changes r || nat_lt (r.gate).ripe (length (r.gate).held)

-- ---- attachments

-- a router that is attached to the prefix at this cost, and has yet to take the notice of it
abbrev pub with_attachment : Prefix → ℕ → Attachments → Attachments
with_attachment p cost a = record { costs = put prefix_cmp p cost a.costs; notices = a.notices ++ record { prefix = p; cost = Some cost } ∷ [] }

-- a router that is no longer attached to the prefix, and has yet to take the notice of it
abbrev pub without_attachment : Prefix → Attachments → Attachments
without_attachment p a = record { costs = where_key prefix_cmp (λ x. not (prefix_eq x p)) a.costs; notices = a.notices ++ record { prefix = p; cost = None } ∷ [] }

-- a router that took the oldest notice
abbrev pub with_notice_taken : Attachments → Attachments
with_notice_taken a = record a { notices = drop 1 a.notices }

-- ---- the world

-- the world with one router changed
abbrev pub changed_router : ℕ → (Router → Router) → World → World
changed_router i f w = record w { routers = changed_at i f w.routers }

-- the world with the link at a port changed, as seen from its end there
abbrev pub changed_link : ℕ → ℕ → (End → Link → Link) → World → World
changed_link i q f w = option_map_or (λ p. record w { links = changed_at p.link (f p.end) w.links }) (place_at w i q) w

-- the world with one router's attachments changed
abbrev pub changed_attachments : ℕ → (Attachments → Attachments) → World → World
changed_attachments i f w = record w { attachments = changed_at i f w.attachments }

-- the item that a port takes next
abbrev pub front_at : World → ℕ → ℕ → Option Item
front_at w i q = option_and_then (λ s. slice_get s.inbox 0) (side_at w i q)

-- whether this port of a router is the one numbered by its degree, at which it takes the notices of its attachments
abbrev pub is_at_home : World → ℕ → ℕ → Bool
is_at_home w i q = option_map_or (λ d. q == d) (degree_of w i) false

-- the notice that a router takes next at this port: none at a port of a link
abbrev pub notice_at : World → ℕ → ℕ → Option Notice
notice_at w i q = if is_at_home w i q then option_and_then (λ a. slice_get a.notices 0) (slice_get w.attachments i) else None

-- the message that a router releases next
abbrev pub release_at : World → ℕ → Option Held
release_at w i = option_and_then ripe_front (slice_get w.routers i)

-- router i took this item from its port q
abbrev pub with_delivered : ℕ → ℕ → World → Item → World
with_delivered i q w item = changed_router i (router_accepting q item) (changed_link i q with_front_taken w)

-- router i took this notice of its attachment
abbrev pub with_noticed : ℕ → World → Notice → World
with_noticed i w n = changed_router i (router_at_home n) (changed_attachments i with_notice_taken w)

-- router i released this message
abbrev pub with_released : ℕ → World → Held → World
with_released i w h = changed_router i router_releasing (changed_link i h.port (with_message h) w)

-- the world after a lawful step
abbrev pub next : World → Step → World
next w (LinkUp l) = record w { links = changed_at l link_come_up w.links }
next w (LinkDown l) = record w { links = changed_at l link_gone_down w.links }
next w (SetCost i q cost) = changed_link i q (with_cost cost) w
next w (Deliver i q) = option_map_or (with_delivered i q w) (front_at w i q) (option_map_or (with_noticed i w) (notice_at w i q) w)
next w (Publish i) = changed_router i router_publishing w
next w (Release i) = option_map_or (with_released i w) (release_at w i) w
next w (Attach i p cost) = changed_attachments i (with_attachment p cost) w
next w (Detach i p) = changed_attachments i (without_attachment p) w

-- ---- lawful steps

-- a link's session never passes this
abbrev pub last_session : ℕ
last_session = 65535

-- what must be true for a step to be done
abbrev pub Lawful : World → Step → Type 0
Lawful w (LinkUp l) = (k : Link) × (slice_get w.links l ≡ Some k) × (k.up ≡ false) × (k.session < last_session)
Lawful w (LinkDown l) = (k : Link) × (slice_get w.links l ≡ Some k) × (k.up ≡ true)
Lawful w (SetCost i q cost) = (r : Router) × (k : Link) × (slice_get w.routers i ≡ Some r) × (link_at w i q ≡ Some k) × (k.up ≡ true) × IsCost cost
Lawful w (Deliver i q) = (r : Router) × (slice_get w.routers i ≡ Some r) × (((item : Item) × (front_at w i q ≡ Some item)) ⊎ ((n : Notice) × (notice_at w i q ≡ Some n)))
Lawful w (Publish i) = (r : Router) × (slice_get w.routers i ≡ Some r) × (is_due r ≡ true)
Lawful w (Release i) = (h : Held) × (release_at w i ≡ Some h)
Lawful w (Attach i p cost) = (r : Router) × (slice_get w.routers i ≡ Some r) × (is_known w p ≡ true) × IsCost cost
Lawful w (Detach i p) = (r : Router) × (cost : ℕ) × (slice_get w.routers i ≡ Some r) × (is_known w p ≡ true) × (attachment_at w i p ≡ Some cost)

-- a step that can be asked: a cost that is set is a cost
abbrev pub CanBeAsked : Step → Type 0
CanBeAsked (LinkUp l) = Unit {0}
CanBeAsked (LinkDown l) = Unit {0}
CanBeAsked (SetCost i q cost) = IsCost cost
CanBeAsked (Deliver i q) = Unit {0}
CanBeAsked (Publish i) = Unit {0}
CanBeAsked (Release i) = Unit {0}
CanBeAsked (Attach i p cost) = IsCost cost
CanBeAsked (Detach i p) = Unit {0}

-- ---- refusals

-- whether the link that is there, if any, is up
abbrev pub is_up : Option Link → Bool
is_up k = option_map_or (λ l. l.up) k false

-- each cause that a step may be refused for, in the order of the tests
abbrev pub causes : World → Step → List (Bool × Refusal)
causes w (LinkUp l) =
    (is_none (slice_get w.links l), UnknownLink)
    ∷ (is_up (slice_get w.links l), AlreadyUp)
    ∷ (not (option_map_or (λ k. nat_lt k.session last_session) (slice_get w.links l) false), SessionsSpent) ∷ []
causes w (LinkDown l) =
    (is_none (slice_get w.links l), UnknownLink)
    ∷ (not (is_up (slice_get w.links l)), IsDown) ∷ []
causes w (SetCost i q cost) =
    (is_none (slice_get w.routers i), UnknownRouter)
    ∷ (is_none (link_at w i q), UnknownLink)
    ∷ (not (is_up (link_at w i q)), IsDown) ∷ []
causes w (Deliver i q) =
    (is_none (slice_get w.routers i), UnknownRouter)
    ∷ (is_none (link_at w i q) && not (is_at_home w i q), UnknownLink)
    ∷ (is_none (front_at w i q) && is_none (notice_at w i q), NothingToDeliver) ∷ []
causes w (Publish i) =
    (is_none (slice_get w.routers i), UnknownRouter)
    ∷ (not (option_map_or is_due (slice_get w.routers i) false), NothingDue) ∷ []
causes w (Release i) =
    (is_none (slice_get w.routers i), UnknownRouter)
    ∷ (is_none (release_at w i), NothingRipe) ∷ []
causes w (Attach i p cost) =
    (is_none (slice_get w.routers i), UnknownRouter)
    ∷ (not (is_known w p), UnknownPrefix) ∷ []
causes w (Detach i p) =
    (is_none (slice_get w.routers i), UnknownRouter)
    ∷ (not (is_known w p), UnknownPrefix)
    ∷ (is_none (attachment_at w i p), NotAttached) ∷ []

-- why a step that can be asked is refused; none where it is lawful
abbrev pub refusal : World → Step → Option Refusal
refusal w s = first_cause (causes w s)
