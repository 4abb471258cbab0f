-- A network as one prefix sees it: the machines of its routers, and what is on the way between them.
use Rattle.std.specs.Prelude.{ℕ, Bool, false, ◌&&◌, ◌==◌, if◌then◌else◌, List, [], ◌∷◌, ◌++◌, take, drop, Option, Some, None, slice_get, option_and_then}
use Rattle.std.specs.{Option.option_map_or, FinMap.find as row_of}
use Rattle.ipv4_prefix.specs.Prefix.{Prefix, prefix_cmp, prefix_eq}
use Rattle.metric.specs.{declared.kind.Kind.Kind, Distance.infinity}
use Rattle.network_model.specs.{declared.item.Message.Message, declared.item.Item.Item, declared.item.Held.Held, declared.route.Entry.Entry, declared.route.Entry.TheVariants.Local, declared.route.Entry.TheVariants.Via, declared.route.Entry.TheVariants.Unreachable, declared.network.End.End, declared.network.Place.Place, Machine.Machine, Machine.opening_machine, Step.session_at, Run.History, declared.route.NextHop.NextHop}
use Rattle.network_model.specs.World.{Link, Router, World, Network, side, machine_of, place_at, opening}

-- ---- what is seen

-- one end of a link: a router and a port of it
pub record LinkEnd : Type 0 where
  pub router : ℕ
  pub port : ℕ

-- the link end at port q of router i
abbrev pub at_port : ℕ → ℕ → LinkEnd
at_port i q = record { router = i; port = q }

-- what one router says to another of the prefix: an update, a query or a reply, with a distance
pub record Report : Type 0 where
  pub kind : Kind
  pub value : ℕ

-- what a router has yet to take at a port: a notice of its link, or a message of the prefix
pub data SeenItem : Type 0 where
  UpNotice : (session : ℕ) (cost : ℕ) → SeenItem
  DownNotice : (session : ℕ) → SeenItem
  CostNotice : (session : ℕ) (cost : ℕ) → SeenItem
  Reported : (message : Report) → SeenItem

-- a message of the prefix that a router holds for a port, meant for one session of the link there
pub record SeenHeld : Type 0 where
  pub session : ℕ
  pub message : Report

-- a network at one moment: the machine of each router, what it published, and what is queued or held at each link end
pub record State : Type 0 where
  pub machine : ℕ → Machine
  -- the session of which the router's notices told last
  pub seen : LinkEnd → ℕ
  pub up : LinkEnd → Bool
  pub session : LinkEnd → ℕ
  pub cost : LinkEnd → ℕ
  pub inbox : LinkEnd → List SeenItem
  -- what the router holds for the port: what it may release, and what it may not yet
  pub ripe : LinkEnd → List SeenHeld
  pub unripe : LinkEnd → List SeenHeld
  pub published : ℕ → Option NextHop
  -- the feasible distance of the machine when the router published last
  pub published_fd : ℕ → ℕ

-- ---- what a prefix sees of items, of held messages and of rows

-- a message without its prefix
abbrev pub msg_of : Message → Report
msg_of m = record { kind = m.kind; value = m.value }

-- what the prefix hears of an item: each notice, and a message of its own
abbrev pub heard_item : Prefix → Item → List SeenItem
heard_item p (Item.Up session cost) = UpNotice session cost ∷ []
heard_item p (Item.Down session) = DownNotice session ∷ []
heard_item p (Item.Cost session cost) = CostNotice session cost ∷ []
heard_item p (Item.Message m) = if prefix_eq p m.prefix then Reported (msg_of m) ∷ [] else []

-- what the prefix hears of a list of items: the notices, and its own messages
abbrev pub heard : Prefix → List Item → List SeenItem
heard p [] = []
heard p (x ∷ xs) = heard_item p x ++ heard p xs

-- whether a held message is for port q and speaks of the prefix
abbrev pub is_kept : Prefix → ℕ → Held → Bool
is_kept p q h = (h.port == q) && prefix_eq p (h.message).prefix

-- a held message without its prefix and its port
abbrev pub held_as : Held → SeenHeld
held_as h = record { session = h.session; message = msg_of h.message }

-- the messages of the prefix that are held for port q
abbrev pub kept : Prefix → ℕ → List Held → List SeenHeld
kept p q [] = []
kept p q (h ∷ hs) = if is_kept p q h then held_as h ∷ kept p q hs else kept p q hs

-- the port and the session of an entry, if it leads on
abbrev pub next_hop : Entry → Option NextHop
next_hop Local = None
next_hop (Via q session) = Some (record { port = q; session = session })
next_hop Unreachable = None

-- ---- parts of routers and links

-- what f says of the link at a place, seen from its end there; d where there is none
abbrev pub on_link : {X : Type 0} → (End → Link → X) → X → Option Place → List Link → X
on_link f d None links = d
on_link f d (Some x) links = option_map_or (f x.end) (slice_get links x.link) d

-- the messages that a router may release, oldest first
abbrev pub ripe_of : Router → List Held
ripe_of r = take (r.gate).ripe (r.gate).held

-- the messages that a router may not release yet, oldest first
abbrev pub unripe_of : Router → List Held
unripe_of r = drop (r.gate).ripe (r.gate).held

-- the next hop that a router published for the prefix
abbrev pub next_hop_at : Prefix → Router → Option NextHop
next_hop_at p r = option_and_then next_hop (row_of prefix_cmp p (r.table).published)

-- what the prefix hears of the items that this end of a link has yet to take
abbrev pub inbox_of : Prefix → End → Link → List SeenItem
inbox_of p e k = heard p (side e k).inbox

-- the place at which a port lies, if there is such a port
abbrev pub lay : Network → LinkEnd → Option Place
lay n e = place_at (opening n) e.router e.port

-- ---- a network

-- a world of the network as the prefix sees it, with the feasible distance of each router when it published last
abbrev pub view : Network → Prefix → World → (ℕ → ℕ) → State
view n p w pfd = record {
  machine = λ i. option_map_or (λ r. machine_of r p) (slice_get w.routers i) (opening_machine None []);
  seen = λ e. option_map_or (λ r. session_at r.ports e.port) (slice_get w.routers e.router) 0;
  up = λ e. on_link (λ en k. k.up) false (lay n e) w.links;
  session = λ e. on_link (λ en k. k.session) 0 (lay n e) w.links;
  cost = λ e. on_link (λ en k. (side en k).cost) 0 (lay n e) w.links;
  inbox = λ e. on_link (inbox_of p) [] (lay n e) w.links;
  ripe = λ e. option_map_or (λ r. kept p e.port (ripe_of r)) (slice_get w.routers e.router) [];
  unripe = λ e. option_map_or (λ r. kept p e.port (unripe_of r)) (slice_get w.routers e.router) [];
  published = λ i. option_map_or (next_hop_at p) (slice_get w.routers i) None;
  published_fd = pfd;
}

-- the feasible distance of router i of this list for the prefix; infinity where there is no such router
abbrev pub fd_in : List Router → Prefix → ℕ → ℕ
fd_in rs p i = option_map_or (λ r. (machine_of r p).fd) (slice_get rs i) infinity

-- a history of the network as the prefix sees it
abbrev pub destination_view : Network → Prefix → History → State
destination_view n p h = view n p h.world (fd_in h.published p)
