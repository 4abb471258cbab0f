-- The two ends of a link that is up, and the four facts on which the freedom from loops rests.
use Rattle.std.specs.Prelude.{◌≡◌, ◌⊎◌, ℕ, ◌+◌, ◌<◌, ◌≤◌, Bool, true, false, ◌&&◌, ◌==◌, if◌then◌else◌, List, [], ◌∷◌, ◌++◌, Option, Some, None}
use Rattle.metric.specs.{declared.kind.Kind.Kind, declared.kind.Kind.TheVariants.Query, declared.kind.Kind.TheVariants.Reply}
use Rattle.network_model.specs.{Machine.Machine, Machine.is_port, Numbers.one_if, declared.route.NextHop.NextHop}
use Rattle.network_model.specs.View.{Report, SeenHeld, SeenItem, UpNotice, DownNotice, CostNotice, Reported, LinkEnd, State}
use Rattle.machine_laws.specs.Laws.{is_kind, is_up_at, reported_at, awaits, owes_port, is_active}
use Rattle.loop_freedom.specs.Network.{Topology}

-- ---- lists of messages

-- how many messages are of one kind
abbrev pub count : Kind → List Report → ℕ
count k [] = 0
count k (m ∷ ms) = one_if (is_kind k m.kind) + count k ms

-- every value is at least n
abbrev pub AtLeast : ℕ → List Report → Type 0
AtLeast n [] = Unit {0}
AtLeast n (m ∷ ms) = (n ≤ m.value) × AtLeast n ms

-- every value from the last query on is at least n; every value where there is no query
abbrev pub AtLeastFromLastQuery : ℕ → List Report → Type 0
AtLeastFromLastQuery n [] = Unit {0}
AtLeastFromLastQuery n (m ∷ ms) = (count Query ms ≡ 0 → n ≤ m.value) × AtLeastFromLastQuery n ms

-- ---- an end

-- what one end of a live link shows of its router, and what the router has on its way to the other end
pub record End : Type 0 where
  -- the router knows of the link's present session
  pub current : Bool
  pub fd : ℕ
  pub rd : ℕ
  -- what the router keeps of the other end
  pub reported : ℕ
  -- the published feasible distance
  pub pfd : ℕ
  pub active : Bool
  -- only where the end is current:
  pub awaits : Bool
  pub owes : Bool
  pub chosen : Bool
  -- the published successor is at this end, in the present session
  pub shown : Bool
  -- what was released to the other end, or may be; and what may not yet be
  pub out : List Report
  pub kept : List Report

-- all that is on its way to the other end: released, ripe, and unripe
abbrev pub pipe : End → List Report
pipe x = x.out ++ x.kept

-- the messages among the items
abbrev pub messages : List SeenItem → List Report
messages [] = []
messages (UpNotice s c ∷ is) = messages is
messages (DownNotice s ∷ is) = messages is
messages (CostNotice s c ∷ is) = messages is
messages (Reported m ∷ is) = m ∷ messages is

-- the messages among those held that are meant for session n
abbrev pub live : ℕ → List SeenHeld → List Report
live n [] = []
live n (h ∷ hs) = if h.session == n then h.message ∷ live n hs else live n hs

-- the machine's port q is up, and the session seen there is the link's
abbrev pub is_current : Machine → ℕ → ℕ → ℕ → Bool
is_current m q seen n = is_up_at m q && (seen == n)

-- the published successor is port q in session n
abbrev pub is_next_hop : ℕ → ℕ → Option NextHop → Bool
is_next_hop q n None = false
is_next_hop q n (Some o) = (o.port == q) && (o.session == n)

-- the end at port q of a live link in session n, where the other end has yet to take the items
abbrev pub end_of : Machine → ℕ → ℕ → ℕ → Option NextHop → ℕ → List SeenItem → List SeenHeld → List SeenHeld → End
end_of m q seen n o pfd items ripe unripe = record {
  current = is_current m q seen n;
  fd = m.fd;
  rd = m.rd;
  reported = reported_at m q;
  pfd = pfd;
  active = is_active m;
  awaits = is_current m q seen n && awaits m q;
  owes = is_current m q seen n && owes_port m q;
  chosen = is_current m q seen n && is_port q m.successor;
  shown = is_next_hop q n o;
  out = messages items ++ live n ripe;
  kept = live n unripe;
}

-- the end e in a state, where f is across the link
abbrev pub end_towards : State → LinkEnd → LinkEnd → End
end_towards s e f = end_of (s.machine e.router) e.port (s.seen e) (s.session e) (s.published e.router) (s.published_fd e.router) (s.inbox f) (s.ripe e) (s.unripe e)

-- the end e in a state
abbrev pub end_at : Topology → State → LinkEnd → End
end_at t s e = end_towards s e (t.far e)

-- ---- the four facts

-- what holds of the two ends of a link that is up, seen from the end x
pub record LinkFacts (x y : End) : Type 0 where
  -- 1: the feasible distance of x is at most every value on its way to y, and at most what y keeps of x once y knows of the link's session
  pub feasible_below_sent : AtLeast x.fd (pipe x)
  pub feasible_below_kept : y.current ≡ true → x.fd ≤ y.reported
  -- 2: the feasible distance that x published is at most every value that x has released or may release, and at most what y keeps of x
  pub published_below_sent : AtLeast x.pfd x.out
  pub published_below_kept : y.current ≡ true → x.pfd ≤ y.reported
  -- 3: along an edge from x to y both feasible distances of y, present and published, are below that of x by which the edge goes
  pub control_edge_falls : x.chosen ≡ true → (y.fd < x.fd) × (y.pfd < x.fd)
  pub published_edge_falls : x.shown ≡ true → (y.fd < x.pfd) × (y.pfd < x.pfd)
  -- 4: along such an edge y's computation is at a distance below that of x too, unless y awaits x and no reply of x is on its way (a published edge: released or ripe)
  pub control_edge_waits : y.active ≡ true → x.chosen ≡ true → (y.awaits ≡ false) ⊎ (0 < count Reply (pipe x)) → y.rd < x.fd
  pub published_edge_waits : y.active ≡ true → x.shown ≡ true → (y.awaits ≡ false) ⊎ (0 < count Reply x.out) → y.rd < x.pfd

-- the facts hold at both ends of each link that is up
abbrev pub HasFacts : Topology → State → Type 0
HasFacts t s = (e : LinkEnd) → t.valid e ≡ true → s.up e ≡ true → LinkFacts (end_at t s e) (end_at t s (t.far e))
