-- The four facts on which the freedom from loops rests, between the two ends of a link that are in one session.
use Rattle.std.specs.Prelude.{◌≡◌, ℕ, Bool, true, ◌&&◌, ◌==◌, if◌then◌else◌, List, [], ◌∷◌, take, is_some}
use Rattle.std.specs.FinMap.{find as row_of}
use Rattle.ipv4_prefix.specs.Prefix.{Prefix, prefix_cmp, prefix_eq}
use Rattle.metric.specs.Distance.{infinity}
use Rattle.network_model.specs.{declared.route.Entry.Entry, Step.session_at, World.Router, World.machine_of}
use Rattle.network_model.specs.View.{LinkEnd, SeenHeld, SeenItem, Reported, msg_of, kept, ripe_of, unripe_of, next_hop_at}
use Rattle.loop_freedom.specs.Facts.{End, end_of, is_current, LinkFacts}
use Rattle.loop_freedom.specs.Network.{Topology}
use Rattle.router_core.specs.Alone.{may_forget, rows_due}
use Rattle.single_router.specs.Openings.{made_router}
use Rattle.daemon_laws.specs.Processes.{Carried, Processes}
use Rattle.daemon_laws.specs.Happenings.{Happening, Publishes, PublishesSome, Forgets, BeginsAnew, after_happening, after_happenings, IsOpening, AllCanHappen}

-- ---- an end of a link

-- the messages of the prefix among those on their way
abbrev pub carried : Prefix → List Carried → List SeenHeld
carried p [] = []
carried p (c ∷ cs) = if prefix_eq p (c.message).prefix then record { session = c.session; message = msg_of c.message } ∷ carried p cs else carried p cs

-- of the messages on their way those of session n, as items to be taken
abbrev pub arriving_in : ℕ → List SeenHeld → List SeenItem
arriving_in n [] = []
arriving_in n (h ∷ hs) = if h.session == n then Reported h.message ∷ arriving_in n hs else arriving_in n hs

-- the end of a router at its port q in session n of the link there, where these messages are on their way to the other end
abbrev pub end_in : Prefix → ℕ → ℕ → Router → ℕ → List Carried → End
end_in p n pfd r q cs = end_of (machine_of r p) q (session_at r.ports q) n (next_hop_at p r) pfd (arriving_in n (carried p cs)) (kept p q (ripe_of r)) (kept p q (unripe_of r))

-- whether the router is in session n of the link at its port q
abbrev pub is_port_in : Prefix → Router → ℕ → ℕ → Bool
is_port_in p r q n = is_current (machine_of r p) q (session_at r.ports q) n

-- the router at an end of a link
abbrev pub router_at : Processes → LinkEnd → Router
router_at w e = w.routers e.router

-- the end e of a link in session n
abbrev pub end_from : Topology → Prefix → ℕ → (ℕ → ℕ) → Processes → LinkEnd → End
end_from t p n pfd w e = end_in p n (pfd e.router) (router_at w e) e.port (w.coming (t.far e))

-- ---- the feasible distances with which routers published last

-- the feasible distance with which a router counts as having published once it puts some rows in force: its present one, where the row of the
-- prefix is among them
abbrev pub fd_then : Prefix → List (Prefix × Entry) → Router → ℕ → ℕ
fd_then p rows r fd = if is_some (row_of prefix_cmp p rows) then (machine_of r p).fd else fd

-- after this: that of a router that publishes is its present one, and so is that of a router that forgets the prefix; that of a router that
-- is made counts as published
abbrev pub fds_next : Prefix → Processes → Happening → (ℕ → ℕ) → ℕ → ℕ
fds_next p w (Publishes i) fds j = if j == i then (machine_of (w.routers i) p).fd else fds j
fds_next p w (PublishesSome i n) fds j = if j == i then fd_then p (take n (rows_due (w.routers i))) (w.routers i) (fds j) else fds j
fds_next p w (Forgets i k) fds j = if (j == i) && prefix_eq p k && may_forget k (w.routers i) then infinity else fds j
fds_next p w (BeginsAnew i costs attachments) fds j = if j == i then (machine_of (made_router costs attachments) p).fd else fds j
fds_next p w _ fds j = fds j

-- after all this
abbrev pub fds_after : Topology → Prefix → Processes → List Happening → (ℕ → ℕ) → ℕ → ℕ
fds_after t p w [] fds = fds
fds_after t p w (h ∷ hs) fds = fds_after t p (after_happening t w h) hs (fds_next p w h fds)

-- the present ones, which count as published where routers begin
abbrev pub first_fds : Prefix → Processes → ℕ → ℕ
first_fds p w i = (machine_of (w.routers i) p).fd

-- ---- the facts

-- the facts hold at both ends of each link, in each session that both are in
abbrev pub HasLinkFacts : Topology → Prefix → (ℕ → ℕ) → Processes → Type 0
HasLinkFacts t p fds w = (e : LinkEnd) (n : ℕ) → t.valid e ≡ true → is_port_in p (router_at w e) e.port n ≡ true → is_port_in p (router_at w (t.far e)) (t.far e).port n ≡ true
    → LinkFacts (end_from t p n fds w e) (end_from t p n fds w (t.far e))

-- at every moment, for every prefix
abbrev pub LinkFactsAlwaysHold : Type 0
LinkFactsAlwaysHold = (t : Topology) (first : Processes) (hs : List Happening) → IsOpening first → AllCanHappen t first hs → (p : Prefix) → HasLinkFacts t p (fds_after t p first hs (first_fds p first)) (after_happenings t first hs)
