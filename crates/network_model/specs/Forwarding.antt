-- Where packets go, what walks cost, and when a network is quiet.
use Rattle.std.specs.Prelude.{◌≡◌, ℕ, zero, suc, ◌+◌, ◌≤◌, Bool, true, false, not, ◌&&◌, if◌then◌else◌, List, [], ◌∷◌, Option, Some, None, slice_get, option_and_then, option_map, is_none, length}
use Rattle.std.specs.{List.list_all, Option.option_map_or}
use Rattle.ipv4_prefix.specs.{Prefix.Prefix, Prefix.prefix_eq, LongestMatch.longest_match}
use Rattle.network_model.specs.{declared.route.Entry.Entry, declared.network.Place.Place, declared.trace.Ending.Ending, declared.trace.Trace.Trace as TraceFields, Step.is_up_in, Step.changed_rows, Step.changed_hops}
use Rattle.network_model.specs.declared.trace.Ending.TheVariants.{Delivered, NoRoute, Unreachable, DeadLink, Crossed}
use Rattle.network_model.specs.World.{Link, Router, Attachments, World, other, side, link_at, far_side_at, attachment_at}

-- ---- packets

-- the published row that an address meets at a router
abbrev pub row_for : World → ℕ → ℕ → Option (Prefix × Entry)
row_for w i addr = option_and_then (λ r. longest_match addr (r.table).published) (slice_get w.routers i)

-- whether the link at a port is up in this session
abbrev pub is_live : World → ℕ → ℕ → ℕ → Bool
is_live w i q session = option_map_or (is_up_in session) (link_at w i q) false

-- the router that an entry of router i leads to, over a link that is up in the entry's session; a link that is down, or up in another session, is dead
abbrev pub entry_leads : World → ℕ → Entry → Option ℕ
entry_leads w i Entry.Local = None
entry_leads w i Entry.Unreachable = None
entry_leads w i (Entry.Via q session) = if is_live w i q session then option_map (λ s. s.router) (far_side_at w i q) else None

-- the router that a packet for the address goes to from router i
abbrev pub hop : World → ℕ → ℕ → Option ℕ
hop w addr i = option_and_then (λ r. entry_leads w i r.1) (row_for w i addr)

-- a forwarding edge: a packet for the address, matched by this prefix, goes from one router to the other
abbrev pub IsForwarded : World → ℕ → Prefix → ℕ → ℕ → Type 0
IsForwarded w addr p i k = (entry : Entry) × (row_for w i addr ≡ Some (p, entry)) × (entry_leads w i entry ≡ Some k)

-- a packet's way along forwarding edges, at routers that match its address by one prefix, but perhaps the last
abbrev pub IsPacketWalk : World → ℕ → Prefix → List ℕ → Type 0
IsPacketWalk w addr p [] = Unit {0}
IsPacketWalk w addr p (i ∷ []) = Unit {0}
IsPacketWalk w addr p (i ∷ k ∷ ks) = IsForwarded w addr p i k × IsPacketWalk w addr p (k ∷ ks)

-- ---- traces

-- the routers that a packet passes, and why it ends; none where it was given too few routers
pub record Trace : Type 0 where
  pub path : List ℕ
  pub end : Option Ending

-- a trace as code has it, which has ended
abbrev pub trace_of : TraceFields → Trace
trace_of t = record { path = t.path.items; end = Some t.end }

-- what a trace does at a router: it ends, or goes on to another
pub data Onward : Type 0 where
  Ends : (end : Ending) → Onward
  Goes : (prefix : Prefix) (router : ℕ) → Onward

-- whether a row's prefix is another than that by which the packet was matched at its first router, if it left one
abbrev pub is_crossed : Option Prefix → Prefix → Bool
is_crossed None q = false
is_crossed (Some p) q = not (prefix_eq p q)

-- over the link of a row of this prefix to its far end; no far end means that the link is dead
abbrev pub over_link : Prefix → Option ℕ → Onward
over_link p None = Ends DeadLink
over_link p (Some k) = Goes p k

-- by an entry of router i for this prefix
abbrev pub by_entry : World → ℕ → Prefix → Entry → Onward
by_entry w i p Entry.Local = Ends Delivered
by_entry w i p Entry.Unreachable = Ends Unreachable
by_entry w i p (Entry.Via q session) = over_link p (entry_leads w i (Entry.Via q session))

-- by the row that router i gives, if it gives one
abbrev pub by_row : World → ℕ → Option Prefix → Option (Prefix × Entry) → Onward
by_row w i first None = Ends NoRoute
by_row w i first (Some r) = if is_crossed first r.0 then Ends Crossed else by_entry w i r.0 r.1

-- where a packet goes from router i, once its first router matched it by this prefix, if it left one
abbrev pub onward : World → ℕ → Option Prefix → ℕ → Onward
onward w addr first i = by_row w i first (row_for w i addr)

-- the trace that passes router i: it ends there, or goes on as told
abbrev pub traced_by : (Prefix → ℕ → Trace) → ℕ → Onward → Trace
traced_by rest i (Ends end) = record { path = i ∷ []; end = Some end }
traced_by rest i (Goes p k) = record { path = i ∷ (rest p k).path; end = (rest p k).end }

-- the trace of a packet from router i through at most n routers
abbrev pub trace_from : ℕ → World → ℕ → Option Prefix → ℕ → Trace
trace_from zero w addr first i = record { path = []; end = None }
trace_from (suc n) w addr first i = traced_by (λ p k. trace_from n w addr (Some p) k) i (onward w addr first i)

-- the trace of a packet for an address from router i
abbrev pub trace : World → ℕ → ℕ → Trace
trace w i addr = trace_from (length w.routers) w addr None i

-- ---- walks over links

-- links that are up, each begun at the router where the one before ended, lead from one router to the other
abbrev pub IsWalk : World → ℕ → List Place → ℕ → Type 0
IsWalk w i [] k = i ≡ k
IsWalk w i (p ∷ ps) k = (l : Link) × (slice_get w.links p.link ≡ Some l) × (l.up ≡ true) × ((side p.end l).router ≡ i) × IsWalk w (side (other p.end) l).router ps k

-- the costs from the ends that a walk leaves, added up; the empty walk costs 0
abbrev pub walk_cost : World → List Place → ℕ
walk_cost w [] = 0
walk_cost w (p ∷ ps) = option_map_or (λ l. (side p.end l).cost) (slice_get w.links p.link) 0 + walk_cost w ps

-- a walk from the router to one that is attached to the prefix, which costs so much, the cost of the attachment included
pub record IsWalkHome (w : World) (p : Prefix) (i : ℕ) (ps : List Place) (k cost : ℕ) : Type 0 where
  pub walk : IsWalk w i ps k
  pub attachment : ℕ
  pub attached : attachment_at w k p ≡ Some attachment
  pub cost_is : walk_cost w ps + attachment ≡ cost

-- such a walk than which none to any attached router costs less
pub record IsLeastWalk (w : World) (p : Prefix) (i : ℕ) (ps : List Place) (k cost : ℕ) : Type 0 where
  pub walk : IsWalkHome w p i ps k cost
  pub least : (others : List Place) (o other_cost : ℕ) → IsWalkHome w p i others o other_cost → cost ≤ other_cost

-- ---- quiet

-- whether nothing stands in the list
abbrev pub is_empty : {A : Type 0} → List A → Bool
is_empty [] = true
is_empty (x ∷ xs) = false

-- the offered next hops are those published, no machine is in a computation, nothing is held, and the control rows are those published
abbrev pub is_quiet_router : Router → Bool
is_quiet_router r = is_empty (changed_hops r) && list_all (λ m. is_none (m.1).computation) r.machines && is_empty (r.gate).held && is_empty (changed_rows r.table)

-- nothing is on the link
abbrev pub is_quiet_link : Link → Bool
is_quiet_link l = is_empty (l.a).inbox && is_empty (l.b).inbox

-- no notice of a router's attachments waits to be taken
abbrev pub has_no_notice : Attachments → Bool
has_no_notice a = is_empty a.notices

-- every router and every link is quiet, and no notice waits
abbrev pub is_quiet : World → Bool
is_quiet w = list_all is_quiet_router w.routers && list_all is_quiet_link w.links && list_all has_no_notice w.attachments
