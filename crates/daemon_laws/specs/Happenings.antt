-- What happens to routers in processes of their own: each end of a link begins and ends its sessions by itself.
use Rattle.std.specs.Prelude.{◌≡◌, ℕ, ◌<◌, min, max, Bool, true, false, not, ◌&&◌, ◌||◌, ◌==◌, nat_lt, nat_le, if◌then◌else◌, List, [], ◌∷◌, ◌++◌, drop, Option, Some, None, is_none, slice_get, ⊤}
use Rattle.std.specs.Option.{option_map_or}
use Rattle.metric.specs.Distance.{IsCost}
use Rattle.ipv4_prefix.specs.Prefix.{Prefix}
use Rattle.network_model.specs.{declared.item.Held.Held, World.Router, World.with_offer, View.LinkEnd, View.at_port, declared.network.Offer.Offer}
use Rattle.network_model.specs.Step.{router_publishing, router_releasing, ripe_front, session_at}
use Rattle.loop_freedom.specs.Network.{Topology}
use Rattle.router_core.specs.Alone.{router_publishing_some, may_forget, router_forgetting}
use Rattle.single_router.specs.{declared.input.Input.Input, declared.opening.Attachment.Attachment, Inputs.told_fault, Inputs.router_after, Openings.make_fault, Openings.made_router}
use Rattle.single_router.specs.declared.input.Input.TheVariants.{Up, Down, Cost, Message, Attached, Detached}
use Rattle.c_interface.specs.declared.fault.CallFault.{CallFault}
use Rattle.daemon_laws.specs.{Processes.Carried, Processes.Processes, Packets.is_in_session}

-- ---- what may happen

-- what may happen at any moment, in any order: each call of a router is one of these, unless memory is refused
pub data Happening : Type 0 where
  -- the process of router i tells it of its own: that a link of it came up, went down or has another cost, or of an attachment (`tell`)
  Tells : (i : ℕ) (input : Input) → Happening
  -- the process at an end of a link takes the oldest message that is on its way there (`tell`)
  Takes : (e : LinkEnd) → Happening
  -- the oldest message that is on its way to an end of a link is lost; so is one that the limit of prefixes refuses
  Loses : (e : LinkEnd) → Happening
  -- router i publishes (`publish`)
  Publishes : (i : ℕ) → Happening
  -- router i puts the first n of its rows that are due in force, and no more (`publish`, without room for all)
  PublishesSome : (i n : ℕ) → Happening
  -- router i forgets a prefix, where it may (`forget`)
  Forgets : (i : ℕ) (p : Prefix) → Happening
  -- router i releases a message (`release`)
  Releases : (i : ℕ) → Happening
  -- router i offers these next hops from now on. Those that it published are dropped, until it publishes again
  Offers : (i : ℕ) (offer : Offer) → Happening
  -- the process of router i ends, and one begins in its place, with a router that is made of these costs and attachments (`new`)
  BeginsAnew : (i : ℕ) (costs : List ℕ) (attachments : List Attachment) → Happening

-- an input that the process of router i finds by itself: a link comes up in a session later than each that its end was in and of
-- which something is left, and a cost is a cost; messages come from others
abbrev pub IsLocalInput : Processes → ℕ → Input → Type 0
IsLocalInput w i (Up port session cost) = (w.last (at_port i port) < session) × IsCost cost
IsLocalInput w i (Down port) = ⊤
IsLocalInput w i (Cost port cost) = IsCost cost
IsLocalInput w i (Message port session m) = ⊥
IsLocalInput w i (Attached p cost) = IsCost cost
IsLocalInput w i (Detached p) = ⊤

-- what a process tells is its own, and a router that it makes has no fault; all else may happen
abbrev pub CanHappen : Processes → Happening → Type 0
CanHappen w (Tells i input) = IsLocalInput w i input
CanHappen w (Takes e) = ⊤
CanHappen w (Loses e) = ⊤
CanHappen w (Publishes i) = ⊤
CanHappen w (PublishesSome i n) = ⊤
CanHappen w (Forgets i p) = ⊤
CanHappen w (Releases i) = ⊤
CanHappen w (Offers i offer) = ⊤
CanHappen w (BeginsAnew i costs attachments) = make_fault costs attachments ≡ None

-- ---- what comes of it

-- one router changed
abbrev pub with_process : ℕ → (Router → Router) → (ℕ → Router) → ℕ → Router
with_process i f routers j = if j == i then f (routers j) else routers j

-- whether two link ends are one
abbrev pub is_same_end : LinkEnd → LinkEnd → Bool
is_same_end e f = (e.router == f.router) && (e.port == f.port)

-- what is on its way to one end changed
abbrev pub with_coming : LinkEnd → (List Carried → List Carried) → (LinkEnd → List Carried) → LinkEnd → List Carried
with_coming e f coming d = if is_same_end d e then f (coming d) else coming d

-- a router that is told an input, which it takes or refuses: a session that is not later than its port's last, a message of another session
abbrev pub told_router : Input → Router → Router
told_router input r = if is_none (told_fault input r) then router_after input r else r

-- a router that forgets the prefix, where it may
abbrev pub forgotten : Prefix → Router → Router
forgotten p r = if may_forget p r then router_forgetting p r else r

-- the last session of each end, once the ports are these
abbrev pub with_last : (ℕ → Router) → (LinkEnd → ℕ) → LinkEnd → ℕ
with_last routers last e = max (last e) (session_at (routers e.router).ports e.port)

-- the session of the message that each end took last, once one of this session came to this end; for a fault it is refused
abbrev pub with_heard : LinkEnd → Option CallFault → ℕ → (LinkEnd → ℕ) → LinkEnd → ℕ
with_heard e fault session heard d = if is_same_end d e && is_none fault then session else heard d

-- whether the first of these messages is of this session
abbrev pub is_first_of : ℕ → List Carried → Bool
is_first_of session [] = false
is_first_of session (c ∷ cs) = c.session == session

-- of which sessions something was lost at each end, once the oldest message that is on its way to this end is lost
abbrev pub with_lost : LinkEnd → (LinkEnd → List Carried) → (LinkEnd → ℕ → Bool) → LinkEnd → ℕ → Bool
with_lost e coming lost d session = lost d session || (is_same_end d e && is_first_of session (coming d))

-- the process at this end took the message. One of a session that the end has not been in yet waits
abbrev pub having_taken : LinkEnd → Processes → Carried → Processes
having_taken e w c =
    if nat_lt (w.last e) c.session
    then w
    else record {
      routers = with_process e.router (told_router (Message e.port c.session c.message)) w.routers;
      coming = with_coming e (drop 1) w.coming;
      last = w.last;
      heard = with_heard e (told_fault (Message e.port c.session c.message) (w.routers e.router)) c.session w.heard;
      lost = w.lost;
    }

-- this message, sent from this end, is on its way to the other, where the port is in the message's session; else it is dropped
abbrev pub sent_from : Topology → Processes → LinkEnd → Held → LinkEnd → List Carried
sent_from t w e h =
    if t.valid e && is_in_session w e h.session
    then with_coming (t.far e) (λ cs. cs ++ record { session = h.session; message = h.message } ∷ []) w.coming
    else w.coming

-- router i released this message
abbrev pub having_released : Topology → ℕ → Processes → Held → Processes
having_released t i w h = record { routers = with_process i router_releasing w.routers; coming = sent_from t w (at_port i h.port) h; last = w.last; heard = w.heard; lost = w.lost }

-- ---- a process that begins anew

-- the latest session of these messages, 0 for none
abbrev pub latest : List Carried → ℕ
latest [] = 0
latest (c ∷ cs) = max c.session (latest cs)

-- the latest session of a message that is on its way over the link of this end, either way
abbrev pub latest_coming : Topology → Processes → LinkEnd → ℕ
latest_coming t w e = max (latest (w.coming e)) (latest (w.coming (t.far e)))

-- the last session that an end was in since its process began, 0 for none
abbrev pub own_session : Processes → LinkEnd → ℕ
own_session w e = session_at (w.routers e.router).ports e.port

-- what each end has to exceed, once the process of router i begins anew. Of the sessions that an end of it was in those count of which something
-- is left: the process at the other end was in them, or a message of them is on its way. Of those that the other end was in before its own
-- process began only messages are left
abbrev pub last_anew : Topology → ℕ → Processes → LinkEnd → ℕ
last_anew t i w e =
    if e.router == i
    then min (w.last e) (max (own_session w (t.far e)) (latest_coming t w e))
    else (if (t.far e).router == i then max (own_session w e) (min (w.last e) (latest_coming t w e)) else w.last e)

-- the new process has taken nothing
abbrev pub heard_anew : ℕ → (LinkEnd → ℕ) → LinkEnd → ℕ
heard_anew i heard e = if e.router == i then 0 else heard e

-- whether an end may come again into a session that it was in
abbrev pub may_come_again : Topology → ℕ → Processes → LinkEnd → ℕ → Bool
may_come_again t i w e session = nat_lt (last_anew t i w e) session && nat_le session (w.last e)

-- what was lost in a session that one end of the link may come into again does not count for that
abbrev pub lost_anew : Topology → ℕ → Processes → LinkEnd → ℕ → Bool
lost_anew t i w e session = w.lost e session && not (may_come_again t i w e session || may_come_again t i w (t.far e) session)

-- the processes after what happens
abbrev pub after_happening : Topology → Processes → Happening → Processes
after_happening t w (Tells i input) = record {
  routers = with_process i (told_router input) w.routers;
  coming = w.coming;
  last = with_last (with_process i (told_router input) w.routers) w.last;
  heard = w.heard;
  lost = w.lost;
}
after_happening t w (Takes e) = option_map_or (having_taken e w) (slice_get (w.coming e) 0) w
after_happening t w (Loses e) = record { routers = w.routers; coming = with_coming e (drop 1) w.coming; last = w.last; heard = w.heard; lost = with_lost e w.coming w.lost }
after_happening t w (Publishes i) = record { routers = with_process i router_publishing w.routers; coming = w.coming; last = w.last; heard = w.heard; lost = w.lost }
after_happening t w (PublishesSome i n) = record { routers = with_process i (router_publishing_some n) w.routers; coming = w.coming; last = w.last; heard = w.heard; lost = w.lost }
after_happening t w (Forgets i p) = record { routers = with_process i (forgotten p) w.routers; coming = w.coming; last = w.last; heard = w.heard; lost = w.lost }
after_happening t w (Releases i) = option_map_or (having_released t i w) (ripe_front (w.routers i)) w
after_happening t w (Offers i offer) = record { routers = with_process i (with_offer offer) w.routers; coming = w.coming; last = w.last; heard = w.heard; lost = w.lost }
after_happening t w (BeginsAnew i costs attachments) = record { routers = with_process i (λ r. made_router costs attachments) w.routers; coming = w.coming; last = last_anew t i w; heard = heard_anew i w.heard; lost = lost_anew t i w }

-- the processes after all this, one after another
abbrev pub after_happenings : Topology → Processes → List Happening → Processes
after_happenings t w [] = w
after_happenings t w (h ∷ hs) = after_happenings t (after_happening t w h) hs

-- all this may happen, each where it does
abbrev pub AllCanHappen : Topology → Processes → List Happening → Type 0
AllCanHappen t w [] = ⊤
AllCanHappen t w (h ∷ hs) = CanHappen w h × AllCanHappen t (after_happening t w h) hs

-- ---- where it begins

-- a router as it is made, with ports that are down
pub record IsMade (r : Router) : Type 0 where
  pub costs : List ℕ
  pub attachments : List Attachment
  pub good : make_fault costs attachments ≡ None
  pub made : r ≡ made_router costs attachments

-- each router is made, and nothing is on its way
pub record IsOpening (w : Processes) : Type 0 where
  pub routers_made : (i : ℕ) → IsMade (w.routers i)
  pub nothing_comes : (e : LinkEnd) → w.coming e ≡ []
  pub never_up : (e : LinkEnd) → w.last e ≡ 0
  pub never_heard : (e : LinkEnd) → w.heard e ≡ 0
  pub never_lost : (e : LinkEnd) (session : ℕ) → w.lost e session ≡ false

-- ---- ports that get other neighbours

-- whether the link at an end is the same in both topologies
abbrev pub link_stays : Topology → Topology → LinkEnd → Bool
link_stays t t' e = t.valid e && (t'.valid e && is_same_end (t.far e) (t'.far e))

-- whether the link at an end was not there
abbrev pub is_new_link : Topology → Topology → LinkEnd → Bool
is_new_link t t' e = t'.valid e && not (link_stays t t' e)

-- the links may be those of t' from now on: the ends of each that was not there are in no session
abbrev pub MayRewire : Topology → Topology → Processes → Type 0
MayRewire t t' w = (e : LinkEnd) → is_new_link t t' e ≡ true → (session : ℕ) → is_in_session w e session ≡ false

-- the processes then: but at links that stay nothing is on its way, or was taken or lost; and the ends of a link that was not there have to
-- exceed each session that the process at either was in
abbrev pub rewired : Topology → Topology → Processes → Processes
rewired t t' w = record {
  routers = w.routers;
  coming = λ e. if link_stays t t' e then w.coming e else [];
  last = λ e. if is_new_link t t' e then max (own_session w e) (own_session w (t'.far e)) else w.last e;
  heard = λ e. if link_stays t t' e then w.heard e else 0;
  lost = λ e session. link_stays t t' e && w.lost e session;
}

-- ---- every moment

-- these processes may be at some moment, with the links of this topology
pub data AreReached : Topology → Processes → Type 0 where
  Begun : (t : Topology) (w : Processes) → IsOpening w → AreReached t w
  Happened : (t : Topology) (w : Processes) (h : Happening) → AreReached t w → CanHappen w h → AreReached t (after_happening t w h)
  Rewired : (t t' : Topology) (w : Processes) → AreReached t w → MayRewire t t' w → AreReached t' (rewired t t' w)

-- where routers begin, and then all this happens, it comes to such a moment
abbrev pub AfterIsReached : Type 0
AfterIsReached = (t : Topology) (first : Processes) (hs : List Happening) → IsOpening first → AllCanHappen t first hs → AreReached t (after_happenings t first hs)

-- what holds at every moment, whatever has happened since, and whichever neighbours ports have got
abbrev pub HoldsAlways : (Topology → Processes → Type 0) → Type 0
HoldsAlways P = (t : Topology) (w : Processes) → AreReached t w → P t w

-- no router refuses a message of the session that its end of the link is in
abbrev pub NoneRefused : Topology → Processes → Type 0
NoneRefused t w = (e : LinkEnd) (c : Carried) → t.valid e ≡ true → slice_get (w.coming e) 0 ≡ Some c → is_in_session w e c.session ≡ true
    → told_fault (Message e.port c.session c.message) (w.routers e.router) ≡ None
