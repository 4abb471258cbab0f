-- When the items on links arrive.
use Rattle.std.specs.Prelude.{ℕ, ◌+◌, ◌-◌, ◌^◌, ◌<◌, ◌≡◌, ⊤, true, false, Bool, min, if◌then◌else◌, List, [], ◌∷◌, ◌++◌, filter, drop, Option, Some, None, slice_get, option_map, option_and_then}
use Rattle.std.specs.VecDeque.{deque_len, deque_capacity}
use Rattle.network_model.specs.{declared.step.Step.Step, declared.network.End.End, declared.network.End.TheVariants.A, declared.network.End.TheVariants.B, Machine.changed_at, World.World, World.other, World.place_at, Step.release_at}
use Rattle.network_model.specs.declared.step.Step.TheVariants.{LinkUp, LinkDown, SetCost, Deliver, Release}
use Rattle.world.specs.Steps.{is_stale}
use Rattle.timed_simulation.specs.{declared.links.Arrival.Arrival, declared.links.Line.Line, declared.links.LinkDelays.LinkDelays, declared.links.LinkTimes.LinkTimes, declared.links.Motion.Motion}
use Rattle.timed_simulation.specs.declared.links.Motion.TheVariants.{Told, Cut, Put, Taken}

-- the last moment that the clock can show, at which nothing is done any more
abbrev pub last_moment : ℕ
last_moment = 2 ^ 64 - 1

-- the moment so much later; what would be past the last moment counts as that
abbrev pub later : ℕ → ℕ → ℕ
later moment delay = min (moment + delay) (2 ^ 64 - 1)

-- one direction of a link: how long an item is on its way, and when each item arrives that is to be taken there, oldest first
pub record Direction : Type 0 where
  pub delay : ℕ
  pub arrivals : List Arrival

-- a link: what is on its way towards each end
pub record TimedLink : Type 0 where
  pub to_a : Direction
  pub to_b : Direction

-- a direction of a link, as its contract speaks of it
abbrev pub direction_of : {A : Type 0} → Line A → Direction
direction_of d = record { delay = d.delay; arrivals = d.arrivals.items }

-- both directions of a link, likewise
abbrev pub link_of : {A : Type 0} → LinkTimes A → TimedLink
link_of k = record { to_a = direction_of k.to_a; to_b = direction_of k.to_b }

-- nothing is on its way
abbrev pub opening_direction : ℕ → Direction
opening_direction delay = record { delay = delay; arrivals = [] }

-- a link on which nothing is yet, in both directions
abbrev pub opening_directions : LinkDelays → TimedLink
opening_directions d = record { to_a = opening_direction d.to_a; to_b = opening_direction d.to_b }

-- towards this end
abbrev pub towards : End → TimedLink → Direction
towards A k = k.to_a
towards B k = k.to_b

-- with one direction changed
abbrev pub changed_towards : End → (Direction → Direction) → TimedLink → TimedLink
changed_towards A f k = record k { to_a = f k.to_a }
changed_towards B f k = record k { to_b = f k.to_b }

-- ---- what happens to items

-- an item is put at this moment, behind the others: it arrives so much later as the direction's delay says
abbrev pub with_put : ℕ → Bool → Direction → Direction
with_put now notice d = record d { arrivals = d.arrivals ++ record { moment = later now d.delay; notice = notice } ∷ [] }

-- the front item is taken
abbrev pub with_taken : Direction → Direction
with_taken d = record d { arrivals = drop 1 d.arrivals }

-- the messages are lost, the notices stay
abbrev pub without_messages : Direction → Direction
without_messages d = record d { arrivals = filter (λ x. x.notice) d.arrivals }

-- a link to whose items this happens at this moment
abbrev pub link_moved : ℕ → Motion → TimedLink → TimedLink
link_moved now Told k = record { to_a = with_put now true k.to_a; to_b = with_put now true k.to_b }
link_moved now Cut k = record { to_a = with_put now true (without_messages k.to_a); to_b = with_put now true (without_messages k.to_b) }
link_moved now (Put to notice) k = changed_towards to (with_put now notice) k
link_moved now (Taken at) k = changed_towards at with_taken k

-- the same of the link of a number; nothing happens where there is none
abbrev pub links_after : ℕ → Option (ℕ × Motion) → List TimedLink → List TimedLink
links_after now None ks = ks
links_after now (Some m) ks = changed_at m.0 (link_moved now m.1) ks

-- which link's items a step moves, and how: both ends are told that the link comes up, or goes down; an end is told of a cost, or is sent a message, unless that is stale; an item is taken. A notice of an attachment is on no link
abbrev pub motion_of : World → Step → Option (ℕ × Motion)
motion_of w (LinkUp l) = Some (l, Told)
motion_of w (LinkDown l) = Some (l, Cut)
motion_of w (SetCost i q cost) = option_map (λ p. (p.link, Put p.end true)) (place_at w i q)
motion_of w (Deliver i q) = option_map (λ p. (p.link, Taken p.end)) (place_at w i q)
motion_of w (Release i) = option_and_then (λ h. if is_stale w i h then None else option_map (λ p. (p.link, Put (other p.end) false)) (place_at w i h.port)) (release_at w i)
motion_of w _ = None

-- ---- room

-- there is memory for one more item towards each end
pub record HasLinkRoom {A : Type 0} (k : LinkTimes A) : Type 0 where
  pub to_a : deque_len k.to_a.arrivals < deque_capacity k.to_a.arrivals
  pub to_b : deque_len k.to_b.arrivals < deque_capacity k.to_b.arrivals

-- so on the link whose items are moved
abbrev pub HasLinkRoomFor : {A : Type 0} → List (LinkTimes A) → Option (ℕ × Motion) → Type 0
HasLinkRoomFor ks None = ⊤
HasLinkRoomFor {A} ks (Some m) = (k : LinkTimes A) → slice_get ks m.0 ≡ Some k → HasLinkRoom k
