-- A packet that is on its way while steps of every kind are done, also at routers that have a ticket out.
use Rattle.std.specs.Prelude.{◌≡◌, ◌≢◌, ◌⊎◌, ℕ, suc, ◌+◌, ◌*◌, ◌<◌, ◌≤◌, Bool, true, false, not, ◌&&◌, ◌||◌, ◌==◌, nat_lt, if◌then◌else◌, List, [], ◌∷◌, ◌++◌, Option, Some, None, IsSome, length, slice_get, ⊤}
use Rattle.std.specs.Option.{option_map_or}
use Rattle.ipv4_prefix.specs.Prefix.{Prefix, covers}
use Rattle.network_model.specs.{declared.route.Entry.Entry, declared.step.Step.Step, declared.step.Step.TheVariants.Deliver, declared.step.Step.TheVariants.Publish, Machine.Machine, Machine.opening_machine, Network.IsNetwork, Step.Lawful, Step.next, Forwarding.hop, View.fd_in}
use Rattle.network_model.specs.World.{World, Network, machine_of, opening}
use Rattle.network_model.specs.Run.{Runs, History, history, with_step}
use Rattle.machine_laws.specs.Laws.{is_active, is_up_at}
use Rattle.no_packet_loops.specs.Packets.{IsForwardedBy, control_entry, published_entry}
use Rattle.coming_to_rest.specs.Worlds.{is_own}
use Rattle.all_packets.specs.Packets.{MayGoOn}
use Rattle.all_packets.specs.Journeys.{is_taking, Event, Goes, Does, routers_met}

-- what holds after every list of lawful steps from the opening of a network
abbrev pub HoldsAfterEveryRun : (History → Type 0) → Type 0
HoldsAfterEveryRun P = (n : Network) (ss : List Step) (w : World) → IsNetwork n → Runs (opening n) ss w → P (history n ss)

-- ---- feasible distances

-- the feasible distance of router i for the prefix
abbrev pub fd_chosen : History → Prefix → ℕ → ℕ
fd_chosen h p i = fd_in (h.world).routers p i

-- and as it was when the router published last
abbrev pub fd_published : History → Prefix → ℕ → ℕ
fd_published h p i = fd_in h.published p i

-- whether a step raises the one or the other
abbrev pub rises : (History → Prefix → ℕ → ℕ) → History → Step → Prefix → ℕ → Bool
rises fd h s p i = nat_lt (fd h p i) (fd (with_step h s) p i)

-- the machine of router i for the prefix
abbrev pub machine_in : World → Prefix → ℕ → Machine
machine_in w p i = option_map_or (λ r. machine_of r p) (slice_get w.routers i) (opening_machine None [])

-- where the feasible distances of a router rise
pub record RisesComeFrom (h : History) : Type 0 where
  -- the present one where it takes something; and if a port is up then, its machine was in a computation, and it rises to the distance of that at most
  pub taken : (s : Step) (p : Prefix) (i : ℕ) → Lawful h.world s → rises fd_chosen h s p i ≡ true → (q : ℕ) × (s ≡ Deliver i q)
  pub completed : (s : Step) (p : Prefix) (i q : ℕ) → Lawful h.world s → rises fd_chosen h s p i ≡ true → is_up_at (machine_in (next h.world s) p i) q ≡ true
      → (is_active (machine_in h.world p i) ≡ true) × (fd_chosen (with_step h s) p i ≤ (machine_in h.world p i).rd)
  -- the published one where it publishes
  pub published : (s : Step) (p : Prefix) (i : ℕ) → Lawful h.world s → rises fd_published h s p i ≡ true → s ≡ Publish i

-- ---- a packet that moves

-- a router forwards by the rows that it published last, or, where a ticket of it is out, perhaps by those that it has chosen, which are published next. This is
-- the feasible distance that goes with the ones (false) or the others (true)
abbrev pub fd_shown : Bool → History → Prefix → ℕ → ℕ
fd_shown c h p i = if c then fd_chosen h p i else fd_published h p i

-- and this the entry among them
abbrev pub entry_shown : Bool → History → ℕ → Prefix → Option Entry
entry_shown c h i p = if c then control_entry h.world i p else published_entry h.world i p

-- a packet for the address, matched by this prefix among them, goes from router i to router k
abbrev pub IsSent : Bool → History → ℕ → Prefix → ℕ → ℕ → Type 0
IsSent c h addr p i k = IsForwardedBy (λ j. c) h.world addr p i k

-- whether router i takes something in a step
abbrev pub takes : ℕ → Step → Bool
takes i (Deliver j q) = i == j
takes i _ = false

-- whether it publishes
abbrev pub publishes : ℕ → Step → Bool
publishes i (Publish j) = i == j
publishes i _ = false

-- in these events it takes nothing before it publishes: so it is from a ticket until that is given back
abbrev pub publishes_first : ℕ → List Event → Bool
publishes_first i [] = true
publishes_first i (Goes k ∷ es) = publishes_first i es
publishes_first i (Does s ∷ es) = publishes i s || (not (takes i s) && publishes_first i es)

-- only then may a packet meet what it has chosen
abbrev pub MayShow : Bool → ℕ → List Event → Type 0
MayShow c i es = c ≡ true → publishes_first i es ≡ true

-- where a packet is after these events, which began at router i
abbrev pub router_at_end : ℕ → List Event → ℕ
router_at_end i [] = i
router_at_end i (Goes k ∷ es) = router_at_end k es
router_at_end i (Does s ∷ es) = router_at_end i es

-- what was done once these events have happened
abbrev pub history_after : History → List Event → History
history_after h [] = h
history_after h (Goes k ∷ es) = history_after h es
history_after h (Does s ∷ es) = history_after (with_step h s) es

-- a packet is at router k, where it came by a row of prefix p whose feasible distance was f. It goes on along the rows that it meets at each moment, while
-- lawful steps of every kind are done. It stays near: whenever it leaves a router, the feasible distance that goes with the rows that it meets there, for the
-- prefix by which it came, is near that of the row by which it came, which is to say not above it, or below it; and so is the published one at the end
abbrev pub StaysNear : (ℕ → ℕ → Type 0) → History → ℕ → Prefix → ℕ → ℕ → List Event → Type 0
StaysNear near h addr p f k [] = near (fd_published h p k) f
StaysNear near h addr p f k (Goes l ∷ es) = (c : Bool) × near (fd_shown c h p k) f × MayShow c k es × (q : Prefix) × IsSent c h addr q k l × StaysNear near h addr q (fd_shown c h q k) l es
StaysNear near h addr p f k (Does s ∷ es) = Lawful h.world s × StaysNear near (with_step h s) addr p f k es

-- the same of a packet that is where no rise of a feasible distance for the prefix by which it came is both begun and published, or met by the packet, while it
-- is there: risen says whether one has begun
abbrev pub IsCalm : History → ℕ → Prefix → Bool → ℕ → List Event → Type 0
IsCalm h addr p risen k [] = ⊤
IsCalm h addr p risen k (Goes l ∷ es) = (c : Bool) × ((risen && nat_lt (fd_published h p k) (fd_shown c h p k)) ≡ false) × MayShow c k es × (q : Prefix) × IsSent c h addr q k l × IsCalm h addr q false l es
IsCalm h addr p risen k (Does s ∷ es) = Lawful h.world s × ((risen && rises fd_published h s p k) ≡ false) × IsCalm (with_step h s) addr p (risen || rises fd_chosen h s p k) k es

-- such a packet stays near, even below
abbrev pub CalmStaysNear : History → Type 0
CalmStaysNear h = (addr i k : ℕ) (p : Prefix) (c : Bool) (es : List Event) → IsSent c h addr p i k → IsCalm h addr p false k es → StaysNear (λ x f. x < f) h addr p (fd_shown c h p i) k es

-- ---- a packet that comes back

-- since a packet left a router by a row of prefix p, the router has a better way for it: the same prefix at a lower feasible distance, or a row of another
-- prefix, no shorter, of which it had none. These are the feasible distances for p that went with the rows which the packet met, and go with those that it
-- meets, and the entries among them, then and now
abbrev pub IsBetter : ℕ → Prefix → (fd_then fd_now : ℕ) → (then_shown now_shown : Prefix → Option Entry) → Type 0
IsBetter addr p fd_then fd_now then_shown now_shown = (fd_now < fd_then)
    ⊎ ((q : Prefix) × (covers q addr ≡ true) × (q ≢ p) × (p.len ≤ q.len) × (then_shown q ≡ None) × IsSome (now_shown q))

-- router i has, from one moment to the other, in the rows of the one kind and of the other
abbrev pub HasBetter : Bool → Bool → ℕ → ℕ → Prefix → History → History → Type 0
HasBetter c d addr i p h h' = IsBetter addr p (fd_shown c h p i) (fd_shown d h' p i) (entry_shown c h i) (entry_shown d h' i)

-- a packet that left a router is never far, and comes back to it after these events
abbrev pub ComesBack : Bool → History → ℕ → ℕ → ℕ → Prefix → List Event → Type 0
ComesBack c h addr i k p es = IsSent c h addr p i k × StaysNear (λ x f. x ≤ f) h addr p (fd_shown c h p i) k (es ++ Goes i ∷ [])

-- then that has a better way since, in those that it has published and in those that it has chosen
abbrev pub ComesBackForBetter : History → Type 0
ComesBackForBetter h = (addr i k : ℕ) (p : Prefix) (c d : Bool) (es : List Event) → ComesBack c h addr i k p es → HasBetter c d addr i p h (history_after h es)

-- how often a packet comes to router i
abbrev pub visits : ℕ → List Event → ℕ
visits i [] = 0
visits i (Goes k ∷ es) = if i == k then suc (visits i es) else visits i es
visits i (Does s ∷ es) = visits i es

-- how often that publishes meanwhile
abbrev pub publications : ℕ → List Event → ℕ
publications i [] = 0
publications i (Goes k ∷ es) = publications i es
publications i (Does s ∷ es) = if publishes i s then suc (publications i es) else publications i es

-- so that has published since
abbrev pub ComesBackOncePublished : History → Type 0
ComesBackOncePublished h = (addr i k : ℕ) (p : Prefix) (c : Bool) (es : List Event) → MayShow c i (es ++ Goes i ∷ []) → ComesBack c h addr i k p es → 0 < publications i es

-- a packet that stays near comes back to a router at most as often as that publishes meanwhile
abbrev pub ComesBackSeldom : History → Type 0
ComesBackSeldom h = (addr i k : ℕ) (p : Prefix) (c : Bool) (es : List Event) → MayShow c i es → IsSent c h addr p i k → StaysNear (λ x f. x ≤ f) h addr p (fd_shown c h p i) k es
    → visits i es ≤ publications i es

-- ---- how far it goes

-- each hop is by a row of prefix p, and from where the feasible distance is below that of the row by which the packet came; so it is at the end
abbrev pub GoesNearer : History → ℕ → Prefix → ℕ → ℕ → List Event → Type 0
GoesNearer h addr p f k [] = fd_published h p k < f
GoesNearer h addr p f k (Goes l ∷ es) = (c : Bool) × (fd_shown c h p k < f) × IsSent c h addr p k l × GoesNearer h addr p (fd_shown c h p k) l es
GoesNearer h addr p f k (Does s ∷ es) = GoesNearer (with_step h s) addr p f k es

-- then each hop brings it nearer, by the feasible distances
abbrev pub HopsComeNearer : History → Type 0
HopsComeNearer h = (addr i k : ℕ) (p : Prefix) (c : Bool) (es : List Event) → IsSent c h addr p i k → GoesNearer h addr p (fd_shown c h p i) k es
    → length (i ∷ routers_met es) + fd_published (history_after h es) p (router_at_end k es) ≤ fd_shown c h p i

-- a packet goes on along the rows that it meets at each moment, while lawful steps of every kind are done
abbrev pub IsMoving : World → ℕ → ℕ → List Event → Type 0
IsMoving w addr i [] = ⊤
IsMoving w addr i (Goes k ∷ es) = MayGoOn w addr i k × IsMoving w addr k es
IsMoving w addr i (Does s ∷ es) = Lawful w s × IsMoving (next w s) addr i es

-- how often a router takes something meanwhile
abbrev pub takings : List Event → ℕ
takings [] = 0
takings (Goes k ∷ es) = takings es
takings (Does s ∷ es) = if is_taking s then suc (takings es) else takings es

-- a packet makes fewer hops than there are routers, for each taking, and once more
abbrev pub HopsAreFew : World → Type 0
HopsAreFew w = (addr i : ℕ) (es : List Event) → i < length w.routers → IsMoving w addr i es → length (routers_met es) < suc (takings es) * length w.routers

-- no step is done but the network's own
abbrev pub OwnAlone : List Event → Type 0
OwnAlone [] = ⊤
OwnAlone (Goes k ∷ es) = OwnAlone es
OwnAlone (Does s ∷ es) = (is_own s ≡ true) × OwnAlone es

-- in a network that is left alone some number is exceeded by the hops of no packet, whatever is done in whatever order
abbrev pub HopsEnd : World → Type 0
HopsEnd w = (most : ℕ) × ((addr i : ℕ) (es : List Event) → i < length w.routers → IsMoving w addr i es → OwnAlone es → length (routers_met es) ≤ most)

-- ---- that there is something to say

-- some packet stays near, and comes back to a router that has published a better way, by a row that the router before it has yet to publish
abbrev pub SomeComesBackForBetter : Type 0
SomeComesBackForBetter = (n : Network) × (ss : List Step) × (w : World) × (addr : ℕ) × (i : ℕ) × (k : ℕ) × (p : Prefix) × (es : List Event) × IsNetwork n × Runs (opening n) ss w
    × ComesBack false (history n ss) addr i k p es × (hop (history_after (history n ss) es).world addr (router_at_end k es) ≢ Some i)

-- some packet does not stay near, and comes back to a router that has no better way
abbrev pub SomeComesBackAfterRise : Type 0
SomeComesBackAfterRise = (n : Network) × (ss : List Step) × (w : World) × (addr : ℕ) × (i : ℕ) × (k : ℕ) × (p : Prefix) × (es : List Event) × IsNetwork n × Runs (opening n) ss w
    × IsSent false (history n ss) addr p i k × IsMoving w addr k (es ++ Goes i ∷ []) × (HasBetter false false addr i p (history n ss) (history_after (history n ss) es) → ⊥)
