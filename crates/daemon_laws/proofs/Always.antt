-- What holds at every moment, whatever has happened.
use Rattle.std.proofs.Common.{List, [], ◌∷◌, inl, ℕ}
use Rattle.no_packet_loops.proofs.Common.{Prefix, Topology, link_facts}
use Rattle.daemon_laws.specs.{Processes.Processes, Moments.fds_reached, Moments.LinkFactsHoldThere, Rest.RestIsAlwaysBest}
use Rattle.daemon_laws.specs.Packets.{NoPacketCirclesAtDaemons, NoPacketLoopsAtDaemons, NoMixtureLoopsAtDaemons, NoUnmarkedCircles, NoUnmarkedLoops, NoUnmarkedMixtureLoops, NoUnmarkedWrittenCircles, NoWrittenCircles}
use Rattle.daemon_laws.proofs.{Shown.AllShown, Shown.next_shown, Shown.begins_shown, Beginning.begins_kept, Invariant.Placed, Invariant.Invariant, Invariant.links_far, Order.after_keeps, Order.next_orderly, Order.begins_orderly, Steps.next_keeps, Placed.placed_next, Rewiring.rewired_keeps, Rewiring.rewired_orderly, Rewiring.rewired_placed, Orderly.Orderly, Taken.taken_there, Resting.best}
use Rattle.daemon_laws.proofs.Ways.{marked_free, unmarked_free, marked_written, unmarked_written}
use Rattle.daemon_laws.specs.Happenings.{Happening, IsOpening, AllCanHappen, after_happenings, AfterIsReached, after_happening, AreReached, Begun, Happened, Rewired, MayRewire, rewired, CanHappen, HoldsAlways, NoneRefused}
use Rattle.daemon_laws.specs.Facts.{fds_next, fds_after, first_fds, end_from, LinkFactsAlwaysHold}
use Rattle.daemon_laws.proofs.Walks.{published_free, mixture_free, unmarked_published_free, unmarked_mixture_free}

-- the feasible distances with which the routers have published last, after all this
abbrev fds : Topology → Processes → List Happening → Prefix → ℕ → ℕ
fds t first hs p = fds_after t p first hs (first_fds p first)

-- what is kept at every moment, for one prefix, and the feasible distances with which the routers have published last
pub record Keeps (t : Topology) (p : Prefix) (fds : ℕ → ℕ) (w : Processes) : Type 0 where
  pub invariant : Invariant t p fds w
  pub orderly : Orderly t p w
  pub placed : Placed t w

pub keeps_next : (t : Topology) (p : Prefix) (fds : ℕ → ℕ) (w : Processes) (h : Happening) → Keeps t p fds w → CanHappen w h → Keeps t p (fds_next p w h fds) (after_happening t w h)
keeps_next t p fds w h K can = record {
  invariant = next_keeps t p fds w K.invariant K.orderly K.placed h can;
  orderly = next_orderly t p fds w K.invariant K.orderly h can;
  placed = placed_next t w K.placed h;
}

-- and where ports get other neighbours
pub keeps_rewired : (t t' : Topology) (p : Prefix) (fds : ℕ → ℕ) (w : Processes) → Keeps t p fds w → MayRewire t t' w → Keeps t' p fds (rewired t t' w)
keeps_rewired t t' p fds w K R = record {
  invariant = rewired_keeps t t' p fds w K.invariant K.orderly R;
  orderly = rewired_orderly t t' p fds w K.invariant K.orderly R;
  placed = rewired_placed t t' w;
}

-- these distances fit the published rows besides
pub record Always (t : Topology) (p : Prefix) (fds : ℕ → ℕ) (w : Processes) : Type 0 where
  pub kept : Keeps t p fds w
  pub shown : AllShown p w.routers fds

pub always_next : (t : Topology) (p : Prefix) (fds : ℕ → ℕ) (w : Processes) (h : Happening) → Always t p fds w → CanHappen w h → Always t p (fds_next p w h fds) (after_happening t w h)
always_next t p fds w h A can = record { kept = keeps_next t p fds w h A.kept can; shown = next_shown p t w h fds can A.kept.invariant A.shown }

pub always_rewired : (t t' : Topology) (p : Prefix) (fds : ℕ → ℕ) (w : Processes) → Always t p fds w → MayRewire t t' w → Always t' p fds (rewired t t' w)
always_rewired t t' p fds w A R = record { kept = keeps_rewired t t' p fds w A.kept R; shown = A.shown }

-- so it is, whatever has happened, and whichever neighbours ports have got
pub always : (p : Prefix) (t : Topology) (w : Processes) (M : AreReached t w) → Always t p (fds_reached t w M p) w
always p _ _ (Begun t w B) = record { kept = record { invariant = begins_kept t p w B; orderly = begins_orderly t p w B; placed = λ e out. B.nothing_comes e }; shown = begins_shown p w B }
always p _ _ (Happened t w h M can) = always_next t p (fds_reached t w M p) w h (always p t w M) can
always p _ _ (Rewired t t' w M R) = always_rewired t t' p (fds_reached t w M p) w (always p t w M) R

-- all that may happen comes to such a moment
pub after_is_reached : AfterIsReached
after_is_reached t first hs B can = from t first hs (Begun t first B) can
  where
    from : (t : Topology) (w : Processes) (hs : List Happening) → AreReached t w → AllCanHappen t w hs → AreReached t (after_happenings t w hs)
    from t w [] M can = M
    from t w (h ∷ hs) M can = from t (after_happening t w h) hs (Happened t w h M can.0) can.1

-- the invariant holds
kept_always : (t : Topology) (first : Processes) (hs : List Happening) → IsOpening first → AllCanHappen t first hs → (p : Prefix) → Invariant t p (fds t first hs p) (after_happenings t first hs)
kept_always t first hs B can p = after_keeps t p (first_fds p first) first hs (begins_kept t p first B) (begins_orderly t p first B) (λ e out. B.nothing_comes e) can

-- no packet meets a router twice
pub always_packets_free : HoldsAlways NoPacketLoopsAtDaemons
always_packets_free t w M addr p walk h = let A = always p t w M in published_free t p (fds_reached t w M p) w A.kept.invariant addr walk h

-- nor in a mixture
pub always_mixtures_free : HoldsAlways NoMixtureLoopsAtDaemons
always_mixtures_free t w M by_control addr p walk h = let A = always p t w M in mixture_free t p (fds_reached t w M p) w A.kept.invariant by_control addr walk h

-- where packets carry no session, none meets a router twice
pub always_unmarked_free : HoldsAlways NoUnmarkedLoops
always_unmarked_free t w M addr p walk h = let A = always p t w M in unmarked_published_free t p (fds_reached t w M p) w A.kept.invariant A.kept.orderly addr walk h

-- nor in a mixture
pub always_unmarked_mixtures_free : HoldsAlways NoUnmarkedMixtureLoops
always_unmarked_mixtures_free t w M by_control addr p walk h = let A = always p t w M in unmarked_mixture_free t p (fds_reached t w M p) w A.kept.invariant A.kept.orderly by_control addr walk h

-- the four facts hold
pub always_facts : LinkFactsAlwaysHold
always_facts t first hs B can p e n v one two =
    let I = kept_always t first hs B can p in
    let w = after_happenings t first hs in
    link_facts (end_from t p n (fds t first hs p) w e) (end_from t p n (fds t first hs p) w (t.far e)) (I.links e v n (inl one) (inl two)) (links_far I e v n (inl one) (inl two))

-- also where ports have got other neighbours
pub facts_there : LinkFactsHoldThere
facts_there t w M p e n v one two =
    let I = (always p t w M).kept.invariant in
    let here = fds_reached t w M p in
    link_facts (end_from t p n here w e) (end_from t p n here w (t.far e)) (I.links e v n (inl one) (inl two)) (links_far I e v n (inl one) (inl two))

-- where all is at rest each router has its best row
pub rest_is_always_best : RestIsAlwaysBest
rest_is_always_best t w M n few R p i l = let A = always p t w M in best t p (fds_reached t w M p) w A.kept.invariant n few R i l

-- no packet circles, whichever prefixes match it
pub always_no_circles : HoldsAlways NoPacketCirclesAtDaemons
always_no_circles t w M = marked_free t w (fds_reached t w M) (λ p. (always p t w M).kept.invariant) (λ p. (always p t w M).shown)

-- nor where packets carry no session
pub always_no_unmarked_circles : HoldsAlways NoUnmarkedCircles
always_no_unmarked_circles t w M = unmarked_free t w (fds_reached t w M) (λ p. (always p t w M).kept.invariant) (λ p. (always p t w M).shown) (λ p. (always p t w M).kept.orderly)

-- nor while rows are written
pub always_no_written_circles : HoldsAlways NoWrittenCircles
always_no_written_circles t w M = marked_written t w (fds_reached t w M) (λ p. (always p t w M).kept.invariant) (λ p. (always p t w M).shown)

pub always_no_unmarked_written_circles : HoldsAlways NoUnmarkedWrittenCircles
always_no_unmarked_written_circles t w M = unmarked_written t w (fds_reached t w M) (λ p. (always p t w M).kept.invariant) (λ p. (always p t w M).shown) (λ p. (always p t w M).kept.orderly)

-- no router refuses a message of the session that it is in
pub always_none_refused : HoldsAlways NoneRefused
always_none_refused t w M e c v at on = let A = always (c.message).prefix t w M in taken_there t w e v c at (fds_reached t w M (c.message).prefix) A.kept.invariant on
