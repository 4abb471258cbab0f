-- Each event leaves the moments of what is left to do on time.
use Rattle.std.proofs.Common.{refl, sym, ap, subst, ◌∙◌, arith, inl, ◌≡◌, ℕ, ◌<◌, ◌≤◌, Bool, true, false, if◌then◌else◌, List, [], map, drop, length, Option, Some, option_map, option_and_then, slice_get}
use Rattle.no_packet_loops.proofs.Common.{element_there, slice_get-map, length-map, length-map-range_with_len, Prefix, Item, Place, End, A, B, Link, LinkSpec, Network, Side, World, opening, opening_link, opening_router_of, place_at, place_of, side, front_at, IsNetwork, Lawful, Runs, next, Step, Deliver, Publish}
use Rattle.no_packet_loops.proofs.{WorldLaws.Runs-shape, Wiring.IsWired, Wiring.wired, Kept.WorldKept, Kept.Specified, Kept.specified, Runs.reached, Runs.place_is}
use Rattle.no_packet_loops.proofs.Places.{spot, Laid, laid, lay-spot}
use Rattle.timed_simulation.specs.{declared.links.Arrival.Arrival, declared.links.LinkDelays.LinkDelays, declared.events.Change.Change, declared.events.Event.Event, Events.next_event}
use Rattle.timed_simulation.specs.Links.{TimedLink, last_moment, later, links_after, motion_of, towards, opening_directions as opening_times}
use Rattle.timed_simulation.specs.Timed.{Timed, begins_at, opening_router_time as opening_time, routers_after, world_of}
use Rattle.timed_simulation.specs.Due.{AreTimelyLinks, AreTimelyRouters, IsFirst, IsOnTime, IsTimelyLink, RisesFrom}
use Rattle.timed_simulation.proofs.{Rising.rises_later, Rising.rises_tail, Timely.item_of, Timely.later_timely, Timely.mapped_from, Steps.links_next, Steps.routers_next, First.next_first}

-- ---- the opening

pub opened : (n : Network) (delays : List LinkDelays) (waits : List ℕ) → length delays ≡ length n.links → length waits ≡ n.routers → IsOnTime (opening n) 0 (map opening_times delays) (map opening_time waits) []
opened n delays waits each_link each_router = record {
  on_links = record {
    as_many = length-map delays opening_times ∙ each_link ∙ sym (length-map n.links opening_link);
    each = λ l k x at there. by_parts l k x (mapped_from opening_link (slice_get n.links l) k (sym (slice_get-map opening_link n.links l) ∙ at)) (mapped_from opening_times (slice_get delays l) x (sym (slice_get-map opening_times delays l) ∙ there));
  };
  at_routers = record {
    as_many = length-map waits opening_time ∙ each_router ∙ sym (length-map-range_with_len (opening_router_of n) 0 n.routers);
    each = λ i r x at there due. omega arith;
  };
  of_changes = tt;
}
  where
    by_parts : (l : ℕ) (k : Link) (x : TimedLink) → ((s : LinkSpec) × (slice_get n.links l ≡ Some s) × (opening_link s ≡ k)) → ((d : LinkDelays) × (slice_get delays l ≡ Some d) × (opening_times d ≡ x)) → IsTimelyLink 0 k x
    by_parts l k x (s, _, is) (d, _, so) = subst (λ v. IsTimelyLink 0 v x) is (subst (λ v. IsTimelyLink 0 (opening_link s) v) so (record {
      to_a = record { kinds = refl; rises = tt; up_to = tt };
      to_b = record { kinds = refl; rises = tt; up_to = tt };
    }))

-- ---- an event

module _ (t : Timed) (valid : IsNetwork (t.simulation).network) (ss : List Step) (runs : Runs (opening (t.simulation).network) ss (world_of t)) (K : IsOnTime (world_of t) t.clock t.links t.routers t.changes) (e : Event) (is : next_event t ≡ Some e) (from : t.clock ≤ e.moment) where
  abbrev n : Network
  n = (t.simulation).network

  abbrev w : World
  w = world_of t

  N : IsWired n
  N = wired n valid

  -- a prefix, to speak of what does not depend on one
  abbrev some : Prefix
  some = record { addr = 0; len = 0 }

  kept : WorldKept n some w
  kept = (reached n N some ss w runs).kept

  router_count : length w.routers ≡ n.routers
  router_count = (Runs-shape (opening n) ss w runs).routers ∙ length-map-range_with_len (opening_router_of n) 0 n.routers

  -- nothing is due before the event
  first : IsFirst t e
  first = next_first t K e is

  -- an item at the front towards an end does not arrive before the event
  no_sooner : (l : ℕ) (k : Link) (x : TimedLink) → slice_get w.links l ≡ Some k → slice_get t.links l ≡ Some x → (en : End) (a : Arrival) (item : Item) → slice_get (towards en x).arrivals 0 ≡ Some a → slice_get (side en k).inbox 0 ≡ Some item → e.moment ≤ a.moment
  no_sooner l k x at there en a item front waits =
      let S : Specified n l k = specified n some w kept l k at in
      let at_spot = lay-spot n N (place_of l en) S.spec S.is_link in
      let L : Laid n (spot n (place_of l en)) (place_of l en) = laid n (spot n (place_of l en)) (place_of l en) at_spot in
      let i : ℕ = (spot n (place_of l en)).router in
      let q : ℕ = (spot n (place_of l en)).port in
      let known = L.known in
      let R = element_there w.routers i (omega (arith, known, router_count)) in
      let port : place_at w i q ≡ Some (place_of l en) = place_is n some w kept i q ∙ at_spot in
      let taken : front_at w i q ≡ Some item =
      ap (λ (o : Option Place). option_and_then (λ (s : Side). slice_get s.inbox 0) (option_and_then (λ (y : Place). option_map (side y.end) (slice_get w.links y.link)) o)) port
      ∙ ap (λ (o : Option Link). option_and_then (λ (s : Side). slice_get s.inbox 0) (option_map (side en) o)) at ∙ waits in
      first (record { moment = a.moment; step = Deliver i q; given = false }) (inl (record {
        router = R.0;
        at = R.1;
        place = place_of l en;
        port = port;
        item = item;
        front = taken;
        link = x;
        there = there;
        arrival = a;
        first = front;
        arrives = refl;
      }))

  links_later : AreTimelyLinks e.moment w.links t.links
  links_later = record { as_many = (K.on_links).as_many; each = λ l k x at there. one l k x at there ((K.on_links).each l k x at there) }
    where
      one : (l : ℕ) (k : Link) (x : TimedLink) → slice_get w.links l ≡ Some k → slice_get t.links l ≡ Some x → IsTimelyLink t.clock k x → IsTimelyLink e.moment k x
      one l k x at there T = record {
        to_a = later_timely t.clock e.moment (k.a).inbox x.to_a from (λ a front. (let (item, waits) = item_of (k.a).inbox (x.to_a).arrivals a (T.to_a).kinds front in no_sooner l k x at there A a item front waits)) T.to_a;
        to_b = later_timely t.clock e.moment (k.b).inbox x.to_b from (λ a front. (let (item, waits) = item_of (k.b).inbox (x.to_b).arrivals a (T.to_b).kinds front in no_sooner l k x at there B a item front waits)) T.to_b;
      }

  routers_later : AreTimelyRouters e.moment w.routers t.routers
  routers_later = record {
    as_many = (K.at_routers).as_many;
    each = λ i r x at there due. first (record { moment = later x.since x.delay; step = Publish i; given = false }) (record { router = r; at = at; due = due; time = x; there = there; waited = refl });
  }

  changes_later : RisesFrom (λ (c : Change). c.moment) e.moment t.changes
  changes_later = rises_later (λ (c : Change). c.moment) t.clock e.moment t.changes (λ c at. first (record { moment = c.moment; step = c.step; given = true }) (record { place = 0; at = at })) K.of_changes

  pub on_time_after : e.moment < last_moment → Lawful w e.step → IsOnTime (next w e.step) e.moment (links_after e.moment (motion_of w e.step) t.links) (routers_after e.moment (begins_at w e.step) t.routers) (if e.given then drop 1 t.changes else t.changes)
  on_time_after short lawful = record {
    on_links = links_next w e.moment (omega (arith, short)) t.links links_later e.step lawful;
    at_routers = routers_next w e.moment (omega (arith, short)) t.routers routers_later e.step lawful;
    of_changes = by_kind e.given;
  }
    where
      by_kind : (b : Bool) → RisesFrom (λ (c : Change). c.moment) e.moment (if b then drop 1 t.changes else t.changes)
      by_kind true = rises_tail (λ (c : Change). c.moment) e.moment t.changes changes_later
      by_kind false = changes_later
