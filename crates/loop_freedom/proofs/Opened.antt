-- The invariant holds at the opening.
use Rattle.std.proofs.Common.{refl, sym, ◌∙◌, arith, ◌≡◌, ℕ, ◌≤◌, ◌<◌, false, List, Option, Some, None, slice_get}
use Rattle.network_model.proofs.Common.{option_map_or, false≢true, both_ways, infinity, opening_machine, State}
use Rattle.network_model.specs.declared.machine.Neighbour.{Neighbour}
use Rattle.machine_laws.specs.Laws.{IsSound, test_at}
use Rattle.machine_laws.proofs.Opened.{opened_sound}
use Rattle.loop_freedom.specs.Network.{Topology, Opening, OpeningPorts}
use Rattle.loop_freedom.proofs.Invariant.{Invariant}

-- a port that is down, or not there, is not up
down_or_absent : (o : Option Neighbour) → ((n : Neighbour) → o ≡ Some n → n.up ≡ false) → test_at (λ (n : Neighbour). n.up) o ≡ false
down_or_absent None f = refl
down_or_absent (Some n) f = f n refl

opening_ports_down : (ns : List Neighbour) → OpeningPorts ns → (p : ℕ) → test_at (λ (n : Neighbour). n.up) (slice_get ns p) ≡ false
opening_ports_down ns P p = down_or_absent (slice_get ns p) (λ n e. P.ports_down p n e)

-- the distance of a machine at the opening is at most infinity
opening_distance_bounded : (a : Option ℕ) → ((c : ℕ) → a ≡ Some c → (0 < c) × (c < infinity)) → option_map_or (λ c. c) a infinity ≤ infinity
opening_distance_bounded None range = omega arith
opening_distance_bounded (Some c) range = omega (arith, (range c refl).1)

-- a machine at the opening is sound
sound_at_opening : (a : Option ℕ) (ns : List Neighbour) → ((c : ℕ) → a ≡ Some c → (0 < c) × (c < infinity)) → OpeningPorts ns → IsSound (opening_machine a ns)
sound_at_opening a ns range P = opened_sound a ns range (λ p n e. record { costs = P.ports_cost p n e; bounded = let r = P.ports_report p n e in omega (arith, r) }) P.ports_report

-- the invariant holds of an opening
pub opening_keeps : (t : Topology) (s : State) → Opening t s → Invariant t s
opening_keeps t s O = record {
  sound = λ i. rw (O.machines i) (sound_at_opening (O.attachment i) (O.ports i) (O.attachment_range i) (O.opening_ports i));
  pfd_bounded = λ i. rw (O.opening_fd i, O.machines i) (opening_distance_bounded (O.attachment i) (O.attachment_range i));
  there = λ e v. rw (O.machines e.router) (O.ports_there e v);
  up_far = λ e v. O.all_down (t.far e) ∙ sym (O.all_down e);
  session_far = λ e v. O.session_none (t.far e) ∙ sym (O.session_none e);
  cost_positive = O.cost_positive;
  lawful = λ e v. rw (O.machines e.router, O.seen_none e, O.all_down e, O.session_none e, O.inbox_empty e) (opening_ports_down (O.ports e.router) (O.opening_ports e.router) e.port, refl);
  ripe_lawful = λ e v. rw (O.ripe_empty e) tt;
  unripe_lawful = λ e v. rw (O.unripe_empty e) tt;
  next_hop_old = λ e v k h. absurd (false≢true (rw (O.nothing_published e.router) at h));
  links = λ e v u. absurd (both_ways (s.up e) (O.all_down e) u);
  answers = λ e v u. absurd (both_ways (s.up e) (O.all_down e) u);
}
