-- Every state of a run from an opening is kept.
use Rattle.std.proofs.Common.{◌≡◌, ◌⊎◌, inl, inr, ℕ, false, List, ◌++◌, Option, Some, None, refl, sym, arith, ◌∙◌, slice_get, append-nil}
use Rattle.network_model.proofs.Common.{both_ways, cases_eq, LinkEnd, State}
use Rattle.network_model.specs.declared.machine.Neighbour.{Neighbour}
use Rattle.machine_laws.specs.Laws.{test_at, is_up_at}
use Rattle.loop_freedom.specs.Network.{Topology, Publish, Skip, Step, Takes, TakesAtHome, Publishes, Releases, LinkComes, LinkGoes, CostChanges, Skips, Run, Start, Then, OpeningPorts, Opening}
use Rattle.machine_laws.proofs.{Distances.AllSound, Opened.opened_sound}
use Rattle.least_cost.proofs.{Kept.held, Kept.Kept, Kept.kept_same, Takes.kept_take, TakesAtHome.kept_take_at_home, Releases.kept_release, Links.kept_up, Links.kept_down, Links.kept_cost}

-- a publication keeps the state
kept_publish : (t : Topology) (old new : State) → Kept t old → Publish t old new → Kept t new
kept_publish t old new k s = kept_same t old new s.machines s.inboxes s.links s.costs same k
  where
    same : (e : LinkEnd) → held new e ≡ held old e
    same e = go (cases_eq e.router s.j)
      where
        go : (e.router ≡ s.j) ⊎ (e.router ≡ s.j → ⊥) → held new e ≡ held old e
        go (inl h) = rw (s.ripe_at e h, s.unripe_at e h) (append-nil (old.ripe e ++ old.unripe e))
        go (inr d) = rw (s.ripe_elsewhere e d, s.unripe_elsewhere e d) refl

-- a step at which nothing changes keeps the state
kept_skip : (t : Topology) (old new : State) → Kept t old → Skip t old new → Kept t new
kept_skip t old new k s = kept_same t old new s.machines s.inboxes s.links s.costs (λ e. rw (s.holdings.ripe_same e, s.holdings.unripe_same e) refl) k

-- every step keeps the state
kept_step : (t : Topology) (old new : State) → Kept t old → Step t old new → Kept t new
kept_step t old new k (Takes s) = kept_take t old new k s
kept_step t old new k (TakesAtHome s) = kept_take_at_home t old new k s
kept_step t old new k (Publishes s) = kept_publish t old new k s
kept_step t old new k (Releases s) = kept_release t old new k s
kept_step t old new k (LinkComes s) = kept_up t old new k s
kept_step t old new k (LinkGoes s) = kept_down t old new k s
kept_step t old new k (CostChanges s) = kept_cost t old new k s
kept_step t old new k (Skips s) = kept_skip t old new k s

-- no port is up at the opening
ports_down : (ns : List Neighbour) → OpeningPorts ns → (p : ℕ) → test_at (λ n. n.up) (slice_get ns p) ≡ false
ports_down ns o p = go (slice_get ns p) refl
  where
    go : (x : Option Neighbour) → slice_get ns p ≡ x → test_at (λ n. n.up) x ≡ false
    go None h = refl
    go (Some n) h = o.ports_down p n h

-- every port is sound at the opening
ports_sound : (ns : List Neighbour) → OpeningPorts ns → AllSound ns
ports_sound ns o p n h = record { costs = o.ports_cost p n h; bounded = omega (arith, o.ports_report p n h) }

kept_opening : (t : Topology) (s : State) → Opening t s → Kept t s
kept_opening t s o = record {
  sound = λ i. rw (o.machines i) (opened_sound (o.attachment i) (o.ports i) (o.attachment_range i) (ports_sound (o.ports i) (o.opening_ports i)) (o.opening_ports i).ports_report);
  there = λ e v. rw (o.machines e.router) (o.ports_there e v);
  up_valid = λ e u. absurd (both_ways (is_up_at (s.machine e.router) e.port) (down e) u);
  lines = λ e v. record {
    positive = o.cost_positive e v;
    fits = rw (o.inbox_empty e) tt;
    end_up = rw (o.inbox_empty e) (down e ∙ sym (o.all_down e));
    end_session = rw (o.inbox_empty e) (o.seen_none e ∙ sym (o.session_none e));
    end_cost = λ u. absurd (both_ways (s.up e) (o.all_down e) u);
  };
  ends_up = λ e v. o.all_down (t.far e) ∙ sym (o.all_down e);
  ends_session = λ e v. o.session_none (t.far e) ∙ sym (o.session_none e);
  recent = λ e v. rw (o.ripe_empty e, o.unripe_empty e) tt;
  sight = λ e v up. absurd (both_ways (s.up e) (o.all_down e) up);
}
  where
    down : (e : LinkEnd) → is_up_at (s.machine e.router) e.port ≡ false
    down e = rw (o.machines e.router) (ports_down (o.ports e.router) (o.opening_ports e.router) e.port)

-- every state that a run from an opening leads to is kept
pub kept_run : (t : Topology) (first last : State) → Opening t first → Run t first last → Kept t last
kept_run t first _ o Start = kept_opening t first o
kept_run t first _ o (Then {middle} {last} run step) = kept_step t middle last (kept_run t first middle o run) step
