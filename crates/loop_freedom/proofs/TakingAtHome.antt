-- A router that takes a notice of its attachment keeps the invariant.
use Rattle.std.proofs.Common.{refl, sym, ◌∙◌, ap, subst, inl, inr, ◌≡◌, ℕ, ◌<◌, true, Bool, ◌&&◌, ◌==◌, List, Option, Some, None, length, slice_get}
use Rattle.network_model.proofs.Common.{cases_eq, both_ways, false≢true, Machine, reaction, event_at_home, LinkEnd, State}
use Rattle.network_model.specs.declared.machine.Neighbour.{Neighbour}
use Rattle.machine_laws.specs.Laws.{Meets, MachineLaws, is_up_at, reported_by, test_at}
use Rattle.loop_freedom.specs.{Network.Topology, Network.TakeAtHome, Facts.messages, Facts.is_current}
use Rattle.loop_freedom.proofs.{Reacts.PortStep, Invariant.Invariant, Invariant.IsLawfulAt, Meeting.met_notice, Meeting.meeting_keeps}

-- a machine may be told of its attachment at any time, at a cost that is not 0
pub meets_home : (m : Machine) (o : Option ℕ) → ((c : ℕ) → o ≡ Some c → 0 < c) → Meets m (event_at_home o)
meets_home m None f = tt
meets_home m (Some c) f = f c refl

module _ (laws : MachineLaws) (m : Machine) where
  -- no notice of the attachment changes the ports
  pub ports_home : (o : Option ℕ) → (reaction m (event_at_home o)).machine.ports ≡ m.ports
  ports_home None = laws.keeps_records m (event_at_home None)
  ports_home (Some c) = laws.keeps_records m (event_at_home (Some c))

  pub up_home : (o : Option ℕ) (q : ℕ) → is_up_at (reaction m (event_at_home o)).machine q ≡ is_up_at m q
  up_home o q = ap (λ (ns : List Neighbour). test_at (λ (x : Neighbour). x.up) (slice_get ns q)) (ports_home o)

  -- a notice of the attachment leaves every port as it was
  pub port_step_home : (o : Option ℕ) (q seen n : ℕ) → PortStep m (event_at_home o) q seen seen n None
  port_step_home None q seen n =
      let cur : is_current (reaction m (event_at_home None)).machine q seen n ≡ is_current m q seen n = ap (λ (b : Bool). b && (seen == n)) (up_home None q) in
      record {
        counts = λ k. refl;
        goes_down = λ e. absurd (false≢true e);
        stays = λ e. cur ∙ e;
        nothing = λ e. refl;
        reports = λ e. ap (λ (ns : List Neighbour). reported_by (slice_get ns q)) (ports_home None);
        comes = λ off on. absurd (both_ways (is_current m q seen n) off (sym cur ∙ on));
        lets_go = λ r u. cc;
      }
  port_step_home (Some c) q seen n =
      let cur : is_current (reaction m (event_at_home (Some c))).machine q seen n ≡ is_current m q seen n = ap (λ (b : Bool). b && (seen == n)) (up_home (Some c) q) in
      record {
        counts = λ k. refl;
        goes_down = λ e. absurd (false≢true e);
        stays = λ e. cur ∙ e;
        nothing = λ e. refl;
        reports = λ e. ap (λ (ns : List Neighbour). reported_by (slice_get ns q)) (ports_home (Some c));
        comes = λ off on. absurd (both_ways (is_current m q seen n) off (sym cur ∙ on));
        lets_go = λ r u. cc;
      }

module _ (laws : MachineLaws) (t : Topology) (old new : State) (I : Invariant t old) (T : TakeAtHome t old new) where
  -- every machine has its ports as before
  ports' : (i : ℕ) → (new.machine i).ports ≡ (old.machine i).ports
  ports' i = elim (cases_eq i T.i) [
    | inl p ↦ subst (λ (k : ℕ). (new.machine k).ports ≡ (old.machine k).ports) (sym p) (ap (λ (w : Machine). w.ports) T.machine_at ∙ ports_home laws (old.machine T.i) T.notice)
    | inr d ↦ ap (λ (w : Machine). w.ports) (T.machine_elsewhere i d)
  ]

  -- the items at every end are lawful after the step
  lawful' : (e : LinkEnd) → t.valid e ≡ true → IsLawfulAt new e
  lawful' e v = rw (ports' e.router, T.seen_same e, T.links.up_same e, T.links.session_same e, T.inboxes.inbox_same e) (I.lawful e v)

  -- taking the notice keeps the invariant
  pub take_at_home_keeps : Invariant t new
  take_at_home_keeps = meeting_keeps laws t old new I T.i (event_at_home T.notice) (record {
    met = met_notice t old new T;
    meets = meets_home (old.machine T.i) T.notice T.positive;
    takes = λ e v u r. record {
      message = None;
      port = rw (T.seen_same e) (port_step_home laws (old.machine T.i) T.notice e.port (old.seen e) (old.session e));
      took = ap messages (sym (T.inboxes.inbox_same e));
    };
    lengths = λ k. ap (λ (ns : List Neighbour). length ns) (ports' k);
    lawful = lawful';
  })
