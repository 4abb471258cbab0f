-- A step in which a router takes a notice of its attachment keeps the state.
use Rattle.std.proofs.Common.{◌≡◌, ◌⊎◌, ℕ, true, refl, ap, sym, inl, inr, arith, ◌∙◌}
use Rattle.network_model.proofs.Common.{cases_eq, event_at_home, LinkEnd, State}
use Rattle.machine_laws.proofs.MachineLaws.{machine_laws}
use Rattle.loop_freedom.specs.Network.{Topology, TakeAtHome}
use Rattle.loop_freedom.proofs.{Meeting.met_notice, TakingAtHome.meets_home, TakingAtHome.ports_home}
use Rattle.least_cost.proofs.Kept.{LineKept, pending, line, Kept}
use Rattle.least_cost.proofs.Meeting.{kept_met}

module _ (t : Topology) (old new : State) (k : Kept t old) (s : TakeAtHome t old new) where
  -- every router's ports are as they were
  ports_still : (i : ℕ) → (new.machine i).ports ≡ (old.machine i).ports
  ports_still i = go (cases_eq i s.i)
    where
      go : (i ≡ s.i) ⊎ (i ≡ s.i → ⊥) → (new.machine i).ports ≡ (old.machine i).ports
      go (inl h) = ap (λ x. x.ports) (ap new.machine h ∙ s.machine_at) ∙ ports_home machine_laws (old.machine s.i) s.notice ∙ ap (λ j. (old.machine j).ports) (sym h)
      go (inr d) = ap (λ x. x.ports) (s.machine_elsewhere i d)

  line_still : (e : LinkEnd) → line new e ≡ line old e
  line_still e = rw (ports_still e.router, s.seen_same e, s.inboxes.inbox_same e, s.links.up_same e, s.links.session_same e, s.costs.cost_same e) refl

  lines_still : (e : LinkEnd) → t.valid e ≡ true → LineKept (line new e)
  lines_still e v = rw (line_still e) (k.lines e v)

  -- a notice of the attachment that is taken keeps the state
  pub kept_take_at_home : Kept t new
  kept_take_at_home = kept_met t old new k s.i (event_at_home s.notice) (met_notice t old new s) (meets_home (old.machine s.i) s.notice s.positive) (record {
    there = λ e v. rw (ports_still e.router) (k.there e v);
    up_valid = λ e u. k.up_valid e (rw (ports_still e.router) at u);
    lines = lines_still;
    reported_same = λ e. ap (λ x. (pending x).reported) (line_still e);
    seen_grows = λ e. omega (arith, s.seen_same e);
    comes = λ e l. absurd (omega (arith, l, s.seen_same e));
  })
