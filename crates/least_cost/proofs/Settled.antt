-- Where nothing is on a link or held, every machine is passive: who is awaited owes a reply, and has a greater feasible distance.
use Rattle.std.proofs.Common.{◌≡◌, ℕ, zero, suc, ◌+◌, ◌<◌, ◌≤◌, Bool, true, false, ◌==◌, [], Option, Some, None, is_some, refl, sym, subst, arith, ◌∙◌, eq-eqb}
use Rattle.network_model.proofs.Common.{and_from, and_parts, false≢true, false_from_ne_true, infinity, is_port, Computation, Machine, LinkEnd, State, at_port, one_if}
use Rattle.machine_laws.specs.Laws.{IsSound, is_active, is_up_at, awaits, owes_port, owes_of}
use Rattle.machine_laws.proofs.MachineLaws.{machine_laws}
use Rattle.loop_freedom.specs.Network.{Topology}
use Rattle.loop_freedom.specs.Facts.{End, pipe, is_current, end_at}
use Rattle.loop_freedom.proofs.{Link.EndInvariant, Link.Answered, Invariant.Invariant, Opened.opening_keeps, Walks.run_keeps}
use Rattle.least_cost.specs.Settled.{NothingOnTheWay, PassiveOnceSettled}
use Rattle.least_cost.proofs.{Kept.Kept, Runs.kept_run}

-- where nothing is on the way between two ends, one that is awaited owes a reply
pub owed : (x y : End) → Answered x y → pipe x ≡ [] → pipe y ≡ [] → x.awaits ≡ true → y.owes ≡ true
owed x y h px py waits = by_debt y.owes (rw (px, py, waits) at h.answered)
  where
    by_debt : (b : Bool) → 1 ≤ 0 + one_if b + 0 → b ≡ true
    by_debt true e = refl
    by_debt false e = absurd (omega (arith, e))

-- a machine that owes a reply is active
pub active_debtor : (c : Option Computation) (q : ℕ) → owes_of c q ≡ true → is_some c ≡ true
active_debtor None q h = absurd (false≢true h)
active_debtor (Some c) q h = refl

module _ (machine : ℕ → Machine) (sound : (i : ℕ) → IsSound (machine i)) where
  -- a router that is active too, at a greater feasible distance
  pub record Debtor (i : ℕ) : Type 0 where
    pub router : ℕ
    pub active : is_active (machine router) ≡ true
    pub further : (machine i).fd < (machine router).fd

  module _ (across : (e : LinkEnd) → awaits (machine e.router) e.port ≡ true → Debtor e.router) where
    -- for each router that is active there is such a router
    debtor : (i : ℕ) → is_active (machine i) ≡ true → Debtor i
    debtor i active = let some = (sound i).awaits_some active in across (at_port i some.0) some.1

    -- so no router is active whose feasible distance is at most d below infinity
    none_active : (d i : ℕ) → infinity ≤ (machine i).fd + d → is_active (machine i) ≡ true → ⊥
    none_active zero i near active = omega (arith, near, (sound i).active_above active, (sound i).rd_bounded)
    none_active (suc d) i near active = let next = debtor i active in none_active d next.router (omega (arith, near, next.further)) next.active

    -- where across from each port that is awaited there is such a router, every machine is passive
    pub passive_all : (i : ℕ) → is_active (machine i) ≡ false
    passive_all i = false_from_ne_true (is_active (machine i)) (none_active infinity i (omega arith))

module _ (t : Topology) (s : State) (I : Invariant t s) (k : Kept t s) (rest : NothingOnTheWay t s) where
  -- nothing is on the way from an end
  silent : (e : LinkEnd) → t.valid e ≡ true → pipe (end_at t s e) ≡ []
  silent e v = rw (rest.inbox_empty (t.far e) (t.far_valid e v), rest.ripe_empty e v, rest.unripe_empty e v) refl

  -- the router across from a port that is awaited is such a router: it owes a reply, and that to its successor
  debtor_across : (e : LinkEnd) → awaits (s.machine e.router) e.port ≡ true → Debtor s.machine I.sound e.router
  debtor_across e waits =
      record { router = f.router; active = active_debtor (s.machine f.router).computation f.port debt.1; further = falls.0 }
    where
      f : LinkEnd
      f = t.far e

      on : is_up_at (s.machine e.router) e.port ≡ true
      on = (I.sound e.router).awaits_up e.port waits

      v : t.valid e ≡ true
      v = k.up_valid e on

      now : (is_up_at (s.machine e.router) e.port ≡ s.up e) × (s.seen e ≡ s.session e)
      now = rw (rest.inbox_empty e v) at (I.lawful e v)

      up : s.up e ≡ true
      up = sym now.0 ∙ on

      current : is_current (s.machine e.router) e.port (s.seen e) (s.session e) ≡ true
      current = and_from (is_up_at (s.machine e.router) e.port) (s.seen e == s.session e) on (eq-eqb (s.seen e) (s.session e) now.1)

      waits_here : (end_at t s e).awaits ≡ true
      waits_here = and_from (is_current (s.machine e.router) e.port (s.seen e) (s.session e)) (awaits (s.machine e.router) e.port) current waits

      debt : (is_current (s.machine f.router) f.port (s.seen f) (s.session f) ≡ true) × (owes_port (s.machine f.router) f.port ≡ true)
      debt = and_parts (is_current (s.machine f.router) f.port (s.seen f) (s.session f)) (owes_port (s.machine f.router) f.port)
          (owed (end_at t s e) (end_at t s f) (I.answers e v up) (silent e v) (silent f (t.far_valid e v)) waits_here)

      chosen : (end_at t s f).chosen ≡ true
      chosen = and_from (is_current (s.machine f.router) f.port (s.seen f) (s.session f)) (is_port f.port (s.machine f.router).successor) debt.0
          (rw ((I.sound f.router).owes_successor f.port debt.1) (eq-eqb f.port f.port refl))

      back : EndInvariant (end_at t s f) (end_at t s e)
      back = subst (λ (x : LinkEnd). EndInvariant (end_at t s f) (end_at t s x)) (t.far_far e v) (I.links f (t.far_valid e v) (I.up_far e v ∙ up))

      falls : ((s.machine e.router).fd < (s.machine f.router).fd) × (s.published_fd e.router < (s.machine f.router).fd)
      falls = back.control_edge_falls chosen

  pub all_passive : (i : ℕ) → is_active (s.machine i) ≡ false
  all_passive = passive_all s.machine I.sound debtor_across

-- after every run, where nothing is on a link or held every machine is passive
pub passive_once_settled : PassiveOnceSettled
passive_once_settled t first last o run rest = all_passive t last (run_keeps machine_laws t first last (opening_keeps t first o) run) (kept_run t first last o run) rest
