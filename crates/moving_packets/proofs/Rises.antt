-- A feasible distance rises where its router takes something, at the end of a computation; a published one where the router publishes.
use Rattle.std.proofs.Common.{refl, sym, ap, subst, ◌∙◌, inl, inr, arith, ◌<◌, ◌≤◌, ◌≡◌, ℕ, true, false, nat_lt, slice_get, ltb-true, eqb-true}
use Rattle.network_model.proofs.Common.{cases_Bool}
use Rattle.no_packet_loops.proofs.Common.{cases_eq, false≢true, Prefix, infinity, Event, Machine, reaction, event_at_home, event_of, Router, machine_of, next, History, with_step, State, Topology, Meets, Invariant, meets_item, meets_home, machine_laws, is_active, is_up_at, Takes, TakesAtHome, Releases, Skips, Step, Deliver}
use Rattle.loop_freedom.specs.Network.{Step as NetStep, Publishes, LinkComes, LinkGoes, CostChanges}
use Rattle.no_packet_loops.proofs.{Runs.fd_is, Runs.stepped, Places.topology}
use Rattle.moving_packets.specs.Moving.{HoldsAfterEveryRun, RisesComeFrom, fd_chosen, fd_published, takes}
use Rattle.moving_packets.proofs.{Reached.IsMade, Reached.made, Reached.stays_or_chosen, Reached.stays_in, Reached.wired_is, Reached.here}

no_rise : (a b : ℕ) → b ≡ a → nat_lt a b ≡ true → ⊥
no_rise a b e is = (let lt = ltb-true a b is in omega (arith, lt, e))

-- a router that takes something does so in a delivery
took : (s : Step) (i : ℕ) → takes i s ≡ true → (q : ℕ) × (s ≡ Deliver i q)
took (Deliver j q) i is = (q, ap (λ (x : ℕ). Deliver x q) (sym (eqb-true i j is)))
took _ i is = absurd (false≢true is)

-- one that takes nothing keeps its feasible distance
pub same_chosen : (h : History) (s : Step) (p : Prefix) (i : ℕ) → takes i s ≡ false → fd_chosen (with_step h s) p i ≡ fd_chosen h p i
same_chosen h s p i away = stays_in (λ (y : Router). (machine_of y p).fd) infinity h.world s i (λ r. refl) (λ e r. refl) (λ e. absurd (false≢true (sym away ∙ e)))

-- a machine whose feasible distance rises ends a computation, if a port is up then
abbrev IsEnd : Machine → Machine → Type 0
IsEnd m m' = m.fd < m'.fd → (q : ℕ) → is_up_at m' q ≡ true → (is_active m ≡ true) × (m'.fd ≤ m.rd)

ends_there : (t : Topology) (old new : State) → Invariant t old → NetStep t old new → (i : ℕ) → IsEnd (old.machine i) (new.machine i)
ends_there t old new I s i = by_kind s
  where
    same : new.machine i ≡ old.machine i → IsEnd (old.machine i) (new.machine i)
    same e less q up = (let stays = ap (λ (m : Machine). m.fd) e in absurd (omega (arith, less, stays)))

    reacts : (j : ℕ) (e : Event) → i ≡ j → Meets (old.machine j) e → new.machine j ≡ (reaction (old.machine j) e).machine → IsEnd (old.machine i) (new.machine i)
    reacts j e here meets is = subst (λ (x : ℕ). IsEnd (old.machine x) (new.machine x)) (sym here) (subst (IsEnd (old.machine j)) (sym is) (λ less q up. (let end = machine_laws.rises_at_completion (old.machine j) e (I.sound j) meets less q up in (end.0, end.1))))

    by_kind : NetStep t old new → IsEnd (old.machine i) (new.machine i)
    by_kind (Takes T) = elim (cases_eq i T.a.router) [
      | inl e ↦ reacts T.a.router (event_of T.a.port T.item) e (meets_item machine_laws (old.machine T.a.router) T.a.port T.item (new.inbox T.a) (old.seen T.a) (old.session T.a) (old.up T.a) (I.there T.a T.valid_place) (rw T.inbox_at at (I.lawful T.a T.valid_place))) T.machine_at
      | inr d ↦ same (T.machine_elsewhere i d)
    ]
    by_kind (TakesAtHome T) = elim (cases_eq i T.i) [
      | inl e ↦ reacts T.i (event_at_home T.notice) e (meets_home (old.machine T.i) T.notice T.positive) T.machine_at
      | inr d ↦ same (T.machine_elsewhere i d)
    ]
    by_kind (Publishes T) = same (T.machines.machine_same i)
    by_kind (Releases T) = same (T.machines.machine_same i)
    by_kind (LinkComes T) = same (T.machines.machine_same i)
    by_kind (LinkGoes T) = same (T.machines.machine_same i)
    by_kind (CostChanges T) = same (T.machines.machine_same i)
    by_kind (Skips T) = same (T.machines.machine_same i)

come_from : (h : History) → IsMade h → RisesComeFrom h
come_from h M = record {
  taken = λ s p i L is. elim (cases_Bool (takes i s)) [ inl e ↦ took s i e | inr e ↦ absurd (no_rise (fd_chosen h p i) (fd_chosen (with_step h s) p i) (same_chosen h s p i e) is) ];
  published = λ s p i L is. elim (stays_or_chosen h s p i L) [ inl e ↦ absurd (no_rise (fd_published h p i) (fd_published (with_step h s) p i) e is) | inr x ↦ x.0 ];
  completed = λ s p i q L is up. (
      let N = wired_is h M in
      let R = here h M p in
      let S = stepped M.network N p h.world R.published_fd R.kept R.inv s L in
      let lt = ltb-true (fd_chosen h p i) (fd_chosen (with_step h s) p i) is in
      let was = fd_is p (slice_get (h.world).routers i) in
      let then_is = fd_is p (slice_get (next h.world s).routers i) in
      let E = ends_there (topology M.network N) _ _ R.inv (S.is_kept).step i (omega (arith, lt, was, then_is)) q up in
      let le = E.1 in
      (E.0, omega (arith, le, then_is)));
}

pub always_come_from : HoldsAfterEveryRun RisesComeFrom
always_come_from n ss w valid r = come_from (_) (made n ss w valid r)
