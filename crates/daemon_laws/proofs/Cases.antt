-- What holds once one router is changed, once an end has taken what comes there, and once a router has released a message.
use Rattle.std.proofs.Common.{refl, sym, subst, inl, inr, ◌≡◌, ◌≢◌, ℕ, ◌≤◌, Bool, true, false, nat_lt, if◌then◌else◌, Some, slice_get, drop, ltb-false}
use Rattle.no_packet_loops.proofs.Common.{option_map_or-ind, cases_eq, Held, Router, ripe_front, Topology, LinkEnd}
use Rattle.single_router.specs.declared.input.Input.TheVariants as input
use Rattle.single_router.specs.Inputs.{told_fault}
use Rattle.daemon_laws.specs.Processes.{Carried, Processes}
use Rattle.daemon_laws.specs.Happenings.{Takes, Releases, with_process, with_coming, with_heard, told_router, having_taken, having_released, after_happening}

-- what holds of each router as it was, and of router i after the step, holds of each router after the step
pub each_but : {rs rs' : ℕ → Router} {i : ℕ} → ((j : ℕ) → j ≢ i → rs' j ≡ rs j) → (P : ℕ → Router → Type 0) → P i (rs' i) → ((j : ℕ) → P j (rs j)) → (j : ℕ) → P j (rs' j)
each_but {rs} {rs'} {i} elsewhere P here away j = elim (cases_eq j i) [
  | inl e ↦ subst (λ (k : ℕ). P k (rs' k)) (sym e) here
  | inr d ↦ subst (P j) (sym (elsewhere j d)) (away j)
]

-- the processes once the router at an end has taken the message, or has refused it
abbrev pub after_message : LinkEnd → Processes → Carried → Processes
after_message e w c = record {
  routers = with_process e.router (told_router (input.Message e.port c.session c.message)) w.routers;
  coming = with_coming e (drop 1) w.coming;
  last = w.last;
  heard = with_heard e (told_fault (input.Message e.port c.session c.message) (w.routers e.router)) c.session w.heard;
  lost = w.lost;
}

module _ (t : Topology) (w : Processes) (P : Processes → Type 0) (before : P w) where
  -- an end takes the oldest message that comes there, if there is one, and it need not wait
  pub by_take : (e : LinkEnd) → ((c : Carried) → slice_get (w.coming e) 0 ≡ Some c → c.session ≤ w.last e → P (after_message e w c)) → P (after_happening t w (Takes e))
  by_take e took = option_map_or-ind P (having_taken e w) (slice_get (w.coming e) 0) w before (λ c at. by_wait c at (nat_lt (w.last e) c.session) refl)
    where
      by_wait : (c : Carried) → slice_get (w.coming e) 0 ≡ Some c → (b : Bool) → nat_lt (w.last e) c.session ≡ b → P (if b then w else after_message e w c)
      by_wait c at true is = before
      by_wait c at false is = took c at (ltb-false (w.last e) c.session is)

  -- a router releases its oldest message, if that is ripe
  pub by_release : (i : ℕ) → ((h : Held) → ripe_front (w.routers i) ≡ Some h → P (having_released t i w h)) → P (after_happening t w (Releases i))
  by_release i released = option_map_or-ind P (having_released t i w) (ripe_front (w.routers i)) w before released
