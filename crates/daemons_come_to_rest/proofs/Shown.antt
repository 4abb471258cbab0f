-- Routers in processes of their own as one prefix sees them, in the form in which the measure of a network is said.
use Rattle.std.proofs.Common.{refl, ap, arith, ◌≡◌, ℕ, ◌≤◌, true, false, not, ◌&&◌, ◌==◌, List, [], ◌∷◌, ◌++◌, Option, None, Some, slice_get}
use Rattle.no_packet_loops.proofs.Common.{option_map_or, Prefix, Port, Machine, Neighbour, machine_of, session_at, next_hop_at, kept, ripe_of, unripe_of, SeenItem, Reported, State, Topology, LinkEnd, reported_at, messages}
use Rattle.network_model.proofs.Common.{SeenHeld, infinity, one_if}
use Rattle.coming_to_rest.proofs.{Weights.changes, Weights.load, Effects.token, Effects.cost_at, Sums.sum_less, Sums.ends_sum, Sums.ends_less}
use Rattle.coming_to_rest.proofs.Measure.{on_way, end_weight, weight, inbox_load, held_load, loads, le_same}
use Rattle.daemon_laws.specs.Processes.{Processes}
use Rattle.daemon_laws.proofs.Seen.{carried}

-- messages on their way, of whichever session, as items to be taken
abbrev pub reported : List SeenHeld → List SeenItem
reported [] = []
reported (h ∷ hs) = Reported h.message ∷ reported hs

-- of two lists
pub reported-append : (xs ys : List SeenHeld) → reported (xs ++ ys) ≡ reported xs ++ reported ys
reported-append [] ys = refl
reported-append (x ∷ xs) ys = ap (λ is. Reported x.message ∷ is) (reported-append xs ys)

-- the processes as a prefix sees them
abbrev pub shown : Prefix → Processes → State
shown p w = record {
  machine = λ i. machine_of (w.routers i) p;
  seen = λ e. session_at (w.routers e.router).ports e.port;
  up = λ e. option_map_or (λ (x : Port). x.up) (slice_get (w.routers e.router).ports e.port) false;
  session = λ e. session_at (w.routers e.router).ports e.port;
  cost = λ e. 0;
  inbox = λ e. reported (carried p (w.coming e));
  ripe = λ e. kept p e.port (ripe_of (w.routers e.router));
  unripe = λ e. kept p e.port (unripe_of (w.routers e.router));
  published = λ i. next_hop_at p (w.routers i);
  published_fd = λ i. (machine_of (w.routers i) p).fd;
}

-- ---- where no machine moves

-- from the one state to the other no value counts more of what is on its way to an end
abbrev pub NoMore : Topology → State → State → Type 0
NoMore t old new = (e : LinkEnd) → t.valid e ≡ true → (w cost v x : ℕ) → changes w cost v x (on_way t new e) ≤ changes w cost v x (on_way t old e)

-- machines count alike: where they are active, at what distance, and at what cost and report by way of each link
pub record CountsAlike (t : Topology) (old new : State) : Type 0 where
  pub tokens : (w i : ℕ) → token w (new.machine i) ≡ token w (old.machine i)
  pub rd_same : (i : ℕ) → (new.machine i).rd ≡ (old.machine i).rd
  pub cost_same : (e : LinkEnd) → t.valid e ≡ true → cost_at (new.machine e.router) e.port ≡ cost_at (old.machine e.router) e.port
  pub reported_same : (e : LinkEnd) → t.valid e ≡ true → reported_at (new.machine e.router) e.port ≡ reported_at (old.machine e.router) e.port

module _ (t : Topology) (n d : ℕ) (old new : State) (C : CountsAlike t old new) (N : NoMore t old new) where
  -- an end counts no more
  end_less : (w : ℕ) (e : LinkEnd) → t.valid e ≡ true → end_weight t new w e ≤ end_weight t old w e
  end_less w e valid =
      let m = N e valid w (cost_at (old.machine e.router) e.port) (old.machine (t.far e).router).rd (reported_at (old.machine e.router) e.port) in
      rw (C.cost_same e valid, C.reported_same e valid, C.rd_same (t.far e).router) (omega (arith, m))

  pub alike_count : (w : ℕ) → weight t n d new w ≤ weight t n d old w
  alike_count w =
      let tokens = sum_less n (λ i. token w (new.machine i)) (λ i. token w (old.machine i)) (λ i l. le_same (C.tokens w i)) in
      let ends = ends_less t n d (end_weight t new w) (end_weight t old w) (end_less w) in
      omega (arith, tokens, ends)

-- machines that are the same count alike
pub no_more_weight : (t : Topology) (n d : ℕ) (old new : State) → ((i : ℕ) → new.machine i ≡ old.machine i) → NoMore t old new → (w : ℕ) → weight t n d new w ≤ weight t n d old w
no_more_weight t n d old new same N = alike_count t n d old new (record {
  tokens = λ w i. ap (token w) (same i);
  rd_same = λ i. ap (λ (m : Machine). m.rd) (same i);
  cost_same = λ e valid. ap (λ (m : Machine). cost_at m e.port) (same e.router);
  reported_same = λ e valid. ap (λ (m : Machine). reported_at m e.port) (same e.router);
}) N

-- 1 where a port is down, and what was reported there last is below infinity, which is forgotten with the prefix
abbrev pub stale_of : Option Neighbour → ℕ
stale_of None = 0
stale_of (Some n) = one_if (not n.up && not (n.reported == infinity))

abbrev pub stale : State → LinkEnd → ℕ
stale s e = stale_of (slice_get (s.machine e.router).ports e.port)

-- at how many ends it is so
abbrev pub stales : Topology → ℕ → ℕ → State → ℕ
stales t n d s = ends_sum t n d (stale s)

-- at no more where machines are the same
pub stales_same : (t : Topology) (n d : ℕ) (old new : State) → ((i : ℕ) → new.machine i ≡ old.machine i) → stales t n d new ≤ stales t n d old
stales_same t n d old new same = ends_less t n d (stale new) (stale old) (λ e valid. le_same (ap (λ (m : Machine). stale_of (slice_get m.ports e.port)) (same e.router)))

-- where no end has more to take, and none holds more, the load is no greater
pub no_more_load : (t : Topology) (n d : ℕ) (old new : State) → ((e : LinkEnd) → t.valid e ≡ true → inbox_load new e ≤ inbox_load old e) → ((e : LinkEnd) → t.valid e ≡ true → held_load new e ≤ held_load old e) → loads t n d new ≤ loads t n d old
no_more_load t n d old new taken holds = let i = ends_less t n d (inbox_load new) (inbox_load old) taken in let h = ends_less t n d (held_load new) (held_load old) holds in omega (arith, i, h)

-- ---- where nothing of the prefix changes

-- nothing of one state is other in the other
pub record Alike (old new : State) : Type 0 where
  pub machine_same : (i : ℕ) → new.machine i ≡ old.machine i
  pub inbox_same : (e : LinkEnd) → new.inbox e ≡ old.inbox e
  pub ripe_same : (e : LinkEnd) → new.ripe e ≡ old.ripe e
  pub unripe_same : (e : LinkEnd) → new.unripe e ≡ old.unripe e

module _ (t : Topology) (n d : ℕ) (old new : State) (A : Alike old new) where
  -- no more counts
  pub alike_weight : (w : ℕ) → weight t n d new w ≤ weight t n d old w
  alike_weight = no_more_weight t n d old new A.machine_same
      (λ e v w cost y x. rw (A.inbox_same e, A.ripe_same (t.far e), A.unripe_same (t.far e)) (omega arith))

  -- and the load is no greater
  pub alike_loads : loads t n d new ≤ loads t n d old
  alike_loads = no_more_load t n d old new (λ e v. le_same (ap (λ is. load (messages is)) (A.inbox_same e))) (λ e v. le_same (rw (A.ripe_same e, A.unripe_same e) refl))
