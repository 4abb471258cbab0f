-- A router may count as having published at its present feasible distance, if that is greater than the one at which it has: what each moment keeps for a prefix is
-- kept then. So where such a distance has once been chosen, all rows that lead to the router stay above it until that publishes, whatever it takes meanwhile.
use Rattle.std.proofs.Common.{sym, subst, inl, inr, arith, ◌<◌, ◌≤◌, ◌≡◌, ◌⊎◌, ℕ, Bool, true, false, ◌==◌, if◌then◌else◌, refl, eqb-true}
use Rattle.no_packet_loops.proofs.Common.{Prefix, infinity, Topology, EndInvariant, machine_of}
use Rattle.loop_freedom.specs.Facts.{AtLeast, End}
use Rattle.loop_freedom.proofs.Lists.{at_least_left}
use Rattle.daemon_laws.specs.{Processes.Processes, Facts.end_from}
use Rattle.daemon_laws.proofs.{Gone.Gone, Told.Told, Invariant.Invariant}

-- a router that has published at one feasible distance, and has another now, counts as having published at this one
pub record Counts (published now a : ℕ) : Type 0 where
  pub least : published ≤ a
  pub is : (a ≡ published) ⊎ (a ≡ now)

-- that is below what both are
below : {published now a : ℕ} → Counts published now a → (n : ℕ) → (now < n) × (published < n) → a < n
below C n lt = elim C.is [ inl e ↦ (let l = lt.1 in omega (arith, e, l)) | inr e ↦ (let l = lt.0 in omega (arith, e, l)) ]

-- ---- the ends of a link

module _ (x y : End) (a b : ℕ) (C : Counts x.pfd x.fd a) (D : Counts y.pfd y.fd b) where
  abbrev x' : End
  x' = record x { pfd = a }

  abbrev y' : End
  y' = record y { pfd = b }

  falls : (y.fd < x.pfd) × (y.pfd < x.pfd) → (y.fd < a) × (b < a)
  falls lt = (let both = below D x.pfd lt in let one = lt.0 in let le = C.least in (omega (arith, one, le), omega (arith, both, le)))

  links_counted : a ≤ infinity → EndInvariant x y → EndInvariant x' y'
  links_counted top h = record {
    nothing_sent = h.nothing_sent;
    unheard = h.unheard;
    chosen_current = h.chosen_current;
    shown_current = h.shown_current;
    pfd_bounded = top;
    feasible_below_sent = h.feasible_below_sent;
    feasible_below_kept = h.feasible_below_kept;
    published_below_sent = elim C.is [
      | inl e ↦ subst (λ (n : ℕ). AtLeast n x.out) (sym e) h.published_below_sent
      | inr e ↦ subst (λ (n : ℕ). AtLeast n x.out) (sym e) (at_least_left x.fd x.out x.kept h.feasible_below_sent)
    ];
    published_below_kept = λ on. (let l = h.published_below_kept on in let m = h.feasible_below_kept on in elim C.is [ inl e ↦ omega (arith, e, l) | inr e ↦ omega (arith, e, m) ]);
    control_edge_falls = λ c. (let lt = h.control_edge_falls c in (lt.0, below D x.fd lt));
    published_edge_falls = λ c. falls (h.published_edge_falls c);
    awaited_once = h.awaited_once;
    computation_below_sent = h.computation_below_sent;
    computation_below_kept = h.computation_below_kept;
    control_edge_waits = h.control_edge_waits;
    published_edge_waits = λ act c few. (let lt = h.published_edge_waits act c few in let le = C.least in omega (arith, lt, le));
  }

  -- the same where the one has left the session
  gone_counted : Gone x y → Gone x' y'
  gone_counted h = record {
    shown_current = h.shown_current;
    published_edge_falls = λ c. falls (h.published_edge_falls c);
    replies_awaited = h.replies_awaited;
    queries_once = h.queries_once;
    published_edge_waits = λ act c few. (let lt = h.published_edge_waits act c few in let le = C.least in omega (arith, lt, le));
  }

  -- what an end was told is of no feasible distance that is published
  told_counted : Told x y → Told x' y'
  told_counted h = record { last_is = h.last_is; answers = record { answered = (h.answers).answered } }

-- ---- the processes

module _ (t : Topology) (p : Prefix) (fds fds' : ℕ → ℕ) (w : Processes) (I : Invariant t p fds w) (C : (j : ℕ) → Counts (fds j) (machine_of (w.routers j) p).fd (fds' j)) where
  bounded : (j : ℕ) → fds' j ≤ infinity
  bounded j = (let l = I.pfd_bounded j in let m = (I.sound j).fd_below in let n = (I.sound j).rd_bounded in elim (C j).is [ inl e ↦ omega (arith, e, l) | inr e ↦ omega (arith, e, m, n) ])

  pub counted_keeps : Invariant t p fds' w
  counted_keeps = record {
    sound = I.sound;
    pfd_bounded = bounded;
    keeps = I.keeps;
    ripe_lawful = I.ripe_lawful;
    unripe_lawful = I.unripe_lawful;
    cheap = I.cheap;
    last_is = I.last_is;
    coming_lawful = I.coming_lawful;
    links = λ e v n one two. links_counted (end_from t p n fds w e) (end_from t p n fds w (t.far e)) (fds' e.router) (fds' (t.far e).router) (C e.router) (C (t.far e).router) (bounded e.router) (I.links e v n one two);
    told = λ e v n whole one two. told_counted (end_from t p n fds w e) (end_from t p n fds w (t.far e)) (fds' e.router) (fds' (t.far e).router) (C e.router) (C (t.far e).router) (I.told e v n whole one two);
    alone = λ e v n left two. gone_counted (end_from t p n fds w e) (end_from t p n fds w (t.far e)) (fds' e.router) (fds' (t.far e).router) (C e.router) (C (t.far e).router) (I.alone e v n left two);
  }

-- the feasible distances, where router i alone counts so
abbrev pub with_one : ℕ → ℕ → (ℕ → ℕ) → ℕ → ℕ
with_one i a fds j = if j == i then a else fds j

pub count_one : (i a : ℕ) (fds now : ℕ → ℕ) → Counts (fds i) (now i) a → (j : ℕ) → Counts (fds j) (now j) (with_one i a fds j)
count_one i a fds now here j = by_test (j == i) refl
  where
    by_test : (b : Bool) → (j == i) ≡ b → Counts (fds j) (now j) (if b then a else fds j)
    by_test true is = subst (λ (k : ℕ). Counts (fds k) (now k) a) (sym (eqb-true j i is)) here
    by_test false is = record { least = omega arith; is = inl refl }
