-- What every state of a run keeps, and when two states show the same of a link.
use Rattle.std.proofs.Common.{sym, subst, arith, ◌≡◌, ℕ, ◌<◌, ◌≤◌, true, false, List, [], ◌++◌, Option, length}
use Rattle.network_model.proofs.Common.{both_ways, Machine, SeenHeld, SeenItem, LinkEnd, State, infinity}
use Rattle.network_model.specs.declared.route.NextHop.{NextHop}
use Rattle.machine_laws.specs.Laws.{IsSound, is_up_at}
use Rattle.loop_freedom.specs.Network.{Topology}
use Rattle.loop_freedom.specs.Facts.{AtLeast, AtLeastFromLastQuery, End, pipe, messages, live, is_next_hop, end_of, end_at}
use Rattle.loop_freedom.proofs.{Lists.at_least_left, Link.EndInvariant, Link.Answered, Notices.IsLawfulInbox, Notices.IsLawfullyHeld}

-- the items that an end has yet to take lead from what its router has seen to the link as it is
abbrev pub IsLawfulAt : State → LinkEnd → Type 0
IsLawfulAt s e = IsLawfulInbox (is_up_at (s.machine e.router) e.port) (s.seen e) (s.up e) (s.session e) (s.inbox e)

-- what every state of a run keeps
pub record Invariant (t : Topology) (s : State) : Type 0 where
  pub sound : (i : ℕ) → IsSound (s.machine i)
  pub pfd_bounded : (i : ℕ) → s.published_fd i ≤ infinity
  pub there : (e : LinkEnd) → t.valid e ≡ true → e.port < length (s.machine e.router).ports
  pub up_far : (e : LinkEnd) → t.valid e ≡ true → s.up (t.far e) ≡ s.up e
  pub session_far : (e : LinkEnd) → t.valid e ≡ true → s.session (t.far e) ≡ s.session e
  pub cost_positive : (e : LinkEnd) → t.valid e ≡ true → 0 < s.cost e
  pub lawful : (e : LinkEnd) → t.valid e ≡ true → IsLawfulAt s e
  pub ripe_lawful : (e : LinkEnd) → t.valid e ≡ true → IsLawfullyHeld (s.session e) (s.ripe e)
  pub unripe_lawful : (e : LinkEnd) → t.valid e ≡ true → IsLawfullyHeld (s.session e) (s.unripe e)
  pub next_hop_old : (e : LinkEnd) → t.valid e ≡ true → (k : ℕ) → is_next_hop e.port k (s.published e.router) ≡ true → k ≤ s.session e
  pub links : (e : LinkEnd) → t.valid e ≡ true → s.up e ≡ true → EndInvariant (end_at t s e) (end_at t s (t.far e))
  pub answers : (e : LinkEnd) → t.valid e ≡ true → s.up e ≡ true → Answered (end_at t s e) (end_at t s (t.far e))

-- ends with equal parts, and with the same on its way, are equal
pub end_cong : {m m' : Machine} {seen seen' n n' : ℕ} {o o' : Option NextHop} {pfd pfd' : ℕ} (q : ℕ) (items items' : List SeenItem) (ripe ripe' unripe unripe' : List SeenHeld)
    → m' ≡ m → seen' ≡ seen → n' ≡ n → o' ≡ o → pfd' ≡ pfd
    → messages items' ++ live n' ripe' ≡ messages items ++ live n ripe → live n' unripe' ≡ live n unripe
    → end_of m' q seen' n' o' pfd' items' ripe' unripe' ≡ end_of m q seen n o pfd items ripe unripe
end_cong q items items' ripe ripe' unripe unripe' a b c d e f g = cc

-- an end is the same in two states that have its parts, and the same on its way
pub end_at_cong : (t : Topology) (old new : State) (e : LinkEnd)
    → new.machine e.router ≡ old.machine e.router → new.seen e ≡ old.seen e → new.session e ≡ old.session e
    → new.published e.router ≡ old.published e.router → new.published_fd e.router ≡ old.published_fd e.router
    → messages (new.inbox (t.far e)) ++ live (new.session e) (new.ripe e) ≡ messages (old.inbox (t.far e)) ++ live (old.session e) (old.ripe e)
    → live (new.session e) (new.unripe e) ≡ live (old.session e) (old.unripe e)
    → end_at t new e ≡ end_at t old e
end_at_cong t old new e a b c d p o k =
    end_cong e.port (old.inbox (t.far e)) (new.inbox (t.far e)) (old.ripe e) (new.ripe e) (old.unripe e) (new.unripe e) a b c d p o k

-- what holds between two ends holds between ends that equal them
pub end_invariant_same : {x y x' y' : End} → x' ≡ x → y' ≡ y → EndInvariant x y → EndInvariant x' y'
end_invariant_same {x} {y} {x'} {y'} a b h = subst (λ (z : End). EndInvariant z y') (sym a) (subst (λ (z : End). EndInvariant x z) (sym b) h)

-- the invariant holds on a link that has just come up: neither end knows of it, and nothing is on its way
pub end_invariant_new : (x y : End) → x.current ≡ false → pipe x ≡ [] → pipe y ≡ [] → y.current ≡ false
    → x.chosen ≡ false → x.shown ≡ false → x.awaits ≡ false → y.owes ≡ false → x.pfd ≤ infinity → EndInvariant x y
end_invariant_new x y off px py off' ch sh aw ow b = record {
  nothing_sent = λ e. px;
  unheard = λ e f. absurd (both_ways y.current off' f);
  chosen_current = λ e. absurd (both_ways x.chosen ch e);
  shown_current = λ e. absurd (both_ways x.shown sh e);
  pfd_bounded = b;
  feasible_below_sent = subst (AtLeast x.fd) (sym px) tt;
  feasible_below_kept = λ f. absurd (both_ways y.current off' f);
  published_below_sent = at_least_left x.pfd x.out x.kept (subst (AtLeast x.pfd) (sym px) tt);
  published_below_kept = λ f. absurd (both_ways y.current off' f);
  control_edge_falls = λ e. absurd (both_ways x.chosen ch e);
  published_edge_falls = λ e. absurd (both_ways x.shown sh e);
  awaited_once = rw (px, py, aw, ow) (omega arith);
  computation_below_sent = λ e. subst (AtLeastFromLastQuery y.rd) (sym py) tt;
  computation_below_kept = λ a c. absurd (both_ways x.current off c);
  control_edge_waits = λ a e. absurd (both_ways x.chosen ch e);
  published_edge_waits = λ a e. absurd (both_ways x.shown sh e);
}

-- who is awaited is so between ends that equal others
pub answered_same : {x y x' y' : End} → x' ≡ x → y' ≡ y → Answered x y → Answered x' y'
answered_same {x} {y} {x'} {y'} a b h = subst (λ (z : End). Answered z y') (sym a) (subst (λ (z : End). Answered x z) (sym b) h)
