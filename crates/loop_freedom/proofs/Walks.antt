-- Every run keeps the invariant, and so no walk along its edges meets a router twice.
use Rattle.std.specs.Prelude.{⊤}
use Rattle.std.proofs.Common.{refl, ap, subst, arith, inl, inr, ◌≡◌, ◌⊎◌, ℕ, ◌<◌, max, true, false, ◌==◌, List, [], ◌∷◌, ne_eqb, eq-eqb}
use Rattle.network_model.proofs.Common.{and_from, or_from, is_port, LinkEnd, State}
use Rattle.machine_laws.specs.Laws.{MachineLaws, is_up_at}
use Rattle.loop_freedom.specs.Network.{Topology, Step, Takes, TakesAtHome, Publishes, Releases, LinkComes, LinkGoes, CostChanges, Skips, Run, Start, Then, PublishedEdge, ControlEdge, IsEdgeWalk, met, is_met, meets_twice, HoldsInEveryState, PublishedLoopFree, MixedLoopFree}
use Rattle.loop_freedom.specs.Facts.{is_current}
use Rattle.loop_freedom.proofs.{Invariant.Invariant, Taking.take_keeps, TakingAtHome.take_at_home_keeps, Publishing.publish_keeps, StillMachines.release_keeps, StillMachines.set_cost_keeps, StillMachines.skip_keeps, Linking.link_up_keeps, Linking.link_down_keeps, Opened.opening_keeps}

pub steps_keep : MachineLaws → (t : Topology) (old new : State) → Invariant t old → Step t old new → Invariant t new
steps_keep laws t old new I (Takes s) = take_keeps laws t old new I s
steps_keep laws t old new I (TakesAtHome s) = take_at_home_keeps laws t old new I s
steps_keep laws t old new I (Publishes s) = publish_keeps t old new I s
steps_keep laws t old new I (Releases s) = release_keeps t old new I s
steps_keep laws t old new I (LinkComes s) = link_up_keeps t old new I s
steps_keep laws t old new I (LinkGoes s) = link_down_keeps t old new I s
steps_keep laws t old new I (CostChanges s) = set_cost_keeps t old new I s
steps_keep laws t old new I (Skips s) = skip_keeps t old new I s

pub run_keeps : MachineLaws → (t : Topology) (first last : State) → Invariant t first → Run t first last → Invariant t last
run_keeps laws t first last I Start = I
run_keeps laws t first last I (Then {middle = b} r s) = steps_keep laws t b last (run_keeps laws t first b I r) s

-- a walk along edges of one kind is one along edges of each wider kind
pub walk_map : (t : Topology) (f g : LinkEnd → Type 0) → ((e : LinkEnd) → f e → g e) → (i : ℕ) (es : List LinkEnd) → IsEdgeWalk t f i es → IsEdgeWalk t g i es
walk_map t f g h i [] w = tt
walk_map t f g h i (e ∷ es) w = (w.0, w.1, h e w.2, walk_map t f g h (t.far e).router es w.3)

-- a router's height: the greater of its feasible distance and its published one
abbrev pub height : State → ℕ → ℕ
height s i = max (s.machine i).fd (s.published_fd i)

-- along a published edge both feasible distances of the far router are below the published one of this router
pub published_lower : (t : Topology) (s : State) → Invariant t s → (e : LinkEnd) → t.valid e ≡ true → PublishedEdge s e → ((s.machine (t.far e).router).fd < s.published_fd e.router) × (s.published_fd (t.far e).router < s.published_fd e.router)
published_lower t s I e v E = (I.links e v E.linked).published_edge_falls (rw E.chosen (and_from (e.port == e.port) (s.session e == s.session e) (eq-eqb e.port e.port refl) (eq-eqb (s.session e) (s.session e) refl)))

-- so the height falls
pub published_falls : (t : Topology) (s : State) → Invariant t s → (e : LinkEnd) → t.valid e ≡ true → PublishedEdge s e → height s (t.far e).router < height s e.router
published_falls t s I e v E = (let h = published_lower t s I e v E in omega (arith, h.0, h.1))

-- along an edge that a machine has chosen the height falls
pub control_falls : (t : Topology) (s : State) → Invariant t s → (e : LinkEnd) → t.valid e ≡ true → ControlEdge s e → height s (t.far e).router < height s e.router
control_falls t s I e v E =
    let m = s.machine e.router in
    let port : is_port e.port m.successor ≡ true = rw E.chosen (eq-eqb e.port e.port refl) in
    let cur : is_current m e.port (s.seen e) (s.session e) ≡ true = and_from (is_up_at m e.port) (s.seen e == s.session e) E.port_up (eq-eqb (s.seen e) (s.session e) E.present) in
    let h = (I.links e v E.linked).control_edge_falls (and_from (is_current m e.port (s.seen e) (s.session e)) (is_port e.port m.successor) cur port) in
    omega (arith, h.0, h.1)

-- along a list of routers the height falls from each to the next
abbrev pub FallsAlong : (ℕ → ℕ) → List ℕ → Type 0
FallsAlong h (i ∷ k ∷ ks) = (h k < h i) × FallsAlong h (k ∷ ks)
FallsAlong h _ = ⊤

-- such a list does not meet a router that is higher than its first
not_met : (h : ℕ → ℕ) (j i : ℕ) (ks : List ℕ) → h i < h j → FallsAlong h (i ∷ ks) → is_met j (i ∷ ks) ≡ false
not_met h j i [] lt f = or_from (j == i) false (ne_eqb j i (λ p. (let q : h j ≡ h i = ap h p in omega (arith, lt, q)))) refl
not_met h j i (k ∷ ks) lt f =
    or_from (j == i) (is_met j (k ∷ ks)) (ne_eqb j i (λ p. (let q : h j ≡ h i = ap h p in omega (arith, lt, q)))) (not_met h j k ks (omega (arith, lt, f.0)) f.1)

-- it meets no router twice
pub falls_distinct : (h : ℕ → ℕ) (ks : List ℕ) → FallsAlong h ks → meets_twice ks ≡ false
falls_distinct h (i ∷ k ∷ ks) f = or_from (is_met i (k ∷ ks)) (meets_twice (k ∷ ks)) (not_met h i k ks f.0 f.1) (falls_distinct h (k ∷ ks) f.1)
falls_distinct h _ f = refl

-- a walk along edges that fall meets such a list
edges_fall : (t : Topology) (edge : LinkEnd → Type 0) (h : ℕ → ℕ) → ((e : LinkEnd) → t.valid e ≡ true → edge e → h (t.far e).router < h e.router)
    → (i : ℕ) (es : List LinkEnd) → IsEdgeWalk t edge i es → FallsAlong h (i ∷ met t es)
edges_fall t edge h f i [] w = tt
edges_fall t edge h f i (e ∷ es) w = (subst (λ (n : ℕ). h (t.far e).router < h n) w.0 (f e w.1 w.2), edges_fall t edge h f (t.far e).router es w.3)

pub walk_distinct : (t : Topology) (edge : LinkEnd → Type 0) (h : ℕ → ℕ) → ((e : LinkEnd) → t.valid e ≡ true → edge e → h (t.far e).router < h e.router)
    → (i : ℕ) (es : List LinkEnd) → IsEdgeWalk t edge i es → meets_twice (i ∷ met t es) ≡ false
walk_distinct t edge h f i es w = falls_distinct h (i ∷ met t es) (edges_fall t edge h f i es w)

-- the invariant rules out loops along published and chosen edges
pub mixed_loop_free : (t : Topology) (s : State) → Invariant t s → MixedLoopFree t s
mixed_loop_free t s I = walk_distinct t (λ e. PublishedEdge s e ⊎ ControlEdge s e) (height s) falls
  where
    falls : (e : LinkEnd) → t.valid e ≡ true → PublishedEdge s e ⊎ ControlEdge s e → height s (t.far e).router < height s e.router
    falls e v (inl p) = published_falls t s I e v p
    falls e v (inr c) = control_falls t s I e v c

-- the invariant rules out loops along published edges
pub published_loop_free : (t : Topology) (s : State) → Invariant t s → PublishedLoopFree t s
published_loop_free t s I = walk_distinct t (PublishedEdge s) (height s) (published_falls t s I)

-- published edges are free of loops in every state of every run
pub always_published : MachineLaws → HoldsInEveryState PublishedLoopFree
always_published laws t first last O r = published_loop_free t last (run_keeps laws t first last (opening_keeps t first O) r)

-- published and chosen edges together are free of loops in every state of every run
pub always_mixed : MachineLaws → HoldsInEveryState MixedLoopFree
always_mixed laws t first last O r = mixed_loop_free t last (run_keeps laws t first last (opening_keeps t first O) r)
