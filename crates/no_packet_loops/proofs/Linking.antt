-- A link that comes up, goes down or has a new cost does so in the view.
use Rattle.std.proofs.Common.{refl, ap, ◌∙◌, arith, ◌≡◌, ℕ, ◌+◌, ◌≤◌, true, false, List, [], ◌∷◌, ◌++◌, Some, is_some, slice_get, filter}
use Rattle.no_packet_loops.proofs.Common.{Prefix, changed_at, Item, End, A, B, Side, Link, World, Network, side, Place, next, link_come_up, link_gone_down, with_cost, is_notice, place_of, LinkEnd, SeenItem, UpNotice, DownNotice, CostNotice, view, heard, inbox_of, lay, LinkUp, LinkDown}
use Rattle.loop_freedom.specs.Network.{LinkComes, LinkGoes, CostChanges, LinkUp as NetLinkUp, LinkDown as NetLinkDown, SetCost as NetSetCost, IsEnd, notices}
use Rattle.no_packet_loops.proofs.{Wiring.IsWired, Places.spot, Places.lay-spot, Places.topology}
use Rattle.no_packet_loops.proofs.View.{heard-append, heard-notices, on_link-there, on_link-hit, on_link-miss, on_link-same}
use Rattle.no_packet_loops.proofs.Kept.{WorldKept, StepKept, with_links, changed_side-ends, changed_beside, up_beside, session_beside, specified, on_link, off_link, other_end}

-- a link that comes up keeps the cost from each end
cost_up : (e : End) (k : Link) → (side e (link_come_up k)).cost ≡ (side e k).cost
cost_up A k = refl
cost_up B k = refl

-- a link that comes up has one item more for each end: Up, with the next session and the cost from there
inbox_up : (e : End) (k : Link) → (side e (link_come_up k)).inbox ≡ (side e k).inbox ++ Item.Up (k.session + 1) (side e k).cost ∷ []
inbox_up A k = refl
inbox_up B k = refl

-- a link that goes down keeps the cost from each end
cost_down : (e : End) (k : Link) → (side e (link_gone_down k)).cost ≡ (side e k).cost
cost_down A k = refl
cost_down B k = refl

-- a link that goes down has for each end the notices in order, and Down with its session
inbox_down : (e : End) (k : Link) → (side e (link_gone_down k)).inbox ≡ filter is_notice (side e k).inbox ++ Item.Down k.session ∷ []
inbox_down A k = refl
inbox_down B k = refl

-- equal inboxes with equal Up notices more are equal
up_notice : (i x : List SeenItem) (s s' c c' : ℕ) → i ≡ x → s ≡ s' → c ≡ c' → x ++ UpNotice s' c' ∷ [] ≡ i ++ UpNotice s c ∷ []
up_notice i x s s' c c' a b d = cc

-- the notices of equal inboxes with equal Down notices more are equal
down_notice : (i x : List SeenItem) (s s' : ℕ) → i ≡ x → s ≡ s' → notices x ++ DownNotice s' ∷ [] ≡ notices i ++ DownNotice s ∷ []
down_notice i x s s' a b = cc

module _ (n : Network) (N : IsWired n) (p : Prefix) (w : World) (pfd : ℕ → ℕ) (K : WorldKept n p w) (l : ℕ) (k : Link) (at : slice_get w.links l ≡ Some k) where
  -- one end of link l
  abbrev x0 : Place
  x0 = place_of l A

  -- the port at that end
  abbrev here : LinkEnd
  here = spot n x0

  -- that port lies there
  laid_here : lay n here ≡ Some x0
  laid_here = let S = specified n p w K l k at in lay-spot n N x0 S.spec S.is_link

  -- the world once link l is up
  abbrev v_up : World
  v_up = next w (LinkUp l)

  -- both ends of the link are in the next session then
  session_is_up : (e : LinkEnd) → IsEnd (topology n N) here e → (view n p v_up pfd).session e ≡ k.session + 1
  session_is_up e E = let O = on_link n N here x0 laid_here e E in on_link-hit (λ en y. y.session) 0 w.links link_come_up l (lay n e) O.place k O.laid_at O.link_is at

  -- both ends of the link were in its session before
  session_was_up : (e : LinkEnd) → IsEnd (topology n N) here e → (view n p w pfd).session e ≡ k.session
  session_was_up e E = let O = on_link n N here x0 laid_here e E in on_link-there (λ en y. y.session) 0 w.links (lay n e) O.place k O.laid_at (ap (slice_get w.links) O.link_is ∙ at)

  -- both ends of the link have an Up notice more to take, with the session and the cost of the view
  inbox_is_up : (e : LinkEnd) → IsEnd (topology n N) here e → (view n p v_up pfd).inbox e ≡ (view n p w pfd).inbox e ++ UpNotice ((view n p v_up pfd).session e) ((view n p v_up pfd).cost e) ∷ []
  inbox_is_up e E =
      let O = on_link n N here x0 laid_here e E in
      let there : slice_get w.links (O.place).link ≡ Some k = ap (slice_get w.links) O.link_is ∙ at in
      on_link-hit (inbox_of p) [] w.links link_come_up l (lay n e) O.place k O.laid_at O.link_is at
      ∙ ap (heard p) (inbox_up (O.place).end k)
      ∙ heard-append p (side (O.place).end k).inbox (Item.Up (k.session + 1) (side (O.place).end k).cost ∷ [])
      ∙ up_notice ((view n p w pfd).inbox e) (inbox_of p (O.place).end k) ((view n p v_up pfd).session e) (k.session + 1) ((view n p v_up pfd).cost e) (side (O.place).end k).cost
      (on_link-there (inbox_of p) [] w.links (lay n e) O.place k O.laid_at there)
      (session_is_up e E)
      (on_link-hit (λ en y. (side en y).cost) 0 w.links link_come_up l (lay n e) O.place k O.laid_at O.link_is at ∙ cost_up (O.place).end k)

  -- a link that comes up does so in the view
  net_up : k.up ≡ false → NetLinkUp (topology n N) (view n p w pfd) (view n p v_up pfd)
  net_up down = record {
    a = here;
    valid_place = ap is_some laid_here;
    was_down = on_link-there (λ en y. y.up) false w.links (lay n here) x0 k laid_here at ∙ down;
    up_at = λ e E. (let O = on_link n N here x0 laid_here e E in on_link-hit (λ en y. y.up) false w.links link_come_up l (lay n e) O.place k O.laid_at O.link_is at);
    session_at = λ e E. (let s = session_is_up e E in let o = session_was_up e E in omega (arith, s, o));
    inbox_at = inbox_is_up;
    up_elsewhere = λ e E. on_link-miss (λ en y. y.up) false w.links link_come_up l (lay n e) (off_link n N here x0 laid_here e E);
    session_elsewhere = λ e E. on_link-miss (λ en y. y.session) 0 w.links link_come_up l (lay n e) (off_link n N here x0 laid_here e E);
    inbox_elsewhere = λ e E. on_link-miss (inbox_of p) [] w.links link_come_up l (lay n e) (off_link n N here x0 laid_here e E);
    machines = record { machine_same = λ i. refl; seen_same = λ e. refl };
    holdings = record { ripe_same = λ e. refl; unripe_same = λ e. refl };
    costs = record { cost_same = λ e. on_link-same (λ en y. (side en y).cost) 0 w.links link_come_up l (lay n e) (λ y j is link there. cost_up y.end j) };
    publications = record { published_same = λ i. refl; published_fd_same = λ i. refl };
  }

  -- the step LinkUp is one of the view, and keeps what a world keeps
  pub link_up : k.up ≡ false → StepKept n N p w pfd (next w (LinkUp l)) pfd
  link_up down = record { kept = with_links n p w l link_come_up (λ x. refl) K; step = LinkComes (net_up down) }

  -- the world once link l is down
  abbrev v_down : World
  v_down = next w (LinkDown l)

  -- both ends of the link have their notices and a Down notice to take
  inbox_is_down : (e : LinkEnd) → IsEnd (topology n N) here e → (view n p v_down pfd).inbox e ≡ notices ((view n p w pfd).inbox e) ++ DownNotice ((view n p w pfd).session e) ∷ []
  inbox_is_down e E =
      let O = on_link n N here x0 laid_here e E in
      let there : slice_get w.links (O.place).link ≡ Some k = ap (slice_get w.links) O.link_is ∙ at in
      on_link-hit (inbox_of p) [] w.links link_gone_down l (lay n e) O.place k O.laid_at O.link_is at
      ∙ ap (heard p) (inbox_down (O.place).end k)
      ∙ heard-append p (filter is_notice (side (O.place).end k).inbox) (Item.Down k.session ∷ [])
      ∙ ap (λ xs. xs ++ DownNotice k.session ∷ []) (heard-notices p (side (O.place).end k).inbox)
      ∙ down_notice ((view n p w pfd).inbox e) (inbox_of p (O.place).end k) ((view n p w pfd).session e) k.session
      (on_link-there (inbox_of p) [] w.links (lay n e) O.place k O.laid_at there)
      (on_link-there (λ en y. y.session) 0 w.links (lay n e) O.place k O.laid_at there)

  -- a link that goes down does so in the view
  net_down : k.up ≡ true → NetLinkDown (topology n N) (view n p w pfd) (view n p v_down pfd)
  net_down was = record {
    a = here;
    valid_place = ap is_some laid_here;
    was_up = on_link-there (λ en y. y.up) false w.links (lay n here) x0 k laid_here at ∙ was;
    up_at = λ e E. (let O = on_link n N here x0 laid_here e E in on_link-hit (λ en y. y.up) false w.links link_gone_down l (lay n e) O.place k O.laid_at O.link_is at);
    inbox_at = inbox_is_down;
    up_elsewhere = λ e E. on_link-miss (λ en y. y.up) false w.links link_gone_down l (lay n e) (off_link n N here x0 laid_here e E);
    inbox_elsewhere = λ e E. on_link-miss (inbox_of p) [] w.links link_gone_down l (lay n e) (off_link n N here x0 laid_here e E);
    session_same = λ e. on_link-same (λ en y. y.session) 0 w.links link_gone_down l (lay n e) (λ y j is link there. refl);
    machines = record { machine_same = λ i. refl; seen_same = λ e. refl };
    holdings = record { ripe_same = λ e. refl; unripe_same = λ e. refl };
    costs = record { cost_same = λ e. on_link-same (λ en y. (side en y).cost) 0 w.links link_gone_down l (lay n e) (λ y j is link there. cost_down y.end j) };
    publications = record { published_same = λ i. refl; published_fd_same = λ i. refl };
  }

  -- the step LinkDown is one of the view, and keeps what a world keeps
  pub link_down : k.up ≡ true → StepKept n N p w pfd (next w (LinkDown l)) pfd
  link_down was = record { kept = with_links n p w l link_gone_down (λ x. refl) K; step = LinkGoes (net_down was) }

-- ---- a new cost

-- the cost from the end at which it was set is the one that was set
cost_set : (c : ℕ) (e : End) (k : Link) → (side e (with_cost c e k)).cost ≡ c
cost_set c A k = refl
cost_set c B k = refl

-- that end has a Cost notice more to take
inbox_set : (c : ℕ) (e : End) (k : Link) → (side e (with_cost c e k)).inbox ≡ (side e k).inbox ++ Item.Cost k.session c ∷ []
inbox_set c A k = refl
inbox_set c B k = refl

-- equal inboxes with equal Cost notices more are equal
cost_notice : (i x : List SeenItem) (s s' c c' : ℕ) → i ≡ x → s ≡ s' → c ≡ c' → x ++ CostNotice s' c' ∷ [] ≡ i ++ CostNotice s c ∷ []
cost_notice i x s s' c c' a b d = cc

module _ (n : Network) (N : IsWired n) (p : Prefix) (w : World) (pfd : ℕ → ℕ) (K : WorldKept n p w) (a : LinkEnd) (x0 : Place) (laid_a : lay n a ≡ Some x0) (k : Link) (at : slice_get w.links x0.link ≡ Some k) (cost : ℕ) where
  -- the world once the cost from port a is set
  abbrev v_cost : World
  v_cost = record w { links = changed_at x0.link (with_cost cost x0.end) w.links }

  -- the view shows the cost that was set
  cost_is : (view n p v_cost pfd).cost a ≡ cost
  cost_is = on_link-hit (λ en y. (side en y).cost) 0 w.links (with_cost cost x0.end) x0.link (lay n a) x0 k laid_a refl at ∙ cost_set cost x0.end k

  -- the other end of the link stays as it was
  beside_cost : (e : LinkEnd) → (e ≡ a → ⊥) → (y : Place) (j : Link) → lay n e ≡ Some y → y.link ≡ x0.link → side y.end (with_cost cost x0.end j) ≡ side y.end j
  beside_cost e apart y j is link = changed_beside x0.end y.end (λ s. record s { cost = cost; inbox = s.inbox ++ Item.Cost j.session cost ∷ [] }) j (other_end n N a x0 laid_a e apart y is link)

  -- port a has a Cost notice more to take, with the session and the cost of the view
  inbox_is_cost : (view n p v_cost pfd).inbox a ≡ (view n p w pfd).inbox a ++ CostNotice ((view n p w pfd).session a) ((view n p v_cost pfd).cost a) ∷ []
  inbox_is_cost =
      on_link-hit (inbox_of p) [] w.links (with_cost cost x0.end) x0.link (lay n a) x0 k laid_a refl at
      ∙ ap (heard p) (inbox_set cost x0.end k)
      ∙ heard-append p (side x0.end k).inbox (Item.Cost k.session cost ∷ [])
      ∙ cost_notice ((view n p w pfd).inbox a) (inbox_of p x0.end k) ((view n p w pfd).session a) k.session ((view n p v_cost pfd).cost a) cost
      (on_link-there (inbox_of p) [] w.links (lay n a) x0 k laid_a at)
      (on_link-there (λ en y. y.session) 0 w.links (lay n a) x0 k laid_a at)
      cost_is

  -- a cost that is set is set in the view
  net_cost : k.up ≡ true → 1 ≤ cost → NetSetCost (topology n N) (view n p w pfd) (view n p v_cost pfd)
  net_cost was positive = record {
    a = a;
    valid_place = ap is_some laid_a;
    was_up = on_link-there (λ en y. y.up) false w.links (lay n a) x0 k laid_a at ∙ was;
    positive = (let c = cost_is in omega (arith, c, positive));
    cost_elsewhere = λ e apart. on_link-same (λ en y. (side en y).cost) 0 w.links (with_cost cost x0.end) x0.link (lay n e) (λ y j is link there. ap (λ (s : Side). s.cost) (beside_cost e apart y j is link));
    inbox_at = inbox_is_cost;
    inbox_elsewhere = λ e apart. on_link-same (inbox_of p) [] w.links (with_cost cost x0.end) x0.link (lay n e) (λ y j is link there. ap (λ (s : Side). heard p s.inbox) (beside_cost e apart y j is link));
    machines = record { machine_same = λ i. refl; seen_same = λ e. refl };
    holdings = record { ripe_same = λ e. refl; unripe_same = λ e. refl };
    links = record {
      up_same = λ e. on_link-same (λ en y. y.up) false w.links (with_cost cost x0.end) x0.link (lay n e) (λ y j is link there. up_beside x0.end (λ s. record s { cost = cost; inbox = s.inbox ++ Item.Cost j.session cost ∷ [] }) j);
      session_same = λ e. on_link-same (λ en y. y.session) 0 w.links (with_cost cost x0.end) x0.link (lay n e) (λ y j is link there. session_beside x0.end (λ s. record s { cost = cost; inbox = s.inbox ++ Item.Cost j.session cost ∷ [] }) j);
    };
    publications = record { published_same = λ i. refl; published_fd_same = λ i. refl };
  }

  -- the step SetCost is one of the view, and keeps what a world keeps
  pub cost_set_at : k.up ≡ true → 1 ≤ cost → StepKept n N p w pfd v_cost pfd
  cost_set_at was positive = record {
    kept = with_links n p w x0.link (with_cost cost x0.end) (λ j. changed_side-ends x0.end (λ s. record s { cost = cost; inbox = s.inbox ++ Item.Cost j.session cost ∷ [] }) j (λ s. refl)) K;
    step = CostChanges (net_cost was positive);
  }
