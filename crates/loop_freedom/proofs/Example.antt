-- Each kind of step can be done, and a run of two routers, with a link of cost 7 between them, at the end of which traffic goes out.
use Rattle.std.proofs.Common.{refl, sym, ◌∙◌, ap, subst, arith, inl, inr, ◌≡◌, ℕ, zero, suc, ◌<◌, Bool, true, false, ◌&&◌, ◌||◌, ◌==◌, if◌then◌else◌, List, [], ◌∷◌, ◌++◌, Some, None, slice_get, Option, eqb-true, eq-eqb, ne_eqb}
use Rattle.network_model.proofs.Common.{and_parts, and_from, false_from_ne_true, or_left, or_right, or_from, or_cases, Update, reaction, opening_machine, port_successor, Report, SeenHeld, SeenItem, UpNotice, DownNotice, CostNotice, Reported, LinkEnd, State, at_port, infinity}
use Rattle.network_model.specs.declared.machine.Neighbour.{Neighbour}
use Rattle.machine_laws.specs.Laws.{sent_to}
use Rattle.loop_freedom.specs.Network.{Topology, Take, Publish, Release, LinkUp, LinkDown, SetCost, Takes, Publishes, Releases, LinkComes, Run, Start, Then, Opening, OpeningPorts, PublishedEdge, SomeRouteIsPublished, IsEnd, event_of, seen_after, held_for, next_hop_of, arriving, notices}

-- whether e is the link end a
abbrev pub is_place : LinkEnd → LinkEnd → Bool
is_place a e = (e.router == a.router) && (e.port == a.port)

-- a link end is itself
is_place_same : (a : LinkEnd) → is_place a a ≡ true
is_place_same a = and_from (a.router == a.router) (a.port == a.port) (eq-eqb a.router a.router refl) (eq-eqb a.port a.port refl)

is_place_other : (a e : LinkEnd) → (e ≡ a → ⊥) → is_place a e ≡ false
is_place_other a e d = false_from_ne_true (is_place a e) (λ x.
    let p = and_parts (e.router == a.router) (e.port == a.port) x in
    d (ap (λ (n : ℕ). at_port n e.port) (eqb-true e.router a.router p.0) ∙ ap (λ (n : ℕ). at_port a.router n) (eqb-true e.port a.port p.1)))

-- the value v at one link end, and elsewhere as before
abbrev pub put : {A : Type 0} → LinkEnd → A → (LinkEnd → A) → LinkEnd → A
put a v f e = if is_place a e then v else f e

-- the value at the link end is the new one
put_same : {A : Type 0} (a : LinkEnd) (v : A) (f : LinkEnd → A) → put a v f a ≡ v
put_same a v f = rw (is_place_same a) refl

-- the value at another link end is the old one
put_other : {A : Type 0} (a : LinkEnd) (v : A) (f : LinkEnd → A) (e : LinkEnd) → (e ≡ a → ⊥) → put a v f e ≡ f e
put_other a v f e d = rw (is_place_other a e d) refl

-- the state after an item is taken at end a, where the rest remains
abbrev pub do_take : State → LinkEnd → SeenItem → List SeenItem → State
do_take s a item rest =
    let r = reaction (s.machine a.router) (event_of a.port item) in
    let seen' : LinkEnd → ℕ = put a (seen_after item (s.seen a)) s.seen in
    record s {
      machine = λ i. if i == a.router then r.machine else s.machine i;
      seen = seen';
      inbox = put a rest s.inbox;
      unripe = λ e. if e.router == a.router then s.unripe e ++ held_for (seen' e) (sent_to e.port r.sends) else s.unripe e;
    }

-- an item that waits can be taken
pub takes : (t : Topology) (s : State) (a : LinkEnd) (item : SeenItem) (rest : List SeenItem) → t.valid a ≡ true → s.inbox a ≡ item ∷ rest → Take t s (do_take s a item rest)
takes t s a item rest v h = record {
  a = a;
  item = item;
  valid_place = v;
  inbox_at = rw (put_same a rest s.inbox) h;
  inbox_elsewhere = put_other a rest s.inbox;
  machine_at = rw (eq-eqb a.router a.router refl) refl;
  machine_elsewhere = λ i d. rw (ne_eqb i a.router d) refl;
  seen_at = put_same a (seen_after item (s.seen a)) s.seen;
  seen_elsewhere = put_other a (seen_after item (s.seen a)) s.seen;
  unripe_at = λ e r. rw (eq-eqb e.router a.router r) refl;
  unripe_elsewhere = λ e d. rw (ne_eqb e.router a.router d) refl;
  ripe_same = λ e. refl;
  links = record { up_same = λ e. refl; session_same = λ e. refl };
  costs = record { cost_same = λ e. refl };
  publications = record { published_same = λ i. refl; published_fd_same = λ i. refl };
}

-- the state after router j publishes
abbrev pub do_publish : State → ℕ → State
do_publish s j = record s {
  published = λ i. if i == j then next_hop_of (λ q. s.seen (at_port j q)) (port_successor (s.machine j)) else s.published i;
  published_fd = λ i. if i == j then (s.machine j).fd else s.published_fd i;
  ripe = λ e. if e.router == j then s.ripe e ++ s.unripe e else s.ripe e;
  unripe = λ e. if e.router == j then [] else s.unripe e;
}

-- a router can publish
pub publishes : (t : Topology) (s : State) (j : ℕ) → Publish t s (do_publish s j)
publishes t s j = record {
  j = j;
  published_at = rw (eq-eqb j j refl) refl;
  published_fd_at = rw (eq-eqb j j refl) refl;
  published_elsewhere = λ i d. rw (ne_eqb i j d) refl;
  published_fd_elsewhere = λ i d. rw (ne_eqb i j d) refl;
  ripe_at = λ e r. rw (eq-eqb e.router j r) refl;
  unripe_at = λ e r. rw (eq-eqb e.router j r) refl;
  ripe_elsewhere = λ e d. rw (ne_eqb e.router j d) refl;
  unripe_elsewhere = λ e d. rw (ne_eqb e.router j d) refl;
  machines = record { machine_same = λ i. refl; seen_same = λ e. refl };
  inboxes = record { inbox_same = λ e. refl };
  links = record { up_same = λ e. refl; session_same = λ e. refl };
  costs = record { cost_same = λ e. refl };
}

-- the state after a held message leaves for end a, where the rest remains
abbrev pub do_release : Topology → State → LinkEnd → SeenHeld → List SeenHeld → State
do_release t s a h rest = record s {
  ripe = put a rest s.ripe;
  inbox = put (t.far a) (s.inbox (t.far a) ++ arriving s a h) s.inbox;
}

-- a ripe message can be released
pub releases : (t : Topology) (s : State) (a : LinkEnd) (h : SeenHeld) (rest : List SeenHeld) → t.valid a ≡ true → s.ripe a ≡ h ∷ rest → Release t s (do_release t s a h rest)
releases t s a h rest v e = record {
  a = a;
  first = h;
  valid_place = v;
  ripe_at = rw (put_same a rest s.ripe) e;
  ripe_elsewhere = put_other a rest s.ripe;
  inbox_at = put_same (t.far a) (s.inbox (t.far a) ++ arriving s a h) s.inbox;
  inbox_elsewhere = put_other (t.far a) (s.inbox (t.far a) ++ arriving s a h) s.inbox;
  unripe_same = λ x. refl;
  machines = record { machine_same = λ i. refl; seen_same = λ x. refl };
  links = record { up_same = λ x. refl; session_same = λ x. refl };
  costs = record { cost_same = λ x. refl };
  publications = record { published_same = λ i. refl; published_fd_same = λ i. refl };
}

-- whether e is an end of the link at a
abbrev pub is_end_of : Topology → LinkEnd → LinkEnd → Bool
is_end_of t a e = is_place a e || is_place (t.far a) e

-- an end of the link passes the test
end_true : (t : Topology) (a e : LinkEnd) → IsEnd t a e → is_end_of t a e ≡ true
end_true t a e (inl p) = or_left (is_place a e) (is_place (t.far a) e) (subst (λ (w : LinkEnd). is_place a w ≡ true) (sym p) (is_place_same a))
end_true t a e (inr p) = or_right (is_place a e) (is_place (t.far a) e) (subst (λ (w : LinkEnd). is_place (t.far a) w ≡ true) (sym p) (is_place_same (t.far a)))

-- an end of another link fails the test
end_false : (t : Topology) (a e : LinkEnd) → (IsEnd t a e → ⊥) → is_end_of t a e ≡ false
end_false t a e d = or_from (is_place a e) (is_place (t.far a) e) (is_place_other a e (λ p. d (inl p))) (is_place_other (t.far a) e (λ p. d (inr p)))

-- the state after the link at a comes up
abbrev pub do_link_up : Topology → State → LinkEnd → State
do_link_up t s a = record s {
  up = λ e. if is_end_of t a e then true else s.up e;
  session = λ e. if is_end_of t a e then suc (s.session e) else s.session e;
  inbox = λ e. if is_end_of t a e then s.inbox e ++ UpNotice (suc (s.session e)) (s.cost e) ∷ [] else s.inbox e;
}

-- a link that is down can come up
pub comes_up : (t : Topology) (s : State) (a : LinkEnd) → t.valid a ≡ true → s.up a ≡ false → LinkUp t s (do_link_up t s a)
comes_up t s a v d = record {
  a = a;
  valid_place = v;
  was_down = d;
  up_at = λ e x. rw (end_true t a e x) refl;
  session_at = λ e x. rw (end_true t a e x) refl;
  inbox_at = λ e x. rw (end_true t a e x) refl;
  up_elsewhere = λ e x. rw (end_false t a e x) refl;
  session_elsewhere = λ e x. rw (end_false t a e x) refl;
  inbox_elsewhere = λ e x. rw (end_false t a e x) refl;
  machines = record { machine_same = λ i. refl; seen_same = λ x. refl };
  holdings = record { ripe_same = λ e. refl; unripe_same = λ e. refl };
  costs = record { cost_same = λ x. refl };
  publications = record { published_same = λ i. refl; published_fd_same = λ i. refl };
}

-- the state after the link at a goes down
abbrev pub do_link_down : Topology → State → LinkEnd → State
do_link_down t s a = record s {
  up = λ e. if is_end_of t a e then false else s.up e;
  inbox = λ e. if is_end_of t a e then notices (s.inbox e) ++ DownNotice (s.session e) ∷ [] else s.inbox e;
}

-- a link that is up can go down
pub goes_down : (t : Topology) (s : State) (a : LinkEnd) → t.valid a ≡ true → s.up a ≡ true → LinkDown t s (do_link_down t s a)
goes_down t s a v d = record {
  a = a;
  valid_place = v;
  was_up = d;
  up_at = λ e x. rw (end_true t a e x) refl;
  inbox_at = λ e x. rw (end_true t a e x) refl;
  up_elsewhere = λ e x. rw (end_false t a e x) refl;
  inbox_elsewhere = λ e x. rw (end_false t a e x) refl;
  session_same = λ e. refl;
  machines = record { machine_same = λ i. refl; seen_same = λ x. refl };
  holdings = record { ripe_same = λ e. refl; unripe_same = λ e. refl };
  costs = record { cost_same = λ x. refl };
  publications = record { published_same = λ i. refl; published_fd_same = λ i. refl };
}

-- the state after the cost from end a is set
abbrev pub do_set_cost : State → LinkEnd → ℕ → State
do_set_cost s a c = record s { cost = put a c s.cost; inbox = put a (s.inbox a ++ CostNotice (s.session a) c ∷ []) s.inbox }

-- a positive cost can be set on a link that is up
pub sets_cost : (t : Topology) (s : State) (a : LinkEnd) (c : ℕ) → t.valid a ≡ true → s.up a ≡ true → 0 < c → SetCost t s (do_set_cost s a c)
sets_cost t s a c v u p = record {
  a = a;
  valid_place = v;
  was_up = u;
  positive = rw (put_same a c s.cost) p;
  cost_elsewhere = put_other a c s.cost;
  inbox_at = rw (put_same a c s.cost) (put_same a (s.inbox a ++ CostNotice (s.session a) c ∷ []) s.inbox);
  inbox_elsewhere = put_other a (s.inbox a ++ CostNotice (s.session a) c ∷ []) s.inbox;
  machines = record { machine_same = λ i. refl; seen_same = λ x. refl };
  holdings = record { ripe_same = λ e. refl; unripe_same = λ e. refl };
  links = record { up_same = λ x. refl; session_same = λ x. refl };
  publications = record { published_same = λ i. refl; published_fd_same = λ i. refl };
}

-- the link ends of two routers and the link between them; router 0 owns the destination
abbrev is_there : LinkEnd → Bool
is_there e = ((e.router == 0) || (e.router == 1)) && (e.port == 0)

abbrev across : LinkEnd → LinkEnd
across e = if e.router == 0 then at_port 1 0 else at_port 0 0

-- the end across the link is there
pub across_valid : (b : Bool) → is_there (if b then at_port 1 0 else at_port 0 0) ≡ true
across_valid true = refl
across_valid false = refl

-- an end that is there is at port 0
pub port_zero : (e : LinkEnd) → is_there e ≡ true → e.port ≡ 0
port_zero e v = eqb-true e.port 0 ((and_parts ((e.router == 0) || (e.router == 1)) (e.port == 0) v).1)

-- across the link and back is the same end
pub across_twice : (e : LinkEnd) → is_there e ≡ true → across (across e) ≡ e
across_twice e v =
    let p : e.port ≡ 0 = port_zero e v in
    elim (or_cases (e.router == 0) (e.router == 1) ((and_parts ((e.router == 0) || (e.router == 1)) (e.port == 0) v).0)) [
      | inl b ↦ rw b (ap (λ (n : ℕ). at_port n 0) (sym (eqb-true e.router 0 b)) ∙ ap (λ (n : ℕ). at_port e.router n) (sym p))
      | inr b ↦ one e.router b (ap (λ (n : ℕ). at_port 1 n) (sym p))
    ]
  where
    one : (r : ℕ) → (r == 1) ≡ true → at_port 1 0 ≡ at_port 1 e.port → across (across (at_port r e.port)) ≡ at_port r e.port
    one r b h = subst (λ (n : ℕ). across (across (at_port n e.port)) ≡ at_port n e.port) (sym (eqb-true r 1 b)) h

-- the two routers and their link
abbrev pub pair : Topology
pair = record { far = across; valid = is_there; far_valid = λ e v. across_valid (e.router == 0); far_far = across_twice }

-- a port at the opening
abbrev down_port : Neighbour
down_port = record { up = false; cost = 1; reported = infinity }

-- that port is as ports are at the opening
down_ports : OpeningPorts (down_port ∷ [])
down_ports = record { ports_down = downs; ports_cost = costs; ports_report = reports }
  where
    downs : (p : ℕ) (n : Neighbour) → slice_get (down_port ∷ []) p ≡ Some n → n.up ≡ false
    downs zero n e = let f : down_port ≡ n = cc in ap (λ (x : Neighbour). x.up) (sym f)
    downs (suc p) n e = cc

    costs : (p : ℕ) (n : Neighbour) → slice_get (down_port ∷ []) p ≡ Some n → 0 < n.cost
    costs zero n e = let f : down_port ≡ n = cc in let g : n.cost ≡ 1 = ap (λ (x : Neighbour). x.cost) (sym f) in omega (arith, g)
    costs (suc p) n e = cc

    reports : (p : ℕ) (n : Neighbour) → slice_get (down_port ∷ []) p ≡ Some n → n.reported ≡ infinity
    reports zero n e = let f : down_port ≡ n = cc in ap (λ (x : Neighbour). x.reported) (sym f)
    reports (suc p) n e = cc

-- router 0 alone is attached, at cost 1
abbrev pub home_if : Bool → Option ℕ
home_if true = Some 1
home_if false = None

abbrev pub home : ℕ → Option ℕ
home i = home_if (i == 0)

-- that is a cost
home_range : (b : Bool) (c : ℕ) → home_if b ≡ Some c → (0 < c) × (c < infinity)
home_range true c e = let f : 1 ≡ c = cc in (omega (arith, f), omega (arith, f))
home_range false c e = cc

-- the opening of the two routers
abbrev pub s0 : State
s0 = record {
  machine = λ i. opening_machine (home i) (down_port ∷ []);
  seen = λ e. 0;
  up = λ e. false;
  session = λ e. 0;
  cost = λ e. 7;
  inbox = λ e. [];
  ripe = λ e. [];
  unripe = λ e. [];
  published = λ i. None;
  published_fd = λ i. (opening_machine (home i) (down_port ∷ [])).fd;
}

pub opens : Opening pair s0
opens = record {
  attachment = home;
  attachment_range = λ i. home_range (i == 0);
  ports = λ i. down_port ∷ [];
  opening_ports = λ i. down_ports;
  ports_there = λ e v. (let p = port_zero e v in omega (arith, p));
  machines = λ i. refl;
  seen_none = λ e. refl;
  all_down = λ e. refl;
  session_none = λ e. refl;
  cost_positive = λ e v. omega arith;
  inbox_empty = λ e. refl;
  ripe_empty = λ e. refl;
  unripe_empty = λ e. refl;
  nothing_published = λ i. refl;
  opening_fd = λ i. refl;
}

-- the attached router's end of the link
abbrev pub here : LinkEnd
here = at_port 0 0

-- the other router's end of the link
abbrev pub beyond : LinkEnd
beyond = at_port 1 0

-- the attached router's message: it is at distance 1
abbrev one_away : Report
one_away = record { kind = Update; value = 1 }

-- the link has come up
abbrev s1 : State
s1 = do_link_up pair s0 here

-- the attached router has taken the notice
abbrev s2 : State
s2 = do_take s1 here (UpNotice 1 7) []

-- the other router has taken the notice
abbrev s3 : State
s3 = do_take s2 beyond (UpNotice 1 7) []

-- the attached router has published
abbrev s4 : State
s4 = do_publish s3 0

-- the attached router has released its message
abbrev s5 : State
s5 = do_release pair s4 here (record { session = 1; message = one_away }) []

-- the other router has taken the message
abbrev s6 : State
s6 = do_take s5 beyond (Reported one_away) []

-- the other router has published
abbrev pub s7 : State
s7 = do_publish s6 1

-- the steps lead from the opening to the last state
pub reaches : Run pair s0 s7
reaches = Then (Then (Then (Then (Then (Then (Then Start
    (LinkComes (comes_up pair s0 here refl refl)))
    (Takes (takes pair s1 here (UpNotice 1 7) [] refl refl)))
    (Takes (takes pair s2 beyond (UpNotice 1 7) [] refl refl)))
    (Publishes (publishes pair s3 0)))
    (Releases (releases pair s4 here (record { session = 1; message = one_away }) [] refl refl)))
    (Takes (takes pair s5 beyond (Reported one_away) [] refl refl)))
    (Publishes (publishes pair s6 1))

-- the other router sends traffic to the attached router
pub routes : PublishedEdge s7 beyond
routes = record { linked = refl; chosen = refl }

-- some run leads to a route
pub some_route : SomeRouteIsPublished
some_route = (pair, s0, s7, beyond, refl, opens, reaches, routes)
