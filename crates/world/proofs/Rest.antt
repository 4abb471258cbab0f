-- A step changes how much of a network is not at rest by what it makes of one link and one router.
use Rattle.std.proofs.Common.{refl, sym, ap, ◌∙◌, arith, ◌≡◌, ℕ, zero, suc, ◌+◌, ◌≤◌, Bool, true, false, not, ◌&&◌, ◌==◌, cond, ◌||◌, nat_lt, List, [], ◌∷◌, filter, length, map, Option, Some, None, option_map, option_and_then, slice_get, Contains, ne_eqb}
use Rattle.no_packet_loops.proofs.Common.{list_all, most_links, most_routers, range_with_len, option_map_or, length-map, length-map-range_with_len, Prefix, prefix_cmp, Contains-first, Contains-later, distinct_from_sorted, row_of-row, Held, Entry, Local, End, Place, changed_at, Link, Router, Attachments, World, Network, place_at, opening, opening_link, opening_router_of, costs_of, next, link_come_up, link_gone_down, with_cost, with_front_taken, with_message, with_delivered, with_noticed, with_released, with_attachment, without_attachment, with_notice_taken, changed_link, changed_router, changed_attachments, router_accepting, router_at_home, router_publishing, router_releasing, front_at, notice_at, release_at, is_due, changed_rows, has_row, entry_eq, is_quiet_link, has_no_notice, is_settled, option_map_or-ind, entry_eq-refl, sorted-map, sorted-rows_of, routers-changed_link, one_if, Step, LinkUp, LinkDown, SetCost, Deliver, Publish, Release, Attach, Detach, opening_machine, is_sorted, session_at, neighbours, offered_hops, NextHop}
use Rattle.no_packet_loops.proofs.WorldLaws.{SameShape, next-shape}
use Rattle.world.specs.{declared.touched.Touched.Touched, Touched.touched_by, Touched.unrest_at}
use Rattle.world.specs.Rest.{has_notice, is_busy, is_restless, count_passing, unrest, link_number, passes_at, IsWatched}
use Rattle.network_model.specs.{NextHops.hops_eq, Step.has_hops}
use Rattle.network_model.proofs.HopLaws.{hops_eq-refl, offered_sorted}

-- ---- counts

count-first : {A : Type 0} (test : A → Bool) (x : A) (xs : List A) → count_passing test (x ∷ xs) ≡ one_if (test x) + count_passing test xs
count-first test x xs = by_test (test x)
  where
    by_test : (b : Bool) → length (cond b (x ∷ filter test xs) (filter test xs)) ≡ one_if b + count_passing test xs
    by_test true = omega arith
    by_test false = omega arith

-- a change of one element changes the count by that element
count-changed : {A : Type 0} (test : A → Bool) (f : A → A) (k : ℕ) (xs : List A)
    → count_passing test (changed_at k f xs) + one_if (option_map_or test (slice_get xs k) false) ≡ count_passing test xs + one_if (option_map_or test (slice_get (changed_at k f xs) k) false)
count-changed test f k [] = refl
count-changed test f zero (x ∷ xs) =
    let old = count-first test x xs in
    let new = count-first test (f x) xs in
    omega (arith, old, new)
count-changed test f (suc k) (x ∷ xs) =
    let old = count-first test x xs in
    let new = count-first test x (changed_at k f xs) in
    let rest = count-changed test f k xs in
    omega (arith, old, new, rest)

count-few : {A : Type 0} (test : A → Bool) (xs : List A) → count_passing test xs ≤ length xs
count-few test [] = omega arith
count-few test (x ∷ xs) = by_test (test x) (count-first test x xs) (count-few test xs)
  where
    by_test : (b : Bool) → count_passing test (x ∷ xs) ≡ one_if b + count_passing test xs → count_passing test xs ≤ length xs → count_passing test (x ∷ xs) ≤ length (x ∷ xs)
    by_test true first rest = omega (arith, first, rest)
    by_test false first rest = omega (arith, first, rest)

count-there : {A : Type 0} (test : A → Bool) (xs : List A) (k : ℕ) → one_if (option_map_or test (slice_get xs k) false) ≤ count_passing test xs
count-there test [] k = omega arith
count-there test (x ∷ xs) zero = let first = count-first test x xs in omega (arith, first)
count-there test (x ∷ xs) (suc k) =
    let first = count-first test x xs in
    let rest = count-there test xs k in
    omega (arith, first, rest)

passing-few : {A : Type 0} (test : A → Bool) (xs : List A) (o : Option ℕ) → one_if (passes_at test xs o) ≤ count_passing test xs
passing-few test xs None = omega arith
passing-few test xs (Some k) = count-there test xs k

-- none is counted where each fails
count-none : {A B : Type 0} (test : B → Bool) (f : A → B) (xs : List A) → ((x : A) → test (f x) ≡ false) → count_passing test (map f xs) ≡ 0
count-none test f [] fails = refl
count-none test f (x ∷ xs) fails =
    let first = count-first test (f x) (map f xs) in
    let rest = count-none test f xs fails in
    let none : one_if (test (f x)) ≡ 0 = ap one_if (fails x) in
    omega (arith, first, rest, none)

-- nothing is counted where all pass the opposite
count-all : {A : Type 0} (test quiet : A → Bool) → ((x : A) → test x ≡ not (quiet x)) → (xs : List A) → (count_passing test xs == 0) ≡ list_all quiet xs
count-all test quiet opposite [] = refl
count-all test quiet opposite (x ∷ xs) =
    ap (λ (n : ℕ). n == 0) (count-first test x xs) ∙ ap (λ b. (one_if b + count_passing test xs) == 0) (opposite x) ∙ by_quiet (quiet x) (count-all test quiet opposite xs)
  where
    by_quiet : (b : Bool) → (count_passing test xs == 0) ≡ list_all quiet xs → ((one_if (not b) + count_passing test xs) == 0) ≡ (b && list_all quiet xs)
    by_quiet true rest = (let same : 0 + count_passing test xs ≡ count_passing test xs = omega arith in ap (λ (n : ℕ). n == 0) same) ∙ rest
    by_quiet false rest = ne_eqb (1 + count_passing test xs) 0 (λ e. omega (arith, e))

sum-zero : (a b : ℕ) → ((a + b) == 0) ≡ ((a == 0) && (b == 0))
sum-zero zero b = let same : 0 + b ≡ b = omega arith in ap (λ (n : ℕ). n == 0) same
sum-zero (suc a) b = ne_eqb (suc a + b) 0 (λ e. omega (arith, e)) ∙ ap (λ x. x && (b == 0)) (sym (ne_eqb (suc a) 0 (λ e. omega (arith, e))))

-- ---- worlds

-- nothing is left to do where nothing is counted
pub settled : (w : World) → (unrest w == 0) ≡ is_settled w
settled w =
    sum-zero (count_passing is_busy w.links + count_passing has_notice w.attachments) (count_passing is_restless w.routers)
    ∙ ap (λ b. b && (count_passing is_restless w.routers == 0)) (sum-zero (count_passing is_busy w.links) (count_passing has_notice w.attachments))
    ∙ ap (λ b. (b && (count_passing has_notice w.attachments == 0)) && (count_passing is_restless w.routers == 0)) (count-all is_busy is_quiet_link (λ k. refl) w.links)
    ∙ ap (λ b. (list_all is_quiet_link w.links && b) && (count_passing is_restless w.routers == 0)) (count-all has_notice has_no_notice (λ a. refl) w.attachments)
    ∙ ap (λ b. list_all is_quiet_link w.links && list_all has_no_notice w.attachments && b) (count-all is_restless (λ r. not (is_due r) && not (nat_lt 0 (r.gate).ripe)) (λ r. neither (is_due r) (nat_lt 0 (r.gate).ripe)) w.routers)
  where
    neither : (a b : Bool) → (a || b) ≡ not (not a && not b)
    neither true b = refl
    neither false true = refl
    neither false false = refl

-- where each row fails, none is left
filter-none : {V : Type 0} (test : Prefix × V → Bool) (rows : List (Prefix × V)) → ((r : Prefix × V) → Contains rows r → test r ≡ false) → filter test rows ≡ []
filter-none test [] fails = refl
filter-none test (r ∷ rows) fails =
    ap (λ b. cond b (r ∷ filter test rows) (filter test rows)) (fails r (Contains-first r rows)) ∙ filter-none test rows (λ x h. fails x (Contains-later r rows x h))

-- rows that are published do not differ
none_changed : (rows : List (Prefix × Entry)) → is_sorted prefix_cmp rows ≡ true → changed_rows (record { control = rows; published = rows }) ≡ []
none_changed rows sorted = filter-none (λ r. not (has_row rows r)) rows (λ r h.
    ap (λ o. not (option_map_or (λ e. entry_eq e r.1) o false)) (row_of-row rows r (distinct_from_sorted rows sorted) h) ∙ ap not (entry_eq-refl r.1))

-- nor do next hops
no_hops_changed : (rows : List (Prefix × List NextHop)) → is_sorted prefix_cmp rows ≡ true → filter (λ x. not (has_hops rows x)) rows ≡ []
no_hops_changed rows sorted = filter-none (λ x. not (has_hops rows x)) rows (λ x h.
    ap (λ o. not (option_map_or (λ hs. hops_eq hs x.1) o false)) (row_of-row rows x (distinct_from_sorted rows sorted) h) ∙ ap not (hops_eq-refl x.1))

opening_router-rests : (n : Network) (i : ℕ) → is_restless (opening_router_of n i) ≡ false
opening_router-rests n i =
    let r = opening_router_of n i in
    let costs : is_sorted prefix_cmp (costs_of n i) ≡ true = sorted-rows_of (map (λ a. (a.0, a.2)) (filter (λ a. a.1 == i) n.attachments)) in
    let machines : is_sorted prefix_cmp r.machines ≡ true = sorted-map prefix_cmp (λ (c : ℕ). opening_machine (Some c) (neighbours r.ports)) (costs_of n i) ∙ costs in
    ap (λ hs. (nat_lt 0 (length hs) || nat_lt 0 (length (changed_rows r.table)) || nat_lt 0 0) || nat_lt 0 0) (no_hops_changed (offered_hops r) (offered_sorted n.offer (session_at r.ports) r.machines machines))
    ∙ ap (λ xs. (nat_lt 0 (length xs) || nat_lt 0 0) || nat_lt 0 0) (none_changed (map (λ a. (a.0, Local)) (costs_of n i)) (sorted-map prefix_cmp (λ (c : ℕ). Local) (costs_of n i) ∙ costs))

-- a network that opens is at rest
pub opening-rests : (n : Network) → unrest (opening n) ≡ 0
opening-rests n =
    let links = count-none is_busy opening_link n.links (λ s. refl) in
    let notices = count-none has_notice (λ i. record { costs = costs_of n i; notices = [] }) (range_with_len 0 n.routers) (λ i. refl) in
    let routers = count-none is_restless (opening_router_of n) (range_with_len 0 n.routers) (opening_router-rests n) in
    omega (arith, links, notices, routers)

-- a change of the link at a place, if there is one
changed_place : (f : End → Link → Link) (w : World) (o : Option Place)
    → let v = option_map_or (λ p. record w { links = changed_at p.link (f p.end) w.links }) o w in
    let l = option_map (λ p. p.link) o in
    count_passing is_busy v.links + one_if (passes_at is_busy w.links l) ≡ count_passing is_busy w.links + one_if (passes_at is_busy v.links l)
changed_place f w None = refl
changed_place f w (Some p) = count-changed is_busy (f p.end) p.link w.links

-- the link and the router of a port, and the attachments of a router, if of any
abbrev at_port : World → ℕ → ℕ → Option ℕ → Touched
at_port w i q o = record { link = link_number w i q; attachments = o; router = Some i }

-- a change of the link at a port leaves all attachments
attachments-changed_link : (i q : ℕ) (f : End → Link → Link) (w : World) → (changed_link i q f w).attachments ≡ w.attachments
attachments-changed_link i q f w = option_map_or-ind (λ v. v.attachments ≡ w.attachments) (λ p. record w { links = changed_at p.link (f p.end) w.links }) (place_at w i q) w refl (λ p _. refl)

-- what it is that the counts before and after differ by
abbrev IsCounted : Touched → World → World → Type 0
IsCounted t w v = unrest v + unrest_at t w ≡ unrest w + unrest_at t v

both-changed : (i q : ℕ) (o : Option ℕ) (f : End → Link → Link) (g : Router → Router) (w : World) → IsCounted (at_port w i q o) w (changed_router i g (changed_link i q f w))
both-changed i q o f g w =
    let c = changed_link i q f w in
    let links = changed_place f w (place_at w i q) in
    let routers = count-changed is_restless g i c.routers in
    let same = routers-changed_link i q f w in
    let counted : count_passing is_restless c.routers ≡ count_passing is_restless w.routers = ap (count_passing is_restless) same in
    let here : one_if (option_map_or is_restless (slice_get c.routers i) false) ≡ one_if (option_map_or is_restless (slice_get w.routers i) false)
    = ap (λ rs. one_if (option_map_or is_restless (slice_get rs i) false)) same in
    let notices : count_passing has_notice c.attachments ≡ count_passing has_notice w.attachments = ap (count_passing has_notice) (attachments-changed_link i q f w) in
    let told : one_if (passes_at has_notice c.attachments o) ≡ one_if (passes_at has_notice w.attachments o) = ap (λ xs. one_if (passes_at has_notice xs o)) (attachments-changed_link i q f w) in
    omega (arith, links, routers, counted, here, notices, told)

-- a router takes a notice
noticed-changed : (i q : ℕ) (f : Attachments → Attachments) (g : Router → Router) (w : World) → IsCounted (at_port w i q (Some i)) w (changed_router i g (changed_attachments i f w))
noticed-changed i q f g w =
    let notices = count-changed has_notice f i w.attachments in
    let routers = count-changed is_restless g i w.routers in
    omega (arith, notices, routers)

-- a step changes the count by the link, the attachments and the router that it touches
pub unrest-next : (s : Step) (w : World) → IsCounted (touched_by s w) w (next w s)
unrest-next (LinkUp l) w = let links = count-changed is_busy link_come_up l w.links in omega (arith, links)
unrest-next (LinkDown l) w = let links = count-changed is_busy link_gone_down l w.links in omega (arith, links)
unrest-next (SetCost i q cost) w =
    let links = changed_place (with_cost cost) w (place_at w i q) in
    let same : count_passing is_restless (changed_link i q (with_cost cost) w).routers ≡ count_passing is_restless w.routers = ap (count_passing is_restless) (routers-changed_link i q (with_cost cost) w) in
    let notices : count_passing has_notice (changed_link i q (with_cost cost) w).attachments ≡ count_passing has_notice w.attachments = ap (count_passing has_notice) (attachments-changed_link i q (with_cost cost) w) in
    omega (arith, links, same, notices)
unrest-next (Deliver i q) w =
    option_map_or-ind (IsCounted (at_port w i q (Some i)) w) (with_delivered i q w) (front_at w i q) _
    (option_map_or-ind (IsCounted (at_port w i q (Some i)) w) (with_noticed i w) (notice_at w i q) w refl (λ x _. noticed-changed i q with_notice_taken (router_at_home x) w))
    (λ item _. both-changed i q (Some i) with_front_taken (router_accepting q item) w)
unrest-next (Publish i) w = let routers = count-changed is_restless router_publishing i w.routers in omega (arith, routers)
unrest-next (Release i) w = by_front (release_at w i)
  where
    by_front : (o : Option Held) → IsCounted (record { link = option_and_then (λ h. link_number w i h.port) o; attachments = None; router = Some i }) w (option_map_or (with_released i w) o w)
    by_front None = refl
    by_front (Some h) = both-changed i h.port None (with_message h) router_releasing w
unrest-next (Attach i p cost) w = let notices = count-changed has_notice (with_attachment p cost) i w.attachments in omega (arith, notices)
unrest-next (Detach i p) w = let notices = count-changed has_notice (without_attachment p) i w.attachments in omega (arith, notices)

pub touched-counted : (t : Touched) (w : World) → unrest_at t w ≤ unrest w
touched-counted t w =
    let link = passing-few is_busy w.links t.link in
    let told = passing-few has_notice w.attachments t.attachments in
    let router = passing-few is_restless w.routers t.router in
    omega (arith, link, told, router)

-- a number that counts what is not at rest counts it after the step, and is small
pub watched-next : (w : World) (s : Step) (n m : ℕ) → IsWatched w n → m + unrest_at (touched_by s w) w ≡ n + unrest_at (touched_by s w) (next w s) → IsWatched (next w s) m
watched-next w s n m watched sum =
    let shape : SameShape w (next w s) = next-shape w s in
    let counted = unrest-next s w in
    let before : n ≡ unrest w = watched.counts in
    record {
      counts = omega (arith, counted, sum, before);
      few = (let links : length (next w s).links ≡ length w.links = shape.links in let attachments : length (next w s).attachments ≡ length w.attachments = shape.attachments in let routers : length (next w s).routers ≡ length w.routers = shape.routers in let few = watched.few in omega (arith, links, attachments, routers, few));
    }

-- such a number is small
pub unrest-few : (w : World) (n : ℕ) → IsWatched w n → n ≤ 196608
unrest-few w n watched =
    let links = count-few is_busy w.links in
    let notices = count-few has_notice w.attachments in
    let routers = count-few is_restless w.routers in
    let counts : n ≡ unrest w = watched.counts in
    let few = watched.few in
    omega (arith, links, notices, routers, counts, few)

-- nothing is counted in a world that opens
pub watched-opening : (n : Network) (w : World) → w ≡ opening n → length n.links ≤ most_links → n.routers ≤ most_routers → IsWatched w 0
watched-opening n w opened links routers =
    let none : unrest w ≡ 0 = ap unrest opened ∙ opening-rests n in
    let link_count : length w.links ≡ length n.links = ap (λ (v : World). length v.links) opened ∙ length-map n.links opening_link in
    let router_count : length w.routers ≡ n.routers = ap (λ (v : World). length v.routers) opened ∙ length-map-range_with_len (opening_router_of n) 0 n.routers in
    let attachment_count : length w.attachments ≡ n.routers = ap (λ (v : World). length v.attachments) opened ∙ length-map-range_with_len (λ i. record { costs = costs_of n i; notices = [] }) 0 n.routers in
    record {
      counts = sym none;
      few = omega (arith, link_count, attachment_count, router_count, links, routers);
    }
