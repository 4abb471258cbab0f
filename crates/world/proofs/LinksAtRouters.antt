-- The links that touch each router, and what a link finds among them.
use Rattle.std.proofs.Common.{refl, sym, ap, ◌∙◌, arith, ◌≡◌, ℕ, suc, ◌+◌, ◌<◌, Bool, true, false, cond, not, ◌&&◌, ◌||◌, ◌==◌, nat_lt, List, [], ◌∷◌, ◌++◌, map, filter, length, Option, Some, None, option_map, if◌then◌else◌, append-nil, get_or, eqb-true, eq-eqb, true≢false, ltb-true}
use Rattle.no_packet_loops.proofs.Common.{list_any, range_with_len, changed_at, filter-append, length-filter, A, B, End, LinkSpec, touches, degree, has_same_ends, is_bad_link, is_link_too_many, places_from, Limits, Network, IsNetwork, or-true, slice_get_read, place_of, cons_option, and_parts, false≢true, false_from_ne_true, own_end}
use Rattle.no_packet_loops.proofs.Wiring.{wired}
use Rattle.world.proofs.ByRouter.{changed_two}

-- ---- a link that joins the same routers

-- where each element that passes p passes q or r, one passes p where one does among those that pass q, or those that pass r
any_among : {X : Type 0} (p q r : X → Bool) → ((x : X) → p x ≡ true → (q x || r x) ≡ true) → (xs : List X) → list_any p xs ≡ (list_any p (filter q xs) || list_any p (filter r xs))
any_among p q r shared [] = refl
any_among {X} p q r shared (x ∷ xs) = by_tests (p x) refl (q x) (r x) (shared x) (any_among p q r shared xs)
  where
    by_tests : (a : Bool) → p x ≡ a → (b c : Bool) → (p x ≡ true → (b || c) ≡ true) → list_any p xs ≡ (list_any p (filter q xs) || list_any p (filter r xs))
        → (p x || list_any p xs) ≡ (list_any p (cond b (x ∷ filter q xs) (filter q xs)) || list_any p (cond c (x ∷ filter r xs) (filter r xs)))
    by_tests true is true c share rest =
        ap (λ t. t || list_any p xs) is ∙ sym (ap (λ t. (t || list_any p (filter q xs)) || list_any p (cond c (x ∷ filter r xs) (filter r xs))) is)
    by_tests true is false true share rest =
        ap (λ t. t || list_any p xs) is ∙ sym (ap (λ t. list_any p (filter q xs) || (t || list_any p (filter r xs))) is ∙ or-true (list_any p (filter q xs)))
    by_tests true is false false share rest = absurd (false≢true (share is))
    by_tests false is true true share rest =
        ap (λ t. t || list_any p xs) is ∙ rest ∙ sym (ap (λ t. (t || list_any p (filter q xs)) || (t || list_any p (filter r xs))) is)
    by_tests false is true false share rest =
        ap (λ t. t || list_any p xs) is ∙ rest ∙ sym (ap (λ t. (t || list_any p (filter q xs)) || list_any p (filter r xs)) is)
    by_tests false is false true share rest =
        ap (λ t. t || list_any p xs) is ∙ rest ∙ sym (ap (λ t. list_any p (filter q xs) || (t || list_any p (filter r xs))) is)
    by_tests false is false false share rest = ap (λ t. t || list_any p xs) is ∙ rest

-- a link with the same ends touches one of them
shares_end : (s t : LinkSpec) → has_same_ends s t ≡ true → (touches s.a t || touches s.b t) ≡ true
shares_end s t same = by_first (s.a == t.a) refl (s.b == t.a) refl (and_parts (touches t.a s) (touches t.b s) same).0
  where
    by_first : (x : Bool) → (s.a == t.a) ≡ x → (y : Bool) → (s.b == t.a) ≡ y → (x || y) ≡ true → (touches s.a t || touches s.b t) ≡ true
    by_first true is y e h = ap (λ b. (b || (t.b == s.a)) || touches s.b t) (eq-eqb t.a s.a (sym (eqb-true s.a t.a is)))
    by_first false is true e h = ap (λ b. touches s.a t || (b || (t.b == s.b))) (eq-eqb t.a s.b (sym (eqb-true s.b t.a e))) ∙ or-true (touches s.a t)
    by_first false is false e h = absurd (false≢true h)

pub twins_at_ends : (s : LinkSpec) (before : List LinkSpec)
    → list_any (has_same_ends s) before ≡ (list_any (has_same_ends s) (filter (touches s.a) before) || list_any (has_same_ends s) (filter (touches s.b) before))
twins_at_ends s before = any_among (has_same_ends s) (touches s.a) (touches s.b) (shares_end s) before

-- a link is a bad one where its ends are, or where another has the same
abbrev pub has_bad_ends : ℕ → LinkSpec → Bool
has_bad_ends routers s = not (nat_lt s.a routers && nat_lt s.b routers) || (s.a == s.b)

pub bad_by_ends : (routers : ℕ) (before : List LinkSpec) (s : LinkSpec) → is_bad_link routers before s ≡ (has_bad_ends routers s || list_any (has_same_ends s) before)
bad_by_ends routers before s = joined (not (nat_lt s.a routers && nat_lt s.b routers)) (s.a == s.b) (list_any (has_same_ends s) before)
  where
    joined : (a b c : Bool) → (a || b || c) ≡ ((a || b) || c)
    joined true b c = refl
    joined false b c = refl

pub bad_ends : (routers : ℕ) (before : List LinkSpec) (s : LinkSpec) → has_bad_ends routers s ≡ true → is_bad_link routers before s ≡ true
bad_ends routers before s bad = bad_by_ends routers before s ∙ ap (λ t. t || list_any (has_same_ends s) before) bad

pub bad_by_twin : (routers : ℕ) (before : List LinkSpec) (s : LinkSpec) → has_bad_ends routers s ≡ false → is_bad_link routers before s ≡ list_any (has_same_ends s) before
bad_by_twin routers before s good = bad_by_ends routers before s ∙ ap (λ t. t || list_any (has_same_ends s) before) good

-- a link is one too many by the lengths of the lists
pub too_many_by_lists : (limits : Limits) (before : List LinkSpec) (s : LinkSpec)
    → is_link_too_many limits before s
    ≡ not (nat_lt (length before) limits.links && nat_lt (length (filter (touches s.a) before)) limits.ports && nat_lt (length (filter (touches s.b) before)) limits.ports)
too_many_by_lists limits before s =
    let of_a : degree s.a before ≡ length (filter (touches s.a) before) = sym (length-filter (touches s.a) before) in
    let of_b : degree s.b before ≡ length (filter (touches s.b) before) = sym (length-filter (touches s.b) before) in
    λ i. not (nat_lt (length before) limits.links && nat_lt (of_a i) limits.ports && nat_lt (of_b i) limits.ports)

-- ---- one link more

-- the ends of a link that is no bad one
pub record HasEnds (routers : ℕ) (s : LinkSpec) : Type 0 where
  pub a_known : s.a < routers
  pub b_known : s.b < routers
  pub differ : s.a ≡ s.b → ⊥

pub good_ends : (routers : ℕ) (s : LinkSpec) → has_bad_ends routers s ≡ false → HasEnds routers s
good_ends routers s good = by_tests (nat_lt s.a routers) refl (nat_lt s.b routers) refl (s.a == s.b) refl good
  where
    by_tests : (x : Bool) → nat_lt s.a routers ≡ x → (y : Bool) → nat_lt s.b routers ≡ y → (z : Bool) → (s.a == s.b) ≡ z → (not (x && y) || z) ≡ false → HasEnds routers s
    by_tests true a true b false e h = record { a_known = ltb-true s.a routers a; b_known = ltb-true s.b routers b; differ = λ same. true≢false (sym (eq-eqb s.a s.b same) ∙ e) }
    by_tests _ a _ b _ e h = absurd (true≢false h)

-- of what touches a router there is one more where it is an end
touching_here : (i : ℕ) (before : List LinkSpec) (s : LinkSpec) → touches i s ≡ true → filter (touches i) (before ++ s ∷ []) ≡ filter (touches i) before ++ s ∷ []
touching_here i before s here = filter-append (touches i) before (s ∷ []) ∙ ap (λ t. filter (touches i) before ++ cond t (s ∷ []) []) here

touching_elsewhere : (i : ℕ) (before : List LinkSpec) (s : LinkSpec) → touches i s ≡ false → filter (touches i) (before ++ s ∷ []) ≡ filter (touches i) before
touching_elsewhere i before s off = filter-append (touches i) before (s ∷ []) ∙ ap (λ t. filter (touches i) before ++ cond t (s ∷ []) []) off ∙ append-nil (filter (touches i) before)

apart_test : (m n : ℕ) → (m ≡ n → ⊥) → (m == n) ≡ false
apart_test m n apart = false_from_ne_true (m == n) (λ e. apart (eqb-true m n e))

pub lists_with_link : (routers : ℕ) (before : List LinkSpec) (s : LinkSpec) → HasEnds routers s
    → changed_at s.b (λ xs. xs ++ s ∷ []) (changed_at s.a (λ xs. xs ++ s ∷ []) (map (λ i. filter (touches i) before) (range_with_len 0 routers)))
    ≡ map (λ i. filter (touches i) (before ++ s ∷ [])) (range_with_len 0 routers)
lists_with_link routers before s H =
    changed_two (λ i. filter (touches i) before) (λ i. filter (touches i) (before ++ s ∷ [])) (λ xs. xs ++ s ∷ []) (λ xs. xs ++ s ∷ []) routers s.a s.b H.a_known H.b_known H.differ
    (touching_here s.a before s (ap (λ t. t || (s.b == s.a)) (eq-eqb s.a s.a refl)))
    (touching_here s.b before s (ap (λ t. (s.a == s.b) || t) (eq-eqb s.b s.b refl) ∙ or-true (s.a == s.b)))
    (λ i off_a off_b. touching_elsewhere i before s (ap (λ t. t || (s.b == i)) (apart_test s.a i (λ e. off_a (sym e))) ∙ apart_test s.b i (λ e. off_b (sym e))))

-- ---- the places of ports

cons_append : {X : Type 0} (o : Option X) (xs ys : List X) → cons_option o (xs ++ ys) ≡ cons_option o xs ++ ys
cons_append None xs ys = refl
cons_append (Some x) xs ys = refl

-- the place at a link behind others comes last
places_from-last : (l i : ℕ) (ss : List LinkSpec) (s : LinkSpec) → places_from l i (ss ++ s ∷ []) ≡ places_from l i ss ++ cons_option (option_map (place_of (l + length ss)) (own_end i s)) []
places_from-last l i [] s = let at : l ≡ l + 0 = omega arith in ap (λ k. cons_option (option_map (place_of k) (own_end i s)) []) at
places_from-last l i (x ∷ ss) s =
    let at : (l + 1) + length ss ≡ l + suc (length ss) = omega arith in
    ap (cons_option (option_map (place_of l) (own_end i x)))
    (places_from-last (l + 1) i ss s ∙ ap (λ k. places_from (l + 1) i ss ++ cons_option (option_map (place_of k) (own_end i s)) []) at)
    ∙ cons_append (option_map (place_of l) (own_end i x)) (places_from (l + 1) i ss) (cons_option (option_map (place_of (l + suc (length ss))) (own_end i s)) [])

own_a : (i : ℕ) (s : LinkSpec) → (s.a == i) ≡ true → own_end i s ≡ Some A
own_a i s here = ap (λ t. if t then Some A else (if s.b == i then Some B else None)) here

own_b : (i : ℕ) (s : LinkSpec) → (s.a == i) ≡ false → (s.b == i) ≡ true → own_end i s ≡ Some B
own_b i s off here = ap (λ t. if t then Some A else (if s.b == i then Some B else None)) off ∙ ap (λ t. if t then Some B else None) here

own_none : (i : ℕ) (s : LinkSpec) → (s.a == i) ≡ false → (s.b == i) ≡ false → own_end i s ≡ None
own_none i s off off_too = ap (λ t. if t then Some A else (if s.b == i then Some B else None)) off ∙ ap (λ t. if t then Some B else None) off_too

pub places_with_link : (routers : ℕ) (before : List LinkSpec) (s : LinkSpec) (l : ℕ) → l ≡ length before → HasEnds routers s
    → changed_at s.b (λ ps. ps ++ place_of l B ∷ []) (changed_at s.a (λ ps. ps ++ place_of l A ∷ []) (map (λ i. places_from 0 i before) (range_with_len 0 routers)))
    ≡ map (λ i. places_from 0 i (before ++ s ∷ [])) (range_with_len 0 routers)
places_with_link routers before s l number H =
    changed_two (λ i. places_from 0 i before) (λ i. places_from 0 i (before ++ s ∷ [])) (λ ps. ps ++ place_of l A ∷ []) (λ ps. ps ++ place_of l B ∷ []) routers s.a s.b H.a_known H.b_known H.differ
    (last_is s.a (Some A) (own_a s.a s (eq-eqb s.a s.a refl)))
    (last_is s.b (Some B) (own_b s.b s (apart_test s.a s.b H.differ) (eq-eqb s.b s.b refl)))
    (λ i off_a off_b. last_is i None (own_none i s (apart_test s.a i (λ e. off_a (sym e))) (apart_test s.b i (λ e. off_b (sym e)))) ∙ append-nil (places_from 0 i before))
  where
    last_is : (i : ℕ) (o : Option End) → own_end i s ≡ o → places_from 0 i (before ++ s ∷ []) ≡ places_from 0 i before ++ cons_option (option_map (place_of l) o) []
    last_is i o is =
        let at : 0 + length before ≡ l = omega (arith, number) in
        places_from-last 0 i before s
        ∙ ap (λ k. places_from 0 i before ++ cons_option (option_map (place_of k) (own_end i s)) []) at
        ∙ ap (λ e. places_from 0 i before ++ cons_option (option_map (place_of l) e) []) is

-- the ends of a link of a network without faults
pub ends_of : (n : Network) → IsNetwork n → (l : ℕ) (s : LinkSpec) → l < length n.links → s ≡ get_or n.links l s → HasEnds n.routers s
ends_of n N l s below at =
    let link = (wired n N).are_links l s (slice_get_read n.links (length n.links) l s refl below at) in
    record { a_known = link.a_known; b_known = link.b_known; differ = link.ends_differ }
