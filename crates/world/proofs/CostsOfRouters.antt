-- The costs of each router's attachments, in whichever order the attachments are met.
use Rattle.std.proofs.Common.{refl, sym, ap, subst, ◌∙◌, arith, inl, inr, ◌≡◌, ◌⊎◌, ℕ, ◌<◌, Bool, true, false, cond, not, ◌&&◌, ◌||◌, ◌==◌, nat_lt, List, [], ◌∷◌, ◌++◌, map, filter, length, Option, Some, None, Contains, eqb-true, eq-eqb, true≢false, ltb-true, append-nil}
use Rattle.std.specs.List.Sorted.{IsPermutation}
use Rattle.no_packet_loops.proofs.Common.{find-put, list_any, range_with_len, changed_at, map-append, filter-append, Contains-first, Contains-later, Prefix, prefix_cmp, prefix_eq, prefix_cmp_total, prefix_eq-Decides, Limits, BadOwner, first_cause, first_none, has_same_prefix, is_bad_attachment, attachment_causes, prefixes_of, rows_of, Some_injective, None_not_Some, sorted-rows_of, find, same_entries, false_from_ne_true, or_parts, Contains-append_left, Contains-push, Contains-permutation, IsPermutation-sym, Contains-cases, prefix_cmp-tied, to_T}
use Rattle.world.proofs.ByRouter.{changed_one, same_range}

-- what is put at a router: the prefixes of its attachments with the costs
abbrev pub own_rows : ℕ → List (Prefix × ℕ × ℕ) → List (Prefix × ℕ)
own_rows i attachments = map (λ a. (a.0, a.2)) (filter (λ a. a.1 == i) attachments)

-- ---- rows of lists in which each prefix has the same first value

find-rows_of : {X : Type 0} (p : Prefix) (rows : List (Prefix × X)) → find prefix_cmp p (rows_of rows) ≡ find prefix_cmp p rows
find-rows_of p [] = refl
find-rows_of p (r ∷ rows) = find-put prefix_cmp prefix_cmp_total p r.0 r.1 (rows_of rows) ∙ ap (cond (prefix_eq p r.0) (Some r.1)) (find-rows_of p rows)

same_rows : {X : Type 0} (xs ys : List (Prefix × X)) → ((p : Prefix) → find prefix_cmp p xs ≡ find prefix_cmp p ys) → rows_of xs ≡ rows_of ys
same_rows xs ys same =
    same_entries prefix_cmp prefix_cmp_total prefix_cmp-tied (rows_of xs) (rows_of ys) (to_T _ (sorted-rows_of xs)) (to_T _ (sorted-rows_of ys))
    (λ p. find-rows_of p xs ∙ same p ∙ sym (find-rows_of p ys))

-- ---- attachments of which no router has a prefix twice

-- no router has a prefix twice
abbrev pub AreApart : List (Prefix × ℕ × ℕ) → Type 0
AreApart attachments = (a b : Prefix × ℕ × ℕ) → Contains attachments a → Contains attachments b → a.0 ≡ b.0 → a.1 ≡ b.1 → a ≡ b

-- what is found at a router is one of the attachments
found_is : (i : ℕ) (p : Prefix) (attachments : List (Prefix × ℕ × ℕ)) (c : ℕ) → find prefix_cmp p (own_rows i attachments) ≡ Some c → Contains attachments (p, i, c)
found_is i p [] c found = absurd (None_not_Some found)
found_is i p (a ∷ rest) c found = by_router (a.1 == i) refl found (found_is i p rest c)
  where
    by_prefix : (t : Bool) → prefix_eq p a.0 ≡ t → a.1 ≡ i → cond t (Some a.2) (find prefix_cmp p (own_rows i rest)) ≡ Some c
        → (find prefix_cmp p (own_rows i rest) ≡ Some c → Contains rest (p, i, c)) → Contains (a ∷ rest) (p, i, c)
    by_prefix true same at is later =
        let prefix : a.0 ≡ p = sym ((prefix_eq-Decides p a.0).0 same) in
        let cost : a.2 ≡ c = Some_injective is in
        let whole : a ≡ (p, i, c) = λ j. (prefix j, at j, cost j) in
        subst (λ x. Contains (x ∷ rest) (p, i, c)) (sym whole) (Contains-first (p, i, c) rest)
    by_prefix false other at is later = Contains-later a rest (p, i, c) (later is)

    by_router : (t : Bool) → (a.1 == i) ≡ t → find prefix_cmp p (map (λ x. (x.0, x.2)) (cond t (a ∷ filter (λ x. x.1 == i) rest) (filter (λ x. x.1 == i) rest))) ≡ Some c
        → (find prefix_cmp p (own_rows i rest) ≡ Some c → Contains rest (p, i, c)) → Contains (a ∷ rest) (p, i, c)
    by_router true at is later = by_prefix (prefix_eq p a.0) refl (eqb-true a.1 i at) is later
    by_router false off is later = Contains-later a rest (p, i, c) (later is)

-- an attachment of a router is found there, or another of the same prefix
is_found : (i : ℕ) (p : Prefix) (attachments : List (Prefix × ℕ × ℕ)) (c : ℕ) → Contains attachments (p, i, c) → find prefix_cmp p (own_rows i attachments) ≡ None → ⊥
is_found i p [] c there none = absurd (omega (arith, there.1))
is_found i p (a ∷ rest) c there none = by_place (Contains-cases a rest (p, i, c) there) (is_found i p rest c)
  where
    by_prefix : (t : Bool) → cond t (Some a.2) (find prefix_cmp p (own_rows i rest)) ≡ None → find prefix_cmp p (own_rows i rest) ≡ None
    by_prefix true is = absurd (None_not_Some (sym is))
    by_prefix false is = is

    by_router : (t : Bool) → find prefix_cmp p (map (λ x. (x.0, x.2)) (cond t (a ∷ filter (λ x. x.1 == i) rest) (filter (λ x. x.1 == i) rest))) ≡ None → find prefix_cmp p (own_rows i rest) ≡ None
    by_router true is = by_prefix (prefix_eq p a.0) is
    by_router false is = is

    here : a ≡ (p, i, c) → ⊥
    here is =
        let at : (a.1 == i) ≡ true = eq-eqb a.1 i (ap (λ x. x.1) is) in
        let same : prefix_eq p a.0 ≡ true = (prefix_eq-Decides p a.0).1 (sym (ap (λ x. x.0) is)) in
        None_not_Some (sym (ap (λ t. find prefix_cmp p (map (λ x. (x.0, x.2)) (cond t (a ∷ filter (λ x. x.1 == i) rest) (filter (λ x. x.1 == i) rest)))) (sym at) ∙ none) ∙ ap (λ t. cond t (Some a.2) (find prefix_cmp p (own_rows i rest))) same)

    by_place : (a ≡ (p, i, c)) ⊎ Contains rest (p, i, c) → (Contains rest (p, i, c) → find prefix_cmp p (own_rows i rest) ≡ None → ⊥) → ⊥
    by_place (inl is) behind = here is
    by_place (inr later) behind = behind later (by_router (a.1 == i) none)

-- so in another order each router has the same costs
pub costs_in_any_order : (xs ys : List (Prefix × ℕ × ℕ)) → IsPermutation xs ys → AreApart xs → (i : ℕ) → rows_of (own_rows i ys) ≡ rows_of (own_rows i xs)
costs_in_any_order xs ys moved apart i = same_rows (own_rows i ys) (own_rows i xs) (λ p. by_found p (find prefix_cmp p (own_rows i ys)) refl (find prefix_cmp p (own_rows i xs)) refl)
  where
    by_found : (p : Prefix) (o : Option ℕ) → find prefix_cmp p (own_rows i ys) ≡ o → (u : Option ℕ) → find prefix_cmp p (own_rows i xs) ≡ u → find prefix_cmp p (own_rows i ys) ≡ find prefix_cmp p (own_rows i xs)
    by_found p None e None f = e ∙ sym f
    by_found p (Some c) e None f = absurd (is_found i p xs c (Contains-permutation ys xs (p, i, c) (IsPermutation-sym xs ys moved) (found_is i p ys c e)) f)
    by_found p None e (Some d) f = absurd (is_found i p ys d (Contains-permutation xs ys (p, i, d) moved (found_is i p xs d f)) e)
    by_found p (Some c) e (Some d) f =
        let one : Contains xs (p, i, c) = Contains-permutation ys xs (p, i, c) (IsPermutation-sym xs ys moved) (found_is i p ys c e) in
        let other : Contains xs (p, i, d) = found_is i p xs d f in
        let same : (p, i, c) ≡ (p, i, d) = apart (p, i, c) (p, i, d) one other refl refl in
        e ∙ ap (λ (x : Prefix × ℕ × ℕ). Some x.2) same ∙ sym f

-- ---- attachments without a fault

-- what an attachment that can be is, after others
record CanBe (routers : ℕ) (before : List (Prefix × ℕ × ℕ)) (a : Prefix × ℕ × ℕ) : Type 0 where
  known : a.1 < routers
  new_there : list_any (λ b. has_same_prefix a b && (b.1 == a.1)) before ≡ false

can_be : (limits : Limits) (routers : ℕ) (before : List (Prefix × ℕ × ℕ)) (a : Prefix × ℕ × ℕ) → is_bad_attachment limits routers before a ≡ false → CanBe routers before a
can_be limits routers before a good =
    by_tests (nat_lt a.1 routers) refl (nat_lt (length before) limits.attachments) (list_any (λ b. has_same_prefix a b && (b.1 == a.1)) before) refl good
  where
    by_tests : (x : Bool) → nat_lt a.1 routers ≡ x → (y z : Bool) → list_any (λ b. has_same_prefix a b && (b.1 == a.1)) before ≡ z
        → (not (x && y) || z || not (list_any (has_same_prefix a) before || nat_lt (length (prefixes_of before)) limits.prefixes)) ≡ false → CanBe routers before a
    by_tests true x true false z h = record { known = ltb-true a.1 routers x; new_there = z }
    by_tests _ x _ _ _ h = absurd (true≢false h)

-- two attachments clash: one router has one prefix by both
clash : (a b : Prefix × ℕ × ℕ) → a.0 ≡ b.0 → a.1 ≡ b.1 → (has_same_prefix a b && (b.1 == a.1)) ≡ true
clash a b same at =
    let prefix : prefix_eq b.0 a.0 ≡ true = (prefix_eq-Decides b.0 a.0).1 (sym same) in
    let router : (b.1 == a.1) ≡ true = eq-eqb b.1 a.1 (sym at) in
    λ i. prefix i && router i

-- an element that passes is among them
none_passes : {X : Type 0} (test : X → Bool) (xs : List X) (x : X) → list_any test xs ≡ false → Contains xs x → test x ≡ true → ⊥
none_passes test [] x none there passes = absurd (omega (arith, there.1))
none_passes test (y ∷ ys) x none there passes = by_place (Contains-cases y ys x there) (none_passes test ys x)
  where
    parts : (test y ≡ false) × (list_any test ys ≡ false)
    parts = or_parts (test y) (list_any test ys) none

    by_place : (y ≡ x) ⊎ Contains ys x → (list_any test ys ≡ false → Contains ys x → test x ≡ true → ⊥) → ⊥
    by_place (inl is) behind = true≢false (sym passes ∙ ap test (sym is) ∙ parts.0)
    by_place (inr later) behind = behind parts.1 later passes

-- the first of these attachments, and the others
first_attachment : (limits : Limits) (routers : ℕ) (before : List (Prefix × ℕ × ℕ)) (a : Prefix × ℕ × ℕ) (rest : List (Prefix × ℕ × ℕ)) → first_cause (attachment_causes limits routers before (a ∷ rest)) ≡ None
    → CanBe routers before a × (first_cause (attachment_causes limits routers (before ++ a ∷ []) rest) ≡ None)
first_attachment limits routers before a rest none =
    let parts : (is_bad_attachment limits routers before a ≡ false) × (first_cause (attachment_causes limits routers (before ++ a ∷ []) rest) ≡ None)
    = first_none (is_bad_attachment limits routers before a) (BadOwner (length before)) (attachment_causes limits routers (before ++ a ∷ []) rest) none in
    (can_be limits routers before a parts.0, parts.1)

-- each is at a router of the network
pub known_router : (limits : Limits) (routers : ℕ) (before rest : List (Prefix × ℕ × ℕ)) → first_cause (attachment_causes limits routers before rest) ≡ None → (x : Prefix × ℕ × ℕ) → Contains rest x → x.1 < routers
known_router limits routers before [] none x there = absurd (omega (arith, there.1))
known_router limits routers before (a ∷ rest) none x there = by_place (Contains-cases a rest x there) (λ onward. known_router limits routers (before ++ a ∷ []) rest onward x)
  where
    parts : CanBe routers before a × (first_cause (attachment_causes limits routers (before ++ a ∷ []) rest) ≡ None)
    parts = first_attachment limits routers before a rest none

    by_place : (a ≡ x) ⊎ Contains rest x → (first_cause (attachment_causes limits routers (before ++ a ∷ []) rest) ≡ None → Contains rest x → x.1 < routers) → x.1 < routers
    by_place (inl is) behind = subst (λ (y : Prefix × ℕ × ℕ). y.1 < routers) is (parts.0).known
    by_place (inr later) behind = behind parts.1 later

-- one that is given before clashes with none
new_after : (limits : Limits) (routers : ℕ) (before rest : List (Prefix × ℕ × ℕ)) → first_cause (attachment_causes limits routers before rest) ≡ None → (b x : Prefix × ℕ × ℕ) → Contains before b → Contains rest x
    → x.0 ≡ b.0 → x.1 ≡ b.1 → ⊥
new_after limits routers before [] none b x given there same at = absurd (omega (arith, there.1))
new_after limits routers before (a ∷ rest) none b x given there same at = by_place (Contains-cases a rest x there) (λ onward. new_after limits routers (before ++ a ∷ []) rest onward b x)
  where
    parts : CanBe routers before a × (first_cause (attachment_causes limits routers (before ++ a ∷ []) rest) ≡ None)
    parts = first_attachment limits routers before a rest none

    by_place : (a ≡ x) ⊎ Contains rest x
        → (first_cause (attachment_causes limits routers (before ++ a ∷ []) rest) ≡ None → Contains (before ++ a ∷ []) b → Contains rest x → x.0 ≡ b.0 → x.1 ≡ b.1 → ⊥) → ⊥
    by_place (inl is) behind = none_passes (λ y. has_same_prefix a y && (y.1 == a.1)) before b (parts.0).new_there given (clash a b (ap (λ y. y.0) is ∙ same) (ap (λ y. y.1) is ∙ at))
    by_place (inr later) behind = behind parts.1 (Contains-append_left before (a ∷ []) b given) later same at

-- no router has a prefix twice
pub are_apart : (limits : Limits) (routers : ℕ) (before rest : List (Prefix × ℕ × ℕ)) → first_cause (attachment_causes limits routers before rest) ≡ None → AreApart rest
are_apart limits routers before [] none x y here there same at = absurd (omega (arith, here.1))
are_apart limits routers before (a ∷ rest) none x y here there same at = by_places (Contains-cases a rest x here) (Contains-cases a rest y there) (λ fine. are_apart limits routers (before ++ a ∷ []) rest fine x y)
  where
    onward : first_cause (attachment_causes limits routers (before ++ a ∷ []) rest) ≡ None
    onward = (first_attachment limits routers before a rest none).1

    by_places : (a ≡ x) ⊎ Contains rest x → (a ≡ y) ⊎ Contains rest y
        → (first_cause (attachment_causes limits routers (before ++ a ∷ []) rest) ≡ None → Contains rest x → Contains rest y → x.0 ≡ y.0 → x.1 ≡ y.1 → x ≡ y) → x ≡ y
    by_places (inl is) (inl is_too) behind = sym is ∙ is_too
    by_places (inl is) (inr later) behind = absurd (new_after limits routers (before ++ a ∷ []) rest onward a y (Contains-push before a) later (sym same ∙ ap (λ z. z.0) (sym is)) (sym at ∙ ap (λ z. z.1) (sym is)))
    by_places (inr later) (inl is) behind = absurd (new_after limits routers (before ++ a ∷ []) rest onward a x (Contains-push before a) later (same ∙ ap (λ z. z.0) (sym is)) (at ∙ ap (λ z. z.1) (sym is)))
    by_places (inr later) (inr later_too) behind = behind onward later later_too same at

-- ---- one attachment more

pub own_more : (routers : ℕ) (before : List (Prefix × ℕ × ℕ)) (a : Prefix × ℕ × ℕ) → a.1 < routers
    → changed_at a.1 (λ xs. xs ++ (a.0, a.2) ∷ []) (map (λ i. own_rows i before) (range_with_len 0 routers)) ≡ map (λ i. own_rows i (before ++ a ∷ [])) (range_with_len 0 routers)
own_more routers before a known =
    changed_one (λ i. own_rows i before) (λ i. own_rows i (before ++ a ∷ [])) (λ xs. xs ++ (a.0, a.2) ∷ []) routers a.1 known
    (last_is a.1 true (eq-eqb a.1 a.1 refl))
    (λ i apart. last_is i false (false_from_ne_true (a.1 == i) (λ e. apart (sym (eqb-true a.1 i e)))) ∙ append-nil (own_rows i before))
  where
    last_is : (i : ℕ) (t : Bool) → (a.1 == i) ≡ t → own_rows i (before ++ a ∷ []) ≡ own_rows i before ++ map (λ x. (x.0, x.2)) (cond t (a ∷ []) [])
    last_is i t is =
        ap (map (λ (x : Prefix × ℕ × ℕ). (x.0, x.2))) (filter-append (λ (x : Prefix × ℕ × ℕ). x.1 == i) before (a ∷ []) ∙ ap (λ b. filter (λ (x : Prefix × ℕ × ℕ). x.1 == i) before ++ cond b (a ∷ []) []) is)
        ∙ map-append (λ (x : Prefix × ℕ × ℕ). (x.0, x.2)) (filter (λ (x : Prefix × ℕ × ℕ). x.1 == i) before) (cond t (a ∷ []) [])

-- ---- the costs of all routers

map_twice : {X Y Z : Type 0} (f : Y → Z) (g : X → Y) (xs : List X) → map (λ x. f (g x)) xs ≡ map f (map g xs)
map_twice f g [] = refl
map_twice f g (x ∷ xs) = ap (λ zs. f (g x) ∷ zs) (map_twice f g xs)

-- the rows of each router, put in the order of ys, are the costs of xs
pub costs_made : {V : Type 0} (g : V → List (Prefix × ℕ)) (lists : List V) (xs ys : List (Prefix × ℕ × ℕ)) (routers : ℕ) → IsPermutation xs ys → AreApart xs
    → map g lists ≡ map (λ i. own_rows i ys) (range_with_len 0 routers) → map (λ v. rows_of (g v)) lists ≡ map (λ i. rows_of (own_rows i xs)) (range_with_len 0 routers)
costs_made g lists xs ys routers moved apart made =
    map_twice rows_of g lists
    ∙ ap (map rows_of) made
    ∙ sym (map_twice rows_of (λ i. own_rows i ys) (range_with_len 0 routers))
    ∙ same_range (λ i. rows_of (own_rows i ys)) (λ i. rows_of (own_rows i xs)) 0 routers (λ i _. sym (costs_in_any_order xs ys moved apart i))
