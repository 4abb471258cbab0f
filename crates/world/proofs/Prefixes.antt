-- How many prefixes attachments are of, one attachment after another, and which.
use Rattle.std.proofs.Common.{refl, sym, ap, ◌∙◌, arith, ◌≡◌, ℕ, suc, ◌+◌, ◌-◌, ◌<◌, ◌≤◌, Bool, true, false, cond, ◌||◌, List, [], ◌∷◌, ◌++◌, map, length, drop, get_or, if◌then◌else◌, length-drop, reverse}
use Rattle.no_packet_loops.proofs.Common.{list_any, length-map, map-append, list_any-append, Prefix, prefix_cmp, prefix_eq, prefix_cmp_total, prefix_eq-Decides, distinct, prefixes_of, rows_of, has_same_prefix, sorted-rows_of, reverse-append, is_eq, ordering_reverse, Ordering, Less, drop-cons}
use Rattle.route_table.proofs.Kept.{length-put_at_most}

-- the test does not ask which prefix comes first
pub prefix_eq-turned : (p q : Prefix) → prefix_eq p q ≡ prefix_eq q p
prefix_eq-turned p q = ap is_eq (prefix_cmp_total.antisymm p q) ∙ by_order (prefix_cmp q p)
  where
    by_order : (o : Ordering) → is_eq (ordering_reverse o) ≡ is_eq o
    by_order Less = refl
    by_order _ = refl

-- one of the changed elements passes the test where one passes it changed
any-map : {X Y : Type 0} (test : Y → Bool) (f : X → Y) (xs : List X) → list_any test (map f xs) ≡ list_any (λ x. test (f x)) xs
any-map test f [] = refl
any-map test f (x ∷ xs) = ap (λ b. test (f x) || b) (any-map test f xs)

any-turned : (p : Prefix) (ps : List Prefix) → list_any (prefix_eq p) ps ≡ list_any (λ q. prefix_eq q p) ps
any-turned p [] = refl
any-turned p (q ∷ ps) = λ i. prefix_eq-turned p q i || any-turned p ps i

-- ---- how many

length-rows_of : {X : Type 0} (rows : List (Prefix × X)) → length (rows_of rows) ≤ length rows
length-rows_of [] = omega arith
length-rows_of (r ∷ rows) =
    let more = length-put_at_most r.0 r.1 (rows_of rows) (sorted-rows_of rows) in
    let rest = length-rows_of rows in
    omega (arith, more, rest)

-- rows behind some of these are no more than these
pub few_rows_after : {X : Type 0} (i : ℕ) (rows : List (Prefix × X)) → length (rows_of (drop i rows)) ≤ length rows
few_rows_after i rows =
    let few = length-rows_of (drop i rows) in
    let fewer = length-drop i rows in
    omega (arith, few, fewer)

length-distinct : (ps : List Prefix) → length (distinct ps) ≤ length ps
length-distinct [] = omega arith
length-distinct (p ∷ ps) = by_test (list_any (prefix_eq p) ps) (length-distinct ps)
  where
    by_test : (b : Bool) → length (distinct ps) ≤ length ps → length (if b then distinct ps else p ∷ distinct ps) ≤ length (p ∷ ps)
    by_test true rest = omega (arith, rest)
    by_test false rest = omega (arith, rest)

pub few_prefixes : (attachments : List (Prefix × ℕ × ℕ)) → length (prefixes_of attachments) ≤ length attachments
few_prefixes attachments =
    let few = length-distinct (map (λ a. a.0) attachments) in
    let same = length-map attachments (λ (a : Prefix × ℕ × ℕ). a.0) in
    omega (arith, few, same)

-- one, but not where it was there before
abbrev pub one_unless : Bool → ℕ
one_unless b = if b then 0 else 1

-- a prefix behind others is counted where it is not among them
distinct-last : (ps : List Prefix) (p : Prefix) → length (distinct (ps ++ p ∷ [])) ≡ length (distinct ps) + one_unless (list_any (λ q. prefix_eq q p) ps)
distinct-last [] p = refl
distinct-last (q ∷ ps) p =
    ap (λ b. length (cond b (distinct (ps ++ p ∷ [])) (q ∷ distinct (ps ++ p ∷ [])))) (list_any-append (prefix_eq q) ps (p ∷ []))
    ∙ by_tests (list_any (prefix_eq q) ps) (prefix_eq q p) refl (list_any (λ x. prefix_eq x p) ps) same (distinct-last ps p)
  where
    same : prefix_eq q p ≡ true → list_any (prefix_eq q) ps ≡ list_any (λ x. prefix_eq x p) ps
    same is = any-turned q ps ∙ ap (λ k. list_any (λ x. prefix_eq x k) ps) ((prefix_eq-Decides q p).0 is)

    by_tests : (a b : Bool) → prefix_eq q p ≡ b → (c : Bool) → (prefix_eq q p ≡ true → a ≡ c) → length (distinct (ps ++ p ∷ [])) ≡ length (distinct ps) + one_unless c
        → length (cond (a || (b || false)) (distinct (ps ++ p ∷ [])) (q ∷ distinct (ps ++ p ∷ []))) ≡ length (cond a (distinct ps) (q ∷ distinct ps)) + one_unless (b || c)
    by_tests true true is c alike rest = rest ∙ ap (λ x. length (distinct ps) + one_unless x) (sym (alike is))
    by_tests true false is c alike rest = rest
    by_tests false true is c alike rest =
        let new : one_unless c ≡ 1 = ap one_unless (sym (alike is)) in
        omega (arith, rest, new)
    by_tests false false is c alike rest = omega (arith, rest)

-- one attachment more
pub one_more_prefix : (before : List (Prefix × ℕ × ℕ)) (a : Prefix × ℕ × ℕ)
    → length (prefixes_of (before ++ a ∷ [])) ≡ length (prefixes_of before) + one_unless (list_any (has_same_prefix a) before)
one_more_prefix before a =
    ap (λ ps. length (distinct ps)) (map-append (λ x. x.0) before (a ∷ []))
    ∙ distinct-last (map (λ x. x.0) before) a.0
    ∙ ap (λ b. length (prefixes_of before) + one_unless b) (any-map (λ q. prefix_eq q a.0) (λ x. x.0) before)

-- ---- which

-- the attachments from one that is met last on
from_here : (attachments : List (Prefix × ℕ × ℕ)) (i : ℕ) (a : Prefix × ℕ × ℕ) → 0 < i → i ≤ length attachments → a ≡ get_or attachments (i - 1) a → drop (i - 1) attachments ≡ a ∷ drop i attachments
from_here attachments i a some within at =
    let next : suc (i - 1) ≡ i = omega (arith, some) in
    drop-cons attachments (i - 1) a (omega (arith, some, within)) ∙ ap (λ x. x ∷ drop (suc (i - 1)) attachments) (sym at) ∙ ap (λ n. a ∷ drop n attachments) next

-- their prefixes: that of the first is one more, but not where it is given behind
pub prefixes_from : (attachments : List (Prefix × ℕ × ℕ)) (i : ℕ) (a : Prefix × ℕ × ℕ) → 0 < i → i ≤ length attachments → a ≡ get_or attachments (i - 1) a → (given : Bool)
    → list_any (prefix_eq a.0) (map (λ x. x.0) (drop i attachments)) ≡ given → prefixes_of (drop (i - 1) attachments) ≡ (if given then prefixes_of (drop i attachments) else a.0 ∷ prefixes_of (drop i attachments))
prefixes_from attachments i a some within at given is =
    ap prefixes_of (from_here attachments i a some within at) ∙ ap (λ b. if b then prefixes_of (drop i attachments) else a.0 ∷ prefixes_of (drop i attachments)) is

either : (a b : Bool) → cond a true b ≡ (a || b)
either true b = refl
either false b = refl

pub given_from : (attachments : List (Prefix × ℕ × ℕ)) (i : ℕ) (a : Prefix × ℕ × ℕ) → 0 < i → i ≤ length attachments → a ≡ get_or attachments (i - 1) a → (p : Prefix) (before now : Bool)
    → now ≡ cond (prefix_eq a.0 p) true before → before ≡ list_any (prefix_eq p) (map (λ x. x.0) (drop i attachments)) → now ≡ list_any (prefix_eq p) (map (λ x. x.0) (drop (i - 1) attachments))
given_from attachments i a some within at p before now is was =
    is
    ∙ (λ j. cond (prefix_eq-turned a.0 p j) true (was j))
    ∙ either (prefix_eq p a.0) (list_any (prefix_eq p) (map (λ x. x.0) (drop i attachments)))
    ∙ sym (ap (λ (xs : List (Prefix × ℕ × ℕ)). list_any (prefix_eq p) (map (λ (x : Prefix × ℕ × ℕ). x.0) xs)) (from_here attachments i a some within at))

-- a list with one more at its back, but not where it is given, turned round
pub reversed_with : (given : Bool) (made longer : List Prefix) (p : Prefix) → longer ≡ (if given then made else made ++ p ∷ []) → reverse longer ≡ (if given then reverse made else p ∷ reverse made)
reversed_with true made longer p is = ap reverse is
reversed_with false made longer p is = ap reverse is ∙ reverse-append made (p ∷ [])
