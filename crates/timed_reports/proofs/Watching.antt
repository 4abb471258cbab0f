-- One for each router and each prefix.
use Rattle.std.proofs.Common.{refl, sym, ap, subst, ◌∙◌, arith, inl, inr, append-nil, append_assoc, ◌≡◌, ◌⊎◌, ℕ, suc, ◌+◌, ◌<◌, ◌≤◌, Bool, true, false, ◌||◌, List, [], ◌∷◌, ◌++◌, map, flat_map, take, length, get_or, Option, Some, None, option_to_list, slice_get}
use Rattle.std.proofs.lemmas.List.Concat.{flat_map-append}
use Rattle.no_packet_loops.proofs.Common.{None_not_Some, false≢true, prefix_eq, Prefix, get_or_from_slice_get, slice_get_within, list_any, cases_lt, map-append, take_more, map-range_with_len_more}
use Rattle.no_packet_loops.proofs.Machines.{prefix_same}
use Rattle.timed_reports.specs.{declared.spells.Spell.Spell, declared.spells.Watched.Watched}
use Rattle.timed_reports.specs.Records.{AreInOrder, IsListed, ended_by, watched, watched_at, with_routers}
use Rattle.timed_reports.proofs.Lists.{each_pushed, listed_first, listed_last}

-- ---- a push

module _ (xs zs : List Watched) (y : Watched) (pushed : zs ≡ xs ++ y ∷ []) where
  pub kept_more : (d : Watched) → IsListed d xs → IsListed d zs
  kept_more d listed = subst (IsListed d) (sym pushed) (listed_first d xs (y ∷ []) listed)

  pub none_more : ((k : ℕ) (c : Watched) → slice_get xs k ≡ Some c → c.since ≡ None) → y.since ≡ None → (k : ℕ) (c : Watched) → slice_get zs k ≡ Some c → c.since ≡ None
  none_more none last k c at = each_pushed (λ (d : Watched). d.since ≡ None) xs y none last k c (ap (λ (s : List Watched). slice_get s k) (sym pushed) ∙ at)

pub each_more : (p : Prefix) (place : ℕ) (xs zs : List Watched) → zs ≡ xs ++ watched place p None ∷ [] → ((i : ℕ) → i < place → IsListed (watched i p None) xs) → (i : ℕ) → i < place + 1 → IsListed (watched i p None) zs
each_more p place xs zs pushed each i below = by_place (cases_lt i place)
  where
    by_place : (i < place) ⊎ (place ≤ i) → IsListed (watched i p None) zs
    by_place (inl less) = kept_more xs zs (watched place p None) pushed (watched i p None) (each i less)
    by_place (inr over) =
        let here : place ≡ i = omega (arith, over, below) in
        subst (λ (k : ℕ). IsListed (watched k p None) zs) here (subst (IsListed (watched place p None)) (sym pushed) (listed_last (watched place p None) xs))

-- ---- one more prefix

pub prefixes_more : (ps : List Prefix) (n count : ℕ) (q : Prefix) (xs zs : List Watched) → q ≡ get_or ps n q → ((d : Watched) → IsListed d xs → IsListed d zs) → ((i : ℕ) → i < count → IsListed (watched i q None) zs)
    → ((k : ℕ) (p : Prefix) → k < n → slice_get ps k ≡ Some p → (i : ℕ) → i < count → IsListed (watched i p None) xs)
    → (k : ℕ) (p : Prefix) → k < n + 1 → slice_get ps k ≡ Some p → (i : ℕ) → i < count → IsListed (watched i p None) zs
prefixes_more ps n count q xs zs read kept new each k p below at i less = by_place (cases_lt k n)
  where
    by_place : (k < n) ⊎ (n ≤ k) → IsListed (watched i p None) zs
    by_place (inl lower) = kept (watched i p None) (each k p lower at i less)
    by_place (inr over) =
        let here : k ≡ n = omega (arith, over, below) in
        let same : q ≡ p = read ∙ ap (λ (j : ℕ). get_or ps j q) (sym here) ∙ get_or_from_slice_get ps k p q at in
        subst (λ (x : Prefix). IsListed (watched i x None) zs) same (new i less)

-- what passes a test stands at some place
any_place : {X : Type 0} (test : X → Bool) (xs : List X) → list_any test xs ≡ true → (k : ℕ) × (x : X) × (slice_get xs k ≡ Some x) × (test x ≡ true)
any_place test [] none = absurd (false≢true none)
any_place {X} test (x ∷ xs) some = by_test (λ later. any_place test xs later) (test x) refl some
  where
    by_test : (list_any test xs ≡ true → (k : ℕ) × (y : X) × (slice_get xs k ≡ Some y) × (test y ≡ true)) → (b : Bool) → test x ≡ b → (b || list_any test xs) ≡ true → (k : ℕ) × (y : X) × (slice_get (x ∷ xs) k ≡ Some y) × (test y ≡ true)
    by_test rest true passes all = (0, x, refl, passes)
    by_test rest false fails later = (let (k, y, at, passes) = rest later in (suc k, y, at, passes))

pub each_prefix : (ps : List Prefix) (count : ℕ) (zs : List Watched) → ((k : ℕ) (p : Prefix) → k < length ps → slice_get ps k ≡ Some p → (i : ℕ) → i < count → IsListed (watched i p None) zs)
    → (p : Prefix) (i : ℕ) → i < count → list_any (prefix_eq p) ps ≡ true → (since : Option ℕ) × IsListed (watched i p since) zs
each_prefix ps count zs each p i below one =
    let (k, q, at, same) = any_place (prefix_eq p) ps one in
    (None, subst (λ (x : Prefix). IsListed (watched i x None) zs) (sym (prefix_same p q same)) (each k q (slice_get_within ps k q at) at i below))

-- ---- their order

pub routers_more : (p : Prefix) (place : ℕ) (before xs zs : List Watched) → zs ≡ xs ++ watched place p None ∷ [] → map watched_at xs ≡ map watched_at before ++ with_routers place p → map watched_at zs ≡ map watched_at before ++ with_routers (place + 1) p
routers_more p place before xs zs pushed order =
    ap (map watched_at) pushed
    ∙ map-append watched_at xs (watched place p None ∷ [])
    ∙ ap (λ (l : List (Prefix × ℕ)). l ++ (p, place) ∷ []) order
    ∙ append_assoc (map watched_at before) (with_routers place p) ((p, place) ∷ [])
    ∙ ap (λ (l : List (Prefix × ℕ)). map watched_at before ++ l) (sym (map-range_with_len_more {X = Prefix × ℕ} (λ i. (p, i)) 0 place place (omega arith)))

pub in_order_more : (count : ℕ) (ps : List Prefix) (n : ℕ) (q : Prefix) (xs zs : List Watched) → n < length ps → q ≡ get_or ps n q → AreInOrder count (take n ps) xs → map watched_at zs ≡ map watched_at xs ++ with_routers count q → AreInOrder count (take (n + 1) ps) zs
in_order_more count ps n q xs zs below read order pushed =
    pushed
    ∙ ap (λ (l : List (Prefix × ℕ)). l ++ with_routers count q) order
    ∙ ap (λ (l : List (Prefix × ℕ)). flat_map (with_routers count) (take n ps) ++ l) (sym (append-nil (with_routers count q)))
    ∙ sym (flat_map-append (with_routers count) (take n ps) (q ∷ []))
    ∙ ap (flat_map (with_routers count)) (ap (λ (p : Prefix). take n ps ++ p ∷ []) read ∙ sym (take_more ps n q below))

-- ---- a look

-- the element that was read stands at its place
pub read_is : (cs : List Watched) (place : ℕ) (c d : Watched) → c ≡ get_or cs place c → slice_get cs place ≡ Some d → c ≡ d
read_is cs place c d read at = read ∙ get_or_from_slice_get cs place d c at

-- nothing ends
pub none_ended : (cs : List Watched) (ended : List Spell) (place now : ℕ) (holds : Bool) (c : Watched) → c ≡ get_or cs place c → ended_by now holds c ≡ None → (d : Watched) → slice_get cs place ≡ Some d → ended ≡ ended ++ option_to_list (ended_by now holds d)
none_ended cs ended place now holds c read none d at =
    sym (append-nil ended) ∙ ap (λ (o : Option Spell). ended ++ option_to_list o) (sym (ap (ended_by now holds) (sym (read_is cs place c d read at)) ∙ none))
