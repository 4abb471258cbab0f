-- The test that tells whether next hops are the same, and the order in which they are offered.
use Rattle.std.proofs.Common.{refl, ap, ◌∙◌, ◌≡◌, ℕ, true, false, ◌==◌, List, [], ◌∷◌, map, Option, Some, None, eqb-true, eq-eqb}
use Rattle.std.specs.{FinMap.is_sorted, FinMap.find as row_of, Option.option_map_or}
use Rattle.std.proofs.lemmas.Bool.{and_parts, and_from, false≢true}
use Rattle.ipv4_prefix.specs.Prefix.{Prefix, prefix_cmp}
use Rattle.network_model.specs.{declared.network.Offer.Offer, declared.network.Offer.TheVariants.One, declared.network.Offer.TheVariants.Equal, declared.network.Offer.TheVariants.Feasible, declared.route.NextHop.NextHop, Machine.Machine}
use Rattle.network_model.specs.{NextHops.hop_eq, NextHops.hops_eq, NextHops.hops_of, NextHops.hops_by_prefix, Step.has_hops}
use Rattle.network_model.proofs.RowLaws.{sorted-map}

-- next hops that are compared with themselves are the same
pub hops_eq-refl : (hs : List NextHop) → hops_eq hs hs ≡ true
hops_eq-refl [] = refl
hops_eq-refl (h ∷ hs) = and_from (hop_eq h h) (hops_eq hs hs) (and_from (h.port == h.port) (h.session == h.session) (eq-eqb h.port h.port refl) (eq-eqb h.session h.session refl)) (hops_eq-refl hs)

-- a next hop that passes the test is the same
pub hop_eq-is : (a b : NextHop) → hop_eq a b ≡ true → a ≡ b
hop_eq-is a b h =
    let both = and_parts (a.port == b.port) (a.session == b.session) h in
    let p : a.port ≡ b.port = eqb-true a.port b.port both.0 in
    let s : a.session ≡ b.session = eqb-true a.session b.session both.1 in
    λ i. record { port = p i; session = s i }

-- and so are next hops
pub hops_eq-is : (xs ys : List NextHop) → hops_eq xs ys ≡ true → xs ≡ ys
hops_eq-is [] [] h = refl
hops_eq-is [] (y ∷ ys) h = absurd (false≢true h)
hops_eq-is (x ∷ xs) [] h = absurd (false≢true h)
hops_eq-is (x ∷ xs) (y ∷ ys) h =
    let both = and_parts (hop_eq x y) (hops_eq xs ys) h in
    let a : x ≡ y = hop_eq-is x y both.0 in
    let b : xs ≡ ys = hops_eq-is xs ys both.1 in
    λ i. a i ∷ b i

-- next hops that are in force for a prefix are found there
pub hops_there : (p : Prefix) (rows : List (Prefix × List NextHop)) (hs : List NextHop) → has_hops rows (p, hs) ≡ true → row_of prefix_cmp p rows ≡ Some hs
hops_there p rows hs h = by_row (row_of prefix_cmp p rows) h
  where
    by_row : (o : Option (List NextHop)) → option_map_or (λ xs. hops_eq xs hs) o false ≡ true → o ≡ Some hs
    by_row None h = absurd (false≢true h)
    by_row (Some xs) h = ap (λ ys. Some ys) (hops_eq-is xs hs h)

-- the offered next hops are in the order of the prefixes
pub offered_sorted : (o : Offer) (session : ℕ → ℕ) (ms : List (Prefix × Machine)) → is_sorted prefix_cmp ms ≡ true → is_sorted prefix_cmp (hops_by_prefix o session ms) ≡ true
offered_sorted One session ms sorted = refl
offered_sorted (Equal most) session ms sorted = sorted-map prefix_cmp (λ m. hops_of (Equal most) session m) ms ∙ sorted
offered_sorted (Feasible most) session ms sorted = sorted-map prefix_cmp (λ m. hops_of (Feasible most) session m) ms ∙ sorted

-- they are those of each machine, where a row may have more than one
pub offered_rows : (o : Offer) → (o ≡ One → ⊥) → (session : ℕ → ℕ) (ms : List (Prefix × Machine)) → hops_by_prefix o session ms ≡ map (λ m. (m.0, hops_of o session m.1)) ms
offered_rows One many session ms = absurd (many refl)
offered_rows (Equal most) many session ms = refl
offered_rows (Feasible most) many session ms = refl

-- such an offer is not of one alone
pub equal_not_one : (most : ℕ) → ◌≡◌ {A = Offer} (Equal most) One → ⊥
equal_not_one most e = cc

pub feasible_not_one : (most : ℕ) → ◌≡◌ {A = Offer} (Feasible most) One → ⊥
feasible_not_one most e = cc
