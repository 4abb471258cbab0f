-- What a network without faults is, as the laws use it: each link joins two routers and costs something, and so does each attachment.
use Rattle.std.proofs.Common.{refl, sym, subst, ◌∙◌, arith, ◌≡◌, ◌≢◌, ℕ, zero, suc, ◌<◌, ◌≤◌, Bool, true, false, not, ◌&&◌, ◌||◌, ◌==◌, nat_lt, nat_le, List, [], ◌∷◌, ◌++◌, length, Some, None, slice_get, All, true≢false, ltb-true, leb-true, eq-eqb}
use Rattle.no_packet_loops.proofs.Common.{list_any, IsCost, Prefix, LinkSpec, NetworkFault, BadRouters, BadLink, TooManyLinks, Network, first_cause, link_causes, attachment_causes, is_bad_link, is_link_too_many, has_same_ends, most_routers, widest_limits, HasCosts, IsNetwork, first_none, none_in_both, Some_injective, None_not_Some}

-- a link whose two ends are routers of the network, and not one and the same, and that costs at least 1 each way
pub record IsWiredLink (routers : ℕ) (s : LinkSpec) : Type 0 where
  pub a_known : s.a < routers
  pub b_known : s.b < routers
  pub ends_differ : s.a ≢ s.b
  pub from_a_costs : 1 ≤ s.from_a
  pub from_b_costs : 1 ≤ s.from_b

-- all links are such, and each attachment has a cost
pub record IsWired (n : Network) : Type 0 where
  pub are_links : (l : ℕ) (s : LinkSpec) → slice_get n.links l ≡ Some s → IsWiredLink n.routers s
  pub attachment_costs : (k : ℕ) (a : Prefix × ℕ × ℕ) → slice_get n.attachments k ≡ Some a → IsCost a.2

-- ---- tests that do not pass

-- where none of three tests passes, the first two do not
neither : (a b c : Bool) → (a || b || c) ≡ false → (a ≡ false) × (b ≡ false)
neither false false c e = (refl, refl)
neither _ _ c e = absurd (true≢false e)

-- two tests that do not fail together both pass
both : (a b : Bool) → not (a && b) ≡ false → (a ≡ true) × (b ≡ true)
both true true e = (refl, refl)
both _ _ e = absurd (true≢false e)

-- ---- links

-- the first link has no fault, nor have the others
first_link : (routers : ℕ) (before : List LinkSpec) (x : LinkSpec) (xs : List LinkSpec) → first_cause (link_causes widest_limits routers before (x ∷ xs)) ≡ None → (is_bad_link routers before x ≡ false) × (first_cause (link_causes widest_limits routers (before ++ x ∷ []) xs) ≡ None)
first_link routers before x xs none =
    let rest : List (Bool × NetworkFault) = link_causes widest_limits routers (before ++ x ∷ []) xs in
    let here : (is_bad_link routers before x ≡ false) × (first_cause ((is_link_too_many widest_limits before x, TooManyLinks (length before)) ∷ rest) ≡ None)
    = first_none (is_bad_link routers before x) (BadLink (length before)) ((is_link_too_many widest_limits before x, TooManyLinks (length before)) ∷ rest) none in
    (here.0, (first_none (is_link_too_many widest_limits before x) (TooManyLinks (length before)) rest here.1).1)

-- among links without a fault, none is a bad one, beside some links
good_link : (routers : ℕ) (before ss : List LinkSpec) → first_cause (link_causes widest_limits routers before ss) ≡ None → (l : ℕ) (s : LinkSpec) → slice_get ss l ≡ Some s → (earlier : List LinkSpec) × (is_bad_link routers earlier s ≡ false)
good_link routers before [] none l s at = absurd (None_not_Some at)
good_link routers before (x ∷ xs) none zero s at = (before, subst (λ y. is_bad_link routers before y ≡ false) (Some_injective at) (first_link routers before x xs none).0)
good_link routers before (x ∷ xs) none (suc l) s at = good_link routers (before ++ x ∷ []) xs (first_link routers before x xs none).1 l s at

-- what holds of all holds of the one at a place
all_there : {A : Type 0} (P : A → Type 0) (xs : List A) → All P xs → (l : ℕ) (x : A) → slice_get xs l ≡ Some x → P x
all_there P [] all l x at = absurd (None_not_Some at)
all_there P (y ∷ ys) all zero x at = subst P (Some_injective at) (all 0 y (omega arith))
all_there P (y ∷ ys) all (suc l) x at = all_there P ys (λ i d below. all (suc i) d (omega (arith, below))) l x at

-- no fault stands in the number of routers or in the links
record HasNoFault (n : Network) : Type 0 where
  some_routers : not (nat_lt 0 n.routers && nat_le n.routers most_routers) ≡ false
  good_links : first_cause (link_causes widest_limits n.routers [] n.links) ≡ None

-- a network has no fault in any of its parts
by_part : (n : Network) → IsNetwork n → HasNoFault n
by_part n N =
    let first : (not (nat_lt 0 n.routers && nat_le n.routers most_routers) ≡ false) × (first_cause (link_causes widest_limits n.routers [] n.links ++ attachment_causes widest_limits n.routers [] n.attachments) ≡ None)
    = first_none (not (nat_lt 0 n.routers && nat_le n.routers most_routers)) BadRouters (link_causes widest_limits n.routers [] n.links ++ attachment_causes widest_limits n.routers [] n.attachments) N.no_fault in
    let rest : (first_cause (link_causes widest_limits n.routers [] n.links) ≡ None) × (first_cause (attachment_causes widest_limits n.routers [] n.attachments) ≡ None)
    = none_in_both (link_causes widest_limits n.routers [] n.links) (attachment_causes widest_limits n.routers [] n.attachments) first.1 in
    record { some_routers = first.0; good_links = rest.0 }

-- each link of a network joins two routers of it, and costs at least 1 each way
wired_link : (n : Network) → IsNetwork n → (l : ℕ) (s : LinkSpec) → slice_get n.links l ≡ Some s → IsWiredLink n.routers s
wired_link n N l s at =
    let good : (earlier : List LinkSpec) × (is_bad_link n.routers earlier s ≡ false) = good_link n.routers [] n.links (by_part n N).good_links l s at in
    let parts : (not (nat_lt s.a n.routers && nat_lt s.b n.routers) ≡ false) × ((s.a == s.b) ≡ false)
    = neither (not (nat_lt s.a n.routers && nat_lt s.b n.routers)) (s.a == s.b) (list_any (has_same_ends s) good.0) good.1 in
    let ends : (nat_lt s.a n.routers ≡ true) × (nat_lt s.b n.routers ≡ true) = both (nat_lt s.a n.routers) (nat_lt s.b n.routers) parts.0 in
    let costs : HasCosts s = all_there HasCosts n.links N.costs l s at in
    record {
      a_known = ltb-true s.a n.routers ends.0;
      b_known = ltb-true s.b n.routers ends.1;
      ends_differ = λ same. true≢false (sym (eq-eqb s.a s.b same) ∙ parts.1);
      from_a_costs = (costs.from_a).positive;
      from_b_costs = (costs.from_b).positive;
    }

-- a network that can be opened is wired
pub wired : (n : Network) → IsNetwork n → IsWired n
wired n N = record {
  are_links = wired_link n N;
  attachment_costs = all_there (λ a. IsCost a.2) n.attachments N.attachment_costs;
}

-- ---- limits

-- a network has no more routers than the widest
pub few_routers : (n : Network) → IsNetwork n → n.routers ≤ most_routers
few_routers n N = leb-true n.routers most_routers (both (nat_lt 0 n.routers) (nat_le n.routers most_routers) (by_part n N).some_routers).1

-- each link of a network has costs of links, from both ends
pub link_has_costs : (n : Network) → IsNetwork n → (l : ℕ) (s : LinkSpec) → slice_get n.links l ≡ Some s → HasCosts s
link_has_costs n N = all_there HasCosts n.links N.costs
