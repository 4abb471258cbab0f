-- A network that can be opened within some limits has no more of anything than they allow. So no router has more than 32 ports.
use Rattle.std.proofs.Common.{refl, sym, ap, subst, ◌∙◌, arith, length-append, append_assoc, ◌≡◌, ℕ, suc, ◌+◌, ◌<◌, ◌≤◌, Bool, true, false, cond, not, ◌&&◌, ◌||◌, ◌==◌, nat_lt, nat_le, if◌then◌else◌, List, [], ◌∷◌, ◌++◌, length, filter, Some, None, option_map, eqb-true, true≢false, ltb-true, leb-true, append-nil}
use Rattle.no_packet_loops.proofs.Common.{filter-append, length-filter, A, B, LinkSpec, NetworkFault, BadRouters, BadLink, TooManyLinks, Network, places_from, first_cause, link_causes, attachment_causes, widest_limits, is_bad_link, is_link_too_many, touches, degree, most_links, network_fault, place_of, first_none, none_in_both, Limits, Prefix, BadOwner, list_any, has_same_prefix, is_bad_attachment, prefixes_of, cons_option}
use Rattle.world.specs.Parts.{HasAtMost}
use Rattle.world.proofs.Prefixes.{one_unless, one_more_prefix}

-- ---- a router has a port for each link that touches it

length-places_from : (l i : ℕ) (ss : List LinkSpec) → length (places_from l i ss) ≡ length (filter (touches i) ss)
length-places_from l i [] = refl
length-places_from l i (s ∷ ss) = by_ends (s.a == i) (s.b == i) (length-places_from (l + 1) i ss)
  where
    by_ends : (a b : Bool) → length (places_from (l + 1) i ss) ≡ length (filter (touches i) ss)
        → length (cons_option (option_map (place_of l) (if a then Some A else (if b then Some B else None))) (places_from (l + 1) i ss)) ≡ length (cond (a || b) (s ∷ filter (touches i) ss) (filter (touches i) ss))
    by_ends false false rest = rest
    by_ends _ _ rest = ap suc rest

pub ports-degree : (i : ℕ) (ss : List LinkSpec) → length (places_from 0 i ss) ≡ degree i ss
ports-degree i ss = length-places_from 0 i ss ∙ length-filter (touches i) ss

-- ---- one link more

degree-more : (i : ℕ) (before : List LinkSpec) (s : LinkSpec) → degree i (before ++ s ∷ []) ≡ degree i before + length (filter (touches i) (s ∷ []))
degree-more i before s =
    sym (length-filter (touches i) (before ++ s ∷ []))
    ∙ ap length (filter-append (touches i) before (s ∷ []))
    ∙ length-append (filter (touches i) before) (filter (touches i) (s ∷ []))
    ∙ ap (λ n. n + length (filter (touches i) (s ∷ []))) (length-filter (touches i) before)

all_three : (a b c : Bool) → not (a && b && c) ≡ false → (a ≡ true) × (b ≡ true) × (c ≡ true)
all_three true true true e = (refl, refl, refl)
all_three _ _ _ e = absurd (true≢false e)

module _ (limits : Limits) where
  within_one : (i : ℕ) (before : List LinkSpec) (s : LinkSpec) → is_link_too_many limits before s ≡ false → degree i before ≤ limits.ports → degree i (before ++ s ∷ []) ≤ limits.ports
  within_one i before s few within = by_ends (s.a == i) refl (s.b == i) refl
    where
      parts : (nat_lt (length before) limits.links ≡ true) × (nat_lt (degree s.a before) limits.ports ≡ true) × (nat_lt (degree s.b before) limits.ports ≡ true)
      parts = all_three (nat_lt (length before) limits.links) (nat_lt (degree s.a before) limits.ports) (nat_lt (degree s.b before) limits.ports) few

      more : degree i (before ++ s ∷ []) ≡ degree i before + length (filter (touches i) (s ∷ []))
      more = degree-more i before s

      at_most_one : length (filter (touches i) (s ∷ [])) ≤ 1
      at_most_one = by_touch (touches i s)
        where
          by_touch : (b : Bool) → length (cond b (s ∷ []) []) ≤ 1
          by_touch true = omega arith
          by_touch false = omega arith

      by_ends : (a : Bool) → (s.a == i) ≡ a → (b : Bool) → (s.b == i) ≡ b → degree i (before ++ s ∷ []) ≤ limits.ports
      by_ends true here b e =
          let fewer : degree i before < limits.ports = subst (λ n. degree n before < limits.ports) (eqb-true s.a i here) (ltb-true (degree s.a before) limits.ports parts.1) in
          omega (arith, fewer, more, at_most_one)
      by_ends false a true here =
          let fewer : degree i before < limits.ports = subst (λ n. degree n before < limits.ports) (eqb-true s.b i here) (ltb-true (degree s.b before) limits.ports parts.2) in
          omega (arith, fewer, more, at_most_one)
      by_ends false a false b =
          let none : length (filter (touches i) (s ∷ [])) ≡ 0 = ap (λ t. length (cond (t || (s.b == i)) (s ∷ []) [])) a ∙ ap (λ t. length (cond t (s ∷ []) [])) b in
          omega (arith, within, more, none)

  -- ---- all links

  -- the first of these links is not too many, and the others have no fault
  first_link : (routers : ℕ) (before : List LinkSpec) (s : LinkSpec) (ss : List LinkSpec) → first_cause (link_causes limits routers before (s ∷ ss)) ≡ None
      → (is_link_too_many limits before s ≡ false) × (first_cause (link_causes limits routers (before ++ s ∷ []) ss) ≡ None)
  first_link routers before s ss none =
      let onward : List (Bool × NetworkFault) = link_causes limits routers (before ++ s ∷ []) ss in
      let fine : (is_bad_link routers before s ≡ false) × (first_cause ((is_link_too_many limits before s, TooManyLinks (length before)) ∷ onward) ≡ None)
      = first_none (is_bad_link routers before s) (BadLink (length before)) ((is_link_too_many limits before s, TooManyLinks (length before)) ∷ onward) none in
      first_none (is_link_too_many limits before s) (TooManyLinks (length before)) onward fine.1

  ports_within : (routers i : ℕ) (before ss : List LinkSpec) → first_cause (link_causes limits routers before ss) ≡ None → degree i before ≤ limits.ports → degree i (before ++ ss) ≤ limits.ports
  ports_within routers i before [] none within = subst (λ xs. degree i xs ≤ limits.ports) (sym (append-nil before)) within
  ports_within routers i before (s ∷ ss) none within =
      let first = first_link routers before s ss none in
      subst (λ xs. degree i xs ≤ limits.ports) (append_assoc before (s ∷ []) ss)
      (ports_within routers i (before ++ s ∷ []) ss first.1 (within_one i before s first.0 within))

  links_within : (routers : ℕ) (before ss : List LinkSpec) → first_cause (link_causes limits routers before ss) ≡ None → length before ≤ limits.links → length before + length ss ≤ limits.links
  links_within routers before [] none within = omega (arith, within)
  links_within routers before (s ∷ ss) none within =
      let first = first_link routers before s ss none in
      let room : length before < limits.links = ltb-true (length before) limits.links (all_three (nat_lt (length before) limits.links) (nat_lt (degree s.a before) limits.ports) (nat_lt (degree s.b before) limits.ports) first.0).0 in
      let more : length (before ++ s ∷ []) ≡ length before + 1 = length-append before (s ∷ []) in
      let rest : length (before ++ s ∷ []) + length ss ≤ limits.links = links_within routers (before ++ s ∷ []) ss first.1 (omega (arith, room, more)) in
      omega (arith, rest, more)

  -- ---- all attachments

  -- so many attachments, and so many prefixes of theirs, are within the limits
  abbrev IsFew : List (Prefix × ℕ × ℕ) → Type 0
  IsFew attachments = (length attachments ≤ limits.attachments) × (length (prefixes_of attachments) ≤ limits.prefixes)

  one_attachment : (routers : ℕ) (before : List (Prefix × ℕ × ℕ)) (a : Prefix × ℕ × ℕ) → is_bad_attachment limits routers before a ≡ false → IsFew before → IsFew (before ++ a ∷ [])
  one_attachment routers before a good few =
      by_tests (nat_lt a.1 routers) (nat_lt (length before) limits.attachments) refl (list_any (λ b. has_same_prefix a b && (b.1 == a.1)) before)
      (list_any (has_same_prefix a) before) refl (nat_lt (length (prefixes_of before)) limits.prefixes) refl good
    where
      longer : length (before ++ a ∷ []) ≡ length before + 1
      longer = length-append before (a ∷ [])

      counted : (given : Bool) → list_any (has_same_prefix a) before ≡ given → length (prefixes_of (before ++ a ∷ [])) ≡ length (prefixes_of before) + one_unless given
      counted given is = one_more_prefix before a ∙ ap (λ b. length (prefixes_of before) + one_unless b) is

      by_tests : (known room : Bool) → nat_lt (length before) limits.attachments ≡ room → (twice given : Bool) → list_any (has_same_prefix a) before ≡ given → (new : Bool) → nat_lt (length (prefixes_of before)) limits.prefixes ≡ new
          → (not (known && room) || twice || not (given || new)) ≡ false → IsFew (before ++ a ∷ [])
      by_tests true true r false true is new n h =
          let room = ltb-true (length before) limits.attachments r in
          let count = counted true is in
          let was = few.1 in
          (omega (arith, room, longer), omega (arith, count, was))
      by_tests true true r false false is true n h =
          let room = ltb-true (length before) limits.attachments r in
          let count = counted false is in
          let one = ltb-true (length (prefixes_of before)) limits.prefixes n in
          (omega (arith, room, longer), omega (arith, count, one))
      by_tests _ _ r _ _ is _ n h = absurd (true≢false h)

  attachments_within : (routers : ℕ) (before rest : List (Prefix × ℕ × ℕ)) → first_cause (attachment_causes limits routers before rest) ≡ None → IsFew before → IsFew (before ++ rest)
  attachments_within routers before [] none few = subst IsFew (sym (append-nil before)) few
  attachments_within routers before (a ∷ rest) none few =
      let first : (is_bad_attachment limits routers before a ≡ false) × (first_cause (attachment_causes limits routers (before ++ a ∷ []) rest) ≡ None)
      = first_none (is_bad_attachment limits routers before a) (BadOwner (length before)) (attachment_causes limits routers (before ++ a ∷ []) rest) none in
      subst IsFew (append_assoc before (a ∷ []) rest) (attachments_within routers (before ++ a ∷ []) rest first.1 (one_attachment routers before a first.0 few))

  -- ---- the whole network

  -- neither the links nor the attachments have a fault
  pub parts_fine : (n : Network) → network_fault limits n ≡ None
      → (not (nat_lt 0 n.routers && nat_le n.routers limits.routers) ≡ false) × (first_cause (link_causes limits n.routers [] n.links) ≡ None) × (first_cause (attachment_causes limits n.routers [] n.attachments) ≡ None)
  parts_fine n none =
      let parts : (not (nat_lt 0 n.routers && nat_le n.routers limits.routers) ≡ false) × (first_cause (link_causes limits n.routers [] n.links ++ attachment_causes limits n.routers [] n.attachments) ≡ None)
      = first_none (not (nat_lt 0 n.routers && nat_le n.routers limits.routers)) BadRouters (link_causes limits n.routers [] n.links ++ attachment_causes limits n.routers [] n.attachments) none in
      let both : (first_cause (link_causes limits n.routers [] n.links) ≡ None) × (first_cause (attachment_causes limits n.routers [] n.attachments) ≡ None)
      = none_in_both (link_causes limits n.routers [] n.links) (attachment_causes limits n.routers [] n.attachments) parts.1 in
      (parts.0, both.0, both.1)

  pub within_limits : (n : Network) → network_fault limits n ≡ None → HasAtMost limits n
  within_limits n none =
      let parts = parts_fine n none in
      let few : IsFew ([] ++ n.attachments) = attachments_within n.routers [] n.attachments parts.2 (omega arith, omega arith) in
      let links : 0 + length n.links ≤ limits.links = links_within n.routers [] n.links parts.1 (omega arith) in
      record {
        routers = leb-true n.routers limits.routers (second (nat_lt 0 n.routers) (nat_le n.routers limits.routers) parts.0);
        links = omega (arith, links);
        ports = λ i. ports_within n.routers i [] n.links parts.1 (omega arith);
        prefixes = few.1;
        attachments = few.0;
      }
    where
      second : (a b : Bool) → not (a && b) ≡ false → b ≡ true
      second true true e = refl
      second _ _ e = absurd (true≢false e)

-- so no router has more than 32 ports
pub few_ports : (n : Network) (i : ℕ) → network_fault widest_limits n ≡ None → length (places_from 0 i n.links) ≤ 32
few_ports n i none =
    let degrees : degree i n.links ≤ 32 = (within_limits widest_limits n none).ports i in
    let ports : length (places_from 0 i n.links) ≡ degree i n.links = ports-degree i n.links in
    omega (arith, degrees, ports)

-- nor has the network more links than a network may have
pub few_links : (n : Network) → network_fault widest_limits n ≡ None → length n.links ≤ most_links
few_links n none = (within_limits widest_limits n none).links
