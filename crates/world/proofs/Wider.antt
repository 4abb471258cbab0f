-- A network without faults within some limits has none within wider ones.
use Rattle.std.proofs.Common.{refl, ap, ◌∙◌, arith, ◌≡◌, ℕ, ◌<◌, ◌≤◌, Bool, true, false, not, ◌&&◌, ◌||◌, ◌==◌, nat_lt, List, [], ◌∷◌, ◌++◌, length, None, true≢false, ltb-true, lt-ltb}
use Rattle.no_packet_loops.proofs.Common.{list_any, AreWithin, Limits, Prefix, LinkSpec, NetworkFault, BadLink, TooManyLinks, BadOwner, Network, prefixes_of, first_cause, first_none, has_same_prefix, is_bad_link, is_link_too_many, is_bad_attachment, link_causes, attachment_causes, degree, network_fault}
use Rattle.world.proofs.Faults.{no_test, fault_of_attachments}

-- a number below a limit is below a greater one
below_wider : (n l m : ℕ) → l ≤ m → nat_lt n l ≡ true → nat_lt n m ≡ true
below_wider n l m within below = lt-ltb n m (omega (arith, within, ltb-true n l below))

module _ (l m : Limits) (within : AreWithin l m) where
  -- a link that is not too many
  fewer_links : (before : List LinkSpec) (s : LinkSpec) → is_link_too_many l before s ≡ false → is_link_too_many m before s ≡ false
  fewer_links before s few = by_tests (nat_lt (length before) l.links) refl (nat_lt (degree s.a before) l.ports) refl (nat_lt (degree s.b before) l.ports) refl few
    where
      by_tests : (x : Bool) → nat_lt (length before) l.links ≡ x → (y : Bool) → nat_lt (degree s.a before) l.ports ≡ y → (z : Bool) → nat_lt (degree s.b before) l.ports ≡ z → not (x && y && z) ≡ false → is_link_too_many m before s ≡ false
      by_tests true x true y true z h =
          let links = below_wider (length before) l.links m.links within.links x in
          let of_a = below_wider (degree s.a before) l.ports m.ports within.ports y in
          let of_b = below_wider (degree s.b before) l.ports m.ports within.ports z in
          λ i. not (links i && of_a i && of_b i)
      by_tests _ x _ _ _ _ h = absurd (true≢false h)

  links_wider : (routers : ℕ) (before ss : List LinkSpec) → first_cause (link_causes l routers before ss) ≡ None → first_cause (link_causes m routers before ss) ≡ None
  links_wider routers before [] none = refl
  links_wider routers before (s ∷ ss) none =
      let onward : List (Bool × NetworkFault) = link_causes l routers (before ++ s ∷ []) ss in
      let fine : (is_bad_link routers before s ≡ false) × (first_cause ((is_link_too_many l before s, TooManyLinks (length before)) ∷ onward) ≡ None)
      = first_none (is_bad_link routers before s) (BadLink (length before)) ((is_link_too_many l before s, TooManyLinks (length before)) ∷ onward) none in
      let few : (is_link_too_many l before s ≡ false) × (first_cause onward ≡ None) = first_none (is_link_too_many l before s) (TooManyLinks (length before)) onward fine.1 in
      no_test (is_bad_link routers before s) (is_link_too_many m before s) (BadLink (length before)) (TooManyLinks (length before)) (link_causes m routers (before ++ s ∷ []) ss) fine.0 (fewer_links before s few.0)
      ∙ links_wider routers (before ++ s ∷ []) ss few.1

  good_attachment : (routers : ℕ) (before : List (Prefix × ℕ × ℕ)) (a : Prefix × ℕ × ℕ) → is_bad_attachment l routers before a ≡ false → is_bad_attachment m routers before a ≡ false
  good_attachment routers before a good =
      by_tests (nat_lt a.1 routers) (nat_lt (length before) l.attachments) (nat_lt (length before) m.attachments) (below_wider (length before) l.attachments m.attachments within.attachments)
      (list_any (λ b. has_same_prefix a b && (b.1 == a.1)) before)
      (list_any (has_same_prefix a) before) (nat_lt (length (prefixes_of before)) l.prefixes) (nat_lt (length (prefixes_of before)) m.prefixes) (below_wider (length (prefixes_of before)) l.prefixes m.prefixes within.prefixes) good
    where
      by_tests : (known room wider : Bool) → (room ≡ true → wider ≡ true) → (twice given new newer : Bool) → (new ≡ true → newer ≡ true)
          → (not (known && room) || twice || not (given || new)) ≡ false → (not (known && wider) || twice || not (given || newer)) ≡ false
      by_tests true true wider w false true new newer n h = ap (λ x. not (true && x) || false || not (true || newer)) (w refl)
      by_tests true true wider w false false true newer n h = let e = w refl in let f = n refl in λ i. not (true && e i) || false || not (false || f i)
      by_tests _ _ wider w _ _ _ newer n h = absurd (true≢false h)

  attachments_wider : (routers : ℕ) (before rest : List (Prefix × ℕ × ℕ)) → first_cause (attachment_causes l routers before rest) ≡ None → first_cause (attachment_causes m routers before rest) ≡ None
  attachments_wider routers before [] none = refl
  attachments_wider routers before (a ∷ rest) none =
      let here : (is_bad_attachment l routers before a ≡ false) × (first_cause (attachment_causes l routers (before ++ a ∷ []) rest) ≡ None)
      = first_none (is_bad_attachment l routers before a) (BadOwner (length before)) (attachment_causes l routers (before ++ a ∷ []) rest) none in
      ap (λ t. first_cause ((t, BadOwner (length before)) ∷ attachment_causes m routers (before ++ a ∷ []) rest)) (good_attachment routers before a here.0)
      ∙ attachments_wider routers (before ++ a ∷ []) rest here.1

  -- the whole network, which has some routers, and no more than the limit
  pub wider : (n : Network) → 0 < n.routers → n.routers ≤ l.routers → first_cause (link_causes l n.routers [] n.links) ≡ None → first_cause (attachment_causes l n.routers [] n.attachments) ≡ None → network_fault m n ≡ None
  wider n some few links attachments =
      fault_of_attachments m n.routers n.links n.attachments some (let more = within.routers in omega (arith, few, more)) (links_wider n.routers [] n.links links)
      ∙ attachments_wider n.routers [] n.attachments attachments
