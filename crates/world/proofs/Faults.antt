-- The faults of a network, one link or attachment after another.
use Rattle.std.proofs.Common.{refl, sym, ap, ◌∙◌, arith, add-one, ◌≡◌, ℕ, suc, ◌+◌, ◌<◌, ◌≤◌, Bool, true, false, not, ◌&&◌, nat_le, List, [], ◌∷◌, ◌++◌, take, drop, length, get_or, Option, Some, None, is_some, if◌then◌else◌, true≢false, lt-ltb, le-leb, length-take-le}
use Rattle.no_packet_loops.proofs.Common.{drop_all, list_any, has_same_ends, Prefix, LinkSpec, NetworkFault, BadRouters, BadLink, TooManyLinks, BadOwner, first_cause, link_causes, attachment_causes, is_bad_link, is_link_too_many, is_bad_attachment, network_fault, Limits, first_cause-some, first_cause-none, take-suc, drop-cons}
use Rattle.world.specs.Parts.{network_of_parts}

-- ---- causes before others

pub two_tests : {X : Type 0} (a b : Bool) (x y : X) (cs : List (Bool × X)) → a ≡ true → first_cause ((a, x) ∷ (b, y) ∷ cs) ≡ Some x
two_tests a b x y cs holds = ap (λ t. if t then Some x else first_cause ((b, y) ∷ cs)) holds

pub second_test : {X : Type 0} (a b : Bool) (x y : X) (cs : List (Bool × X)) → a ≡ false → b ≡ true → first_cause ((a, x) ∷ (b, y) ∷ cs) ≡ Some y
second_test a b x y cs fails holds = ap (λ t. if t then Some x else first_cause ((b, y) ∷ cs)) fails ∙ ap (λ t. if t then Some y else first_cause cs) holds

pub no_test : {X : Type 0} (a b : Bool) (x y : X) (cs : List (Bool × X)) → a ≡ false → b ≡ false → first_cause ((a, x) ∷ (b, y) ∷ cs) ≡ first_cause cs
no_test a b x y cs fails fails_too = ap (λ t. if t then Some x else first_cause ((b, y) ∷ cs)) fails ∙ ap (λ t. if t then Some y else first_cause cs) fails_too

-- two tests alone, of which one may hold, and the same two before others
pub first_of_two : {X : Type 0} (a b : Bool) (x y : X) (cs : List (Bool × X)) (o : Option X) → o ≡ first_cause ((a, x) ∷ (b, y) ∷ []) → is_some o ≡ true → first_cause ((a, x) ∷ (b, y) ∷ cs) ≡ o
first_of_two false false x y cs o is some = absurd (true≢false (sym some ∙ ap is_some is))
first_of_two _ _ x y cs o is some = sym is

pub none_of_two : {X : Type 0} (a b : Bool) (x y : X) (cs : List (Bool × X)) (o : Option X) → o ≡ first_cause ((a, x) ∷ (b, y) ∷ []) → is_some o ≡ false → first_cause ((a, x) ∷ (b, y) ∷ cs) ≡ first_cause cs
none_of_two false false x y cs o is none = refl
none_of_two _ _ x y cs o is none = absurd (true≢false (sym (ap is_some is) ∙ none))

-- ---- links

-- the causes of the links from number i on
abbrev pub link_causes_from : Limits → ℕ → List LinkSpec → ℕ → List (Bool × NetworkFault)
link_causes_from limits routers links i = link_causes limits routers (take i links) (drop i links)

module _ (limits : Limits) (routers : ℕ) (links : List LinkSpec) (i : ℕ) (link : LinkSpec) (below : i < length links) (at : link ≡ get_or links i link) where
  one_more : take i links ++ link ∷ [] ≡ take (suc i) links
  one_more = ap (λ x. take i links ++ x ∷ []) at ∙ sym (take-suc links i link below)

  link_causes_from-step : link_causes_from limits routers links i
      ≡ (is_bad_link routers (take i links) link, BadLink i) ∷ (is_link_too_many limits (take i links) link, TooManyLinks i) ∷ link_causes_from limits routers links (suc i)
  link_causes_from-step =
      let number : length (take i links) ≡ i = length-take-le i links (omega arith) in
      ap (link_causes limits routers (take i links)) (drop-cons links i link below ∙ ap (λ x. x ∷ drop (suc i) links) (sym at))
      ∙ λ j. (is_bad_link routers (take i links) link, BadLink (number j)) ∷ (is_link_too_many limits (take i links) link, TooManyLinks (number j)) ∷ link_causes limits routers (one_more j) (drop (suc i) links)

  pub bad_link_first : is_bad_link routers (take i links) link ≡ true → first_cause (link_causes_from limits routers links i) ≡ Some (BadLink i)
  bad_link_first bad = ap first_cause link_causes_from-step ∙ two_tests _ _ (BadLink i) (TooManyLinks i) (link_causes_from limits routers links (suc i)) bad

  pub too_many_first : is_bad_link routers (take i links) link ≡ false → is_link_too_many limits (take i links) link ≡ true → first_cause (link_causes_from limits routers links i) ≡ Some (TooManyLinks i)
  too_many_first fine many = ap first_cause link_causes_from-step ∙ second_test _ _ (BadLink i) (TooManyLinks i) (link_causes_from limits routers links (suc i)) fine many

  pub no_link_fault : is_bad_link routers (take i links) link ≡ false → is_link_too_many limits (take i links) link ≡ false
      → first_cause (link_causes_from limits routers links i) ≡ first_cause (link_causes_from limits routers links (i + 1))
  no_link_fault fine few = ap first_cause link_causes_from-step ∙ no_test _ _ (BadLink i) (TooManyLinks i) (link_causes_from limits routers links (suc i)) fine few
      ∙ ap (λ n. first_cause (link_causes_from limits routers links n)) (sym (add-one i))

  -- the fault of one link whose ends can be, and of the others where it has none
  module _ (ends : is_bad_link routers (take i links) link ≡ list_any (has_same_ends link) (take i links)) (fault : Option NetworkFault)
      (is : fault ≡ first_cause ((list_any (has_same_ends link) (take i links), BadLink (length (take i links))) ∷ (is_link_too_many limits (take i links) link, TooManyLinks (length (take i links))) ∷ [])) where
    fault_is : fault ≡ first_cause ((is_bad_link routers (take i links) link, BadLink i) ∷ (is_link_too_many limits (take i links) link, TooManyLinks i) ∷ [])
    fault_is =
        let number : length (take i links) ≡ i = length-take-le i links (omega arith) in
        let turned : list_any (has_same_ends link) (take i links) ≡ is_bad_link routers (take i links) link = sym ends in
        is ∙ λ j. first_cause ((turned j, BadLink (number j)) ∷ (is_link_too_many limits (take i links) link, TooManyLinks (number j)) ∷ [])

    pub link_fault_first : is_some fault ≡ true → first_cause (link_causes_from limits routers links i) ≡ fault
    link_fault_first some = ap first_cause link_causes_from-step ∙ first_of_two _ _ (BadLink i) (TooManyLinks i) (link_causes_from limits routers links (suc i)) fault fault_is some

    pub no_fault_here : is_some fault ≡ false → first_cause (link_causes_from limits routers links i) ≡ first_cause (link_causes_from limits routers links (i + 1))
    no_fault_here none = ap first_cause link_causes_from-step ∙ none_of_two _ _ (BadLink i) (TooManyLinks i) (link_causes_from limits routers links (suc i)) fault fault_is none
        ∙ ap (λ n. first_cause (link_causes_from limits routers links n)) (sym (add-one i))

pub link_causes_from-end : (limits : Limits) (routers : ℕ) (links : List LinkSpec) (i : ℕ) → length links ≤ i → first_cause (link_causes_from limits routers links i) ≡ None
link_causes_from-end limits routers links i past = ap (λ xs. first_cause (link_causes limits routers (take i links) xs)) (drop_all i links past)

-- ---- attachments

abbrev pub attachment_causes_from : Limits → ℕ → List (Prefix × ℕ × ℕ) → ℕ → List (Bool × NetworkFault)
attachment_causes_from limits routers attachments i = attachment_causes limits routers (take i attachments) (drop i attachments)

module _ (limits : Limits) (routers : ℕ) (attachments : List (Prefix × ℕ × ℕ)) (i : ℕ) (attachment : Prefix × ℕ × ℕ) (below : i < length attachments) (at : attachment ≡ get_or attachments i attachment) where
  attachment_causes_from-step : attachment_causes_from limits routers attachments i ≡ (is_bad_attachment limits routers (take i attachments) attachment, BadOwner i) ∷ attachment_causes_from limits routers attachments (suc i)
  attachment_causes_from-step =
      let number : length (take i attachments) ≡ i = length-take-le i attachments (omega arith) in
      let more : take i attachments ++ attachment ∷ [] ≡ take (suc i) attachments = ap (λ x. take i attachments ++ x ∷ []) at ∙ sym (take-suc attachments i attachment below) in
      ap (attachment_causes limits routers (take i attachments)) (drop-cons attachments i attachment below ∙ ap (λ x. x ∷ drop (suc i) attachments) (sym at))
      ∙ λ j. (is_bad_attachment limits routers (take i attachments) attachment, BadOwner (number j)) ∷ attachment_causes limits routers (more j) (drop (suc i) attachments)

  pub no_attachment_fault : is_bad_attachment limits routers (take i attachments) attachment ≡ false → first_cause (attachment_causes_from limits routers attachments i) ≡ first_cause (attachment_causes_from limits routers attachments (i + 1))
  no_attachment_fault fine = ap first_cause attachment_causes_from-step ∙ ap (λ t. if t then Some (BadOwner i) else first_cause (attachment_causes_from limits routers attachments (suc i))) fine
      ∙ ap (λ n. first_cause (attachment_causes_from limits routers attachments n)) (sym (add-one i))

-- ---- the whole network

-- with a number of routers that can be, the first fault is that of the links or, after them, of the attachments
module _ (limits : Limits) (routers : ℕ) (links : List LinkSpec) (attachments : List (Prefix × ℕ × ℕ)) (some : 0 < routers) (few : routers ≤ limits.routers) where
  fault_of_parts : network_fault limits (network_of_parts routers links attachments) ≡ first_cause (link_causes limits routers [] links ++ attachment_causes limits routers [] attachments)
  fault_of_parts = ap (λ b. if not b then Some BadRouters else first_cause (link_causes limits routers [] links ++ attachment_causes limits routers [] attachments))
      (ap (λ b. b && nat_le routers limits.routers) (lt-ltb 0 routers some) ∙ le-leb routers limits.routers few)

  pub fault_of_link : (fault : NetworkFault) → first_cause (link_causes limits routers [] links) ≡ Some fault → network_fault limits (network_of_parts routers links attachments) ≡ Some fault
  fault_of_link fault is = fault_of_parts ∙ first_cause-some (link_causes limits routers [] links) (attachment_causes limits routers [] attachments) fault is

  pub fault_of_attachments : first_cause (link_causes limits routers [] links) ≡ None → network_fault limits (network_of_parts routers links attachments) ≡ first_cause (attachment_causes limits routers [] attachments)
  fault_of_attachments none = fault_of_parts ∙ first_cause-none (link_causes limits routers [] links) (attachment_causes limits routers [] attachments) none
