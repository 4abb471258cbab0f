-- What the words of a line ask for, by the first of them.
use Rattle.std.proofs.Common.{◌≡◌, ◌≢◌, ℕ, inl, inr, subst, ◌<◌, ◌≤◌, false, List, [], ◌∷◌, Some, None, bytes_eq, codes, decimal, refl, sym, ap, ◌∙◌, arith, true≢false}
use Rattle.script.proofs.Common.{Spells, LinkSpec, Step, LinkUp, LinkDown, SetCost, Deliver, Publish, Release, Attach, Detach, Prefix, SpellsPrefix, IsFirstFault, PrefixFault, IsCost, degree, join_with_byte, decimal_injective, bytes_eq-Decides, join_with_byte-slice_split, Text, words_of, IsName, router_number, NamesRouter, NamesText, NamesTextAndNumber, NamesTwice, NamesWay, NamesLink, NamesNumber, IsKnownPrefix, NamesNoPrefix, AsksCost, AsksNoCost, AsksDelivery, AsksBadAttachment, AsksNoAttachment, AsksStep, AsksBadStep, AsksNoStep, IsPortOn, port_on, link_between}
use Rattle.script.specs.{declared.fault.LineFault.LineFault, declared.fault.LineFault.TheVariants.BadCost, declared.fault.LineFault.TheVariants.BadCommand, declared.fault.LineFault.TheVariants.Prefix as OfPrefix}
use Rattle.script.proofs.{NameTexts.words-name, Ports.is_port, Ports.port_is}

-- two lists that begin with different words differ
pub clash : (v w : Text) (ws us : List Text) → bytes_eq v w ≡ false → v ∷ ws ≡ w ∷ us → ⊥
clash v w ws us apart same = true≢false (sym ((bytes_eq-Decides v w).1 (let heads : v ≡ w = cc in heads)) ∙ apart)

pub first_same : (v w : Text) (ws us : List Text) → v ∷ ws ≡ w ∷ us → v ≡ w
first_same v w ws us same = cc

pub rest_same : (v w : Text) (ws us : List Text) → v ∷ ws ≡ w ∷ us → ws ≡ us
rest_same v w ws us same = cc

-- a line of one word is that word
words-single : (line word : Text) → words_of line ≡ word ∷ [] → line ≡ word
words-single line word is = sym (join_with_byte-slice_split 32 line) ∙ ap (join_with_byte 32) is

-- operands that are a known name
pub names_router : (names : List Text) (verb operands : Text) (router : ℕ) → router_number names operands ≡ Some router → IsName operands → NamesRouter names verb (verb ∷ words_of operands) router
names_router names verb operands router known is = record { name = operands; spelled = ap (λ ws. verb ∷ ws) (words-name operands is); known = known }

-- operands that are no known name
pub names_no_router : (names : List Text) (verb operands : Text) (router : ℕ) → router_number names operands ≡ None → NamesRouter names verb (verb ∷ words_of operands) router → ⊥
names_no_router names verb operands router unknown h =
    let spelled = h.spelled in
    let same : operands ≡ h.name = words-single operands h.name (let rest : words_of operands ≡ h.name ∷ [] = cc in rest) in
    let known : router_number names operands ≡ Some router = ap (router_number names) same ∙ h.known in
    cc

-- one pair of names has one way
pub way_unique : (names : List Text) (links : List LinkSpec) (name neighbour : Text) (i l j m : ℕ)
    → NamesWay names links name neighbour i l → NamesWay names links name neighbour j m → (i ≡ j) × (l ≡ m)
way_unique names links name neighbour i l j m h k =
    let routers : Some i ≡ Some j = sym h.known ∙ k.known in
    let others : Some h.far ≡ Some k.far = sym h.far_known ∙ k.far_known in
    let router : i ≡ j = cc in
    let other : h.far ≡ k.far = cc in
    let links : Some l ≡ Some m = sym h.joined ∙ ap (λ r. link_between r h.far links) router ∙ ap (λ r. link_between j r links) other ∙ k.joined in
    let link : l ≡ m = cc in
    (router, link)

-- one list of words has one text
pub text_unique : (names : List Text) (verb : Text) (words : List Text) (i j : ℕ) (s t : Text) → NamesText names verb words i s → NamesText names verb words j t → s ≡ t
text_unique names verb words i j s t h k =
    let words : verb ∷ h.name ∷ s ∷ [] ≡ verb ∷ k.name ∷ t ∷ [] = sym h.spelled ∙ k.spelled in
    cc

-- ---- words after a verb

-- the router's link, of two words after a verb
pub link_way : (names : List Text) (links : List LinkSpec) (verb name neighbour : Text) (ops : List Text) (router link : ℕ)
    → ops ≡ name ∷ neighbour ∷ [] → NamesLink names links verb (verb ∷ ops) router link → NamesWay names links name neighbour router link
link_way names links verb name neighbour ops router link is h =
    let words : verb ∷ h.name ∷ h.neighbour ∷ [] ≡ verb ∷ name ∷ neighbour ∷ [] = sym h.spelled ∙ ap (λ ws. verb ∷ ws) is in
    let near : h.name ≡ name = cc in
    let far : h.neighbour ≡ neighbour = cc in
    rw (near, far) at h.way

-- the same of three words
pub number_way : (names : List Text) (links : List LinkSpec) (verb name neighbour text : Text) (ops : List Text) (router link number : ℕ)
    → ops ≡ name ∷ neighbour ∷ text ∷ [] → NamesNumber names links verb (verb ∷ ops) router link number → NamesWay names links name neighbour router link
number_way names links verb name neighbour text ops router link number is h =
    let words : verb ∷ h.name ∷ h.neighbour ∷ decimal number ∷ [] ≡ verb ∷ name ∷ neighbour ∷ text ∷ [] = sym h.spelled ∙ ap (λ ws. verb ∷ ws) is in
    let near : h.name ≡ name = cc in
    let far : h.neighbour ≡ neighbour = cc in
    rw (near, far) at h.way

-- a port past the last number
pub no_small_port : (links : List LinkSpec) (router link i l port : ℕ) → (i ≡ router) × (l ≡ link) → 256 ≤ port_on router link links → IsPortOn links i l port → port < 256 → ⊥
no_small_port links router link i l port same large is small =
    let here : port ≡ port_on router link links = port_is router link port links (rw (same.0, same.1) at is) in
    omega (arith, large, small, here)

-- three words after `cost`: two routers, and a number
pub asks_cost : (names : List Text) (links : List LinkSpec) (name neighbour text : Text) (ops : List Text) (router link number port : ℕ)
    → ops ≡ name ∷ neighbour ∷ text ∷ [] → NamesWay names links name neighbour router link → Spells text number
    → port ≡ port_on router link links → port < 256 → AsksCost names links (codes "cost" ∷ ops) router port number
asks_cost names links name neighbour text ops router link number port is way spells at small = (
  link,
  record {
    name = name;
    neighbour = neighbour;
    spelled = ap (λ ws. codes "cost" ∷ ws) is ∙ ap (λ t. codes "cost" ∷ name ∷ neighbour ∷ t ∷ []) spells.1;
    way = way;
    small = spells.0;
  },
  rw at (is_port router way.far link links way.joined),
  small,
)

-- ---- a router's port, to take from

module _ (names : List Text) (links : List LinkSpec) (name neighbour : Text) (ops : List Text) (two : ops ≡ name ∷ neighbour ∷ []) where
  twice_same : (router : ℕ) → NamesTwice names (codes "deliver") (codes "deliver" ∷ ops) router → (name ≡ neighbour) × (router_number names name ≡ Some router)
  twice_same router h =
      let words : codes "deliver" ∷ name ∷ neighbour ∷ [] ≡ codes "deliver" ∷ h.name ∷ h.name ∷ [] = sym (ap (λ ws. codes "deliver" ∷ ws) two) ∙ h.spelled in
      let near : name ≡ h.name = cc in
      let far : neighbour ≡ h.name = cc in
      (near ∙ sym far, ap (router_number names) near ∙ h.known)

  link_apart : (router link : ℕ) (h : NamesLink names links (codes "deliver") (codes "deliver" ∷ ops) router link) → name ≡ neighbour → h.name ≡ h.neighbour
  link_apart router link h same =
      let words : codes "deliver" ∷ name ∷ neighbour ∷ [] ≡ codes "deliver" ∷ h.name ∷ h.neighbour ∷ [] = sym (ap (λ ws. codes "deliver" ∷ ws) two) ∙ h.spelled in
      let near : name ≡ h.name = cc in
      let far : neighbour ≡ h.neighbour = cc in
      sym near ∙ same ∙ far

  -- a router named twice, which is not known, or has too many ports
  pub no_home : name ≡ neighbour → ((router : ℕ) → router_number names name ≡ Some router → degree router links < 256 → ⊥)
      → (router port : ℕ) → ¬ (AsksDelivery names links (codes "deliver" ∷ ops) router port)
  no_home same none router port (inl h, small) = h.2 (link_apart router h.0 h.1 same)
  no_home same none router port (inr h, small) = none router (twice_same router h.0).1 (subst (λ n. n < 256) h.1 small)

  -- two routers without a link, or with one at too high a port
  pub no_far : name ≢ neighbour → ((router link port : ℕ) → NamesWay names links name neighbour router link → IsPortOn links router link port → port < 256 → ⊥)
      → (router port : ℕ) → ¬ (AsksDelivery names links (codes "deliver" ∷ ops) router port)
  no_far apart none router port (inl h, small) = none router h.0 port (link_way names links (codes "deliver") name neighbour ops router h.0 two h.1) h.3 small
  no_far apart none router port (inr h, small) = apart (twice_same router h.0).0

-- ---- texts of prefixes

-- the text has no fault, but is that of no prefix of the network
abbrev pub IsStrange : List (Prefix × ℕ × ℕ) → Text → Type 0
IsStrange attachments text = ((p : Prefix) → SpellsPrefix text p → ¬ (IsKnownPrefix attachments p)) × ((fault : PrefixFault) → ¬ (IsFirstFault text fault))

module _ (names : List Text) (attachments : List (Prefix × ℕ × ℕ)) where
  pub no_prefix : (verb : Text) (words : List Text) → ((router : ℕ) (text : Text) → NamesText names verb words router text → IsStrange attachments text) → NamesNoPrefix names attachments verb words BadCommand
  no_prefix verb words none = (λ router prefix h. (none router h.0 h.1).0 prefix h.2 h.3, λ fault h. (none h.0 h.1 h.2).1 fault h.3)

  pub no_attachment : (words : List Text)
      → ((router number : ℕ) (text : Text) → NamesTextAndNumber names (codes "attach") words router text number → IsStrange attachments text × IsCost number)
      → AsksNoAttachment names attachments words BadCommand
  no_attachment words none = (λ router prefix cost h. (none router cost h.0 h.1).0.0 prefix h.2 h.4, faults)
    where
      faults : (fault : LineFault) → ¬ (AsksBadAttachment names words fault)
      faults BadCost h = h.6 (none h.0 h.1 h.2 h.4).1
      faults (OfPrefix fault) h = (none h.0 h.1 h.2 h.3).0.1 fault h.4
      faults _ h = h

-- three words after a verb: a router, a text that is not empty, and a number
abbrev pub names_parts : (names : List Text) (verb name text digits : Text) (ops : List Text) (router number : ℕ)
    → ops ≡ name ∷ text ∷ digits ∷ [] → Spells digits number → text ≢ [] → router_number names name ≡ Some router → NamesTextAndNumber names verb (verb ∷ ops) router text number
names_parts names verb name text digits ops router number is spells has_text known = record {
  name = name;
  spelled = ap (λ ws. verb ∷ ws) is ∙ ap (λ t. verb ∷ name ∷ text ∷ t ∷ []) spells.1;
  has_text = has_text;
  known = known;
  small = spells.0;
}

-- one list of words has one text and one number
pub parts_unique : (names : List Text) (verb : Text) (words : List Text) (i j : ℕ) (s t : Text) (m n : ℕ) → NamesTextAndNumber names verb words i s m → NamesTextAndNumber names verb words j t n → (s ≡ t) × (m ≡ n)
parts_unique names verb words i j s t m n h k =
    let words : verb ∷ h.name ∷ s ∷ decimal m ∷ [] ≡ verb ∷ k.name ∷ t ∷ decimal n ∷ [] = sym h.spelled ∙ k.spelled in
    let texts : s ≡ t = cc in
    let numbers : decimal m ≡ decimal n = cc in
    (texts, decimal_injective m n (omega (arith, h.small)) (omega (arith, k.small)) numbers)

-- ---- words that ask for no step

module _ (names : List Text) (links : List LinkSpec) (attachments : List (Prefix × ℕ × ℕ)) where
  -- words that ask for no step of any kind, nor for one with a bad value
  pub no_step : (words : List Text)
      → ((router link : ℕ) → ¬ (NamesLink names links (codes "up") words router link))
      → ((router link : ℕ) → ¬ (NamesLink names links (codes "down") words router link))
      → ((router port number : ℕ) → ¬ (AsksCost names links words router port number))
      → ((router port : ℕ) → ¬ (AsksDelivery names links words router port))
      → ((router : ℕ) → ¬ (NamesRouter names (codes "publish") words router))
      → ((router : ℕ) → ¬ (NamesRouter names (codes "release") words router))
      → AsksNoAttachment names attachments words BadCommand
      → NamesNoPrefix names attachments (codes "detach") words BadCommand
      → AsksNoStep names links attachments words BadCommand
  no_step words up down cost deliver publish release attach detach = (steps, faults)
    where
      steps : (step : Step) → ¬ (AsksStep names links attachments words step)
      steps (LinkUp link) h = up h.0 link h.1
      steps (LinkDown link) h = down h.0 link h.1
      steps (SetCost router port cost_is) h = cost router port cost_is h.0
      steps (Deliver router port) h = deliver router port h
      steps (Publish router) h = publish router h
      steps (Release router) h = release router h
      steps (Attach router prefix cost_is) h = attach.0 router prefix cost_is h
      steps (Detach router prefix) h = detach.0 router prefix h

      faults : (fault : LineFault) → ¬ (AsksBadStep names links words fault)
      faults BadCost (inl h) = cost h.0 h.1 h.2 h.3
      faults BadCost (inr h) = attach.1 BadCost h
      faults (OfPrefix fault) (inl h) = detach.1 fault h
      faults (OfPrefix fault) (inr h) = attach.1 (OfPrefix fault) h
      faults _ h = h

  module _ (verb word : Text) (rest : List Text) (apart : bytes_eq verb word ≡ false) where
    pub other_router : (router : ℕ) → ¬ (NamesRouter names word (verb ∷ rest) router)
    other_router router h = clash verb word rest _ apart h.spelled

    pub other_link : (router link : ℕ) → ¬ (NamesLink names links word (verb ∷ rest) router link)
    other_link router link h = clash verb word rest _ apart h.spelled

    pub other_text : (router : ℕ) (text : Text) → ¬ (NamesText names word (verb ∷ rest) router text)
    other_text router text h = clash verb word rest _ apart h.spelled

    pub other_prefix : NamesNoPrefix names attachments word (verb ∷ rest) BadCommand
    other_prefix = no_prefix names attachments word (verb ∷ rest) (λ router text h. absurd (other_text router text h))

  module _ (verb : Text) (rest : List Text) where
    other_cost : bytes_eq verb (codes "cost") ≡ false → (router port number : ℕ) → ¬ (AsksCost names links (verb ∷ rest) router port number)
    other_cost apart router port number h = clash verb (codes "cost") rest _ apart h.1.spelled

    other_deliver : bytes_eq verb (codes "deliver") ≡ false → (router port : ℕ) → ¬ (AsksDelivery names links (verb ∷ rest) router port)
    other_deliver apart router port (inl h, small) = clash verb (codes "deliver") rest _ apart h.1.spelled
    other_deliver apart router port (inr h, small) = clash verb (codes "deliver") rest _ apart h.0.spelled

    other_attach : bytes_eq verb (codes "attach") ≡ false → AsksNoAttachment names attachments (verb ∷ rest) BadCommand
    other_attach apart = no_attachment names attachments (verb ∷ rest) (λ router number text h. absurd (clash verb (codes "attach") rest _ apart h.spelled))

  -- a first word that is none of the eight verbs
  pub no_verb : (verb : Text) (rest : List Text)
      → bytes_eq verb (codes "up") ≡ false → bytes_eq verb (codes "down") ≡ false → bytes_eq verb (codes "cost") ≡ false → bytes_eq verb (codes "deliver") ≡ false
      → bytes_eq verb (codes "publish") ≡ false → bytes_eq verb (codes "release") ≡ false → bytes_eq verb (codes "attach") ≡ false → bytes_eq verb (codes "detach") ≡ false
      → AsksNoStep names links attachments (verb ∷ rest) BadCommand
  no_verb verb rest up down cost deliver publish release attach detach =
      no_step (verb ∷ rest) (other_link verb (codes "up") rest up) (other_link verb (codes "down") rest down) (other_cost verb rest cost) (other_deliver verb rest deliver)
      (other_router verb (codes "publish") rest publish) (other_router verb (codes "release") rest release) (other_attach verb rest attach) (other_prefix verb (codes "detach") rest detach)

  module _ (rest : List Text) where
    pub no_up : ((router link : ℕ) → ¬ (NamesLink names links (codes "up") (codes "up" ∷ rest) router link)) → AsksNoStep names links attachments (codes "up" ∷ rest) BadCommand
    no_up none = no_step _ none (other_link _ _ _ refl) (other_cost _ _ refl) (other_deliver _ _ refl) (other_router _ _ _ refl) (other_router _ _ _ refl) (other_attach _ _ refl) (other_prefix _ _ _ refl)

    pub no_down : ((router link : ℕ) → ¬ (NamesLink names links (codes "down") (codes "down" ∷ rest) router link)) → AsksNoStep names links attachments (codes "down" ∷ rest) BadCommand
    no_down none = no_step _ (other_link _ _ _ refl) none (other_cost _ _ refl) (other_deliver _ _ refl) (other_router _ _ _ refl) (other_router _ _ _ refl) (other_attach _ _ refl) (other_prefix _ _ _ refl)

    pub no_deliver : ((router port : ℕ) → ¬ (AsksDelivery names links (codes "deliver" ∷ rest) router port)) → AsksNoStep names links attachments (codes "deliver" ∷ rest) BadCommand
    no_deliver none = no_step _ (other_link _ _ _ refl) (other_link _ _ _ refl) (other_cost _ _ refl) none (other_router _ _ _ refl) (other_router _ _ _ refl) (other_attach _ _ refl) (other_prefix _ _ _ refl)

    pub no_publish : ((router : ℕ) → ¬ (NamesRouter names (codes "publish") (codes "publish" ∷ rest) router)) → AsksNoStep names links attachments (codes "publish" ∷ rest) BadCommand
    no_publish none = no_step _ (other_link _ _ _ refl) (other_link _ _ _ refl) (other_cost _ _ refl) (other_deliver _ _ refl) none (other_router _ _ _ refl) (other_attach _ _ refl) (other_prefix _ _ _ refl)

    pub no_release : ((router : ℕ) → ¬ (NamesRouter names (codes "release") (codes "release" ∷ rest) router)) → AsksNoStep names links attachments (codes "release" ∷ rest) BadCommand
    no_release none = no_step _ (other_link _ _ _ refl) (other_link _ _ _ refl) (other_cost _ _ refl) (other_deliver _ _ refl) (other_router _ _ _ refl) none (other_attach _ _ refl) (other_prefix _ _ _ refl)

    -- why words after `cost`, `attach` or `detach` ask for no step
    pub cost_fault : (fault : LineFault) → AsksNoCost names links (codes "cost" ∷ rest) fault → AsksNoStep names links attachments (codes "cost" ∷ rest) fault
    cost_fault BadCost h = inl h
    cost_fault (OfPrefix fault) h = absurd h
    cost_fault BadCommand h = no_step _ (other_link _ _ _ refl) (other_link _ _ _ refl) h (other_deliver _ _ refl) (other_router _ _ _ refl) (other_router _ _ _ refl) (other_attach _ _ refl) (other_prefix _ _ _ refl)
    cost_fault _ h = h

    pub attach_fault : (fault : LineFault) → AsksNoAttachment names attachments (codes "attach" ∷ rest) fault → AsksNoStep names links attachments (codes "attach" ∷ rest) fault
    attach_fault BadCost h = inr h
    attach_fault (OfPrefix fault) h = inr h
    attach_fault BadCommand h = no_step _ (other_link _ _ _ refl) (other_link _ _ _ refl) (other_cost _ _ refl) (other_deliver _ _ refl) (other_router _ _ _ refl) (other_router _ _ _ refl) h (other_prefix _ _ _ refl)
    attach_fault _ h = h

    pub detach_fault : (fault : LineFault) → NamesNoPrefix names attachments (codes "detach") (codes "detach" ∷ rest) fault → AsksNoStep names links attachments (codes "detach" ∷ rest) fault
    detach_fault BadCost h = absurd h
    detach_fault (OfPrefix fault) h = inl h
    detach_fault BadCommand h = no_step _ (other_link _ _ _ refl) (other_link _ _ _ refl) (other_cost _ _ refl) (other_deliver _ _ refl) (other_router _ _ _ refl) (other_router _ _ _ refl) (other_attach _ _ refl) h
    detach_fault _ h = h
