-- What every world of a run keeps, for one prefix.
use Rattle.std.proofs.Common.{refl, sym, ap, subst, ◌∙◌, inl, inr, ◌≡◌, ◌≢◌, ◌⊎◌, ℕ, ◌≤◌, true, if◌then◌else◌, List, [], ◌∷◌, map, length, Option, Some, None, slice_get, option_map}
use Rattle.no_packet_loops.proofs.Common.{option_map_or, cases_eq, slice_get-map, Prefix, prefix_cmp, prefix_eq, IsCost, Notice, changed_at, End, A, B, Side, Link, Router, Attachments, World, Network, other, side, machine_of, places_from, opening, Place, LinkSpec, chosen_rows, changed_side, Some_injective, None_not_Some, map-changed_at, slice_get-changed_at, slice_get-changed_at_other, router_end, LinkEnd, at_port, kept, view, lay, find as row_of, is_sorted}
use Rattle.loop_freedom.specs.Network.{Step as NetStep, IsEnd}
use Rattle.no_packet_loops.proofs.Wiring.{IsWired}
use Rattle.no_packet_loops.specs.LinkEnds.{across}
use Rattle.no_packet_loops.proofs.Places.{spot, far, laid, far_laid, topology}

-- the two routers of a link
abbrev pub ends : Link → ℕ × ℕ
ends k = ((k.a).router, (k.b).router)

-- the two routers of a link of the network
abbrev pub spec_ends : LinkSpec → ℕ × ℕ
spec_ends s = (s.a, s.b)

-- what router i keeps for the prefix: sorted rows that follow its machines, the ports of the network, no message without a port
pub record RouterKept (n : Network) (p : Prefix) (i : ℕ) (r : Router) : Type 0 where
  pub ripe_within : (r.gate).ripe ≤ length (r.gate).held
  pub sorted : is_sorted prefix_cmp r.machines ≡ true
  pub published_sorted : is_sorted prefix_cmp (r.table).published ≡ true
  pub control_is : (r.table).control ≡ chosen_rows r.ports r.machines
  pub port_count : length r.ports ≡ length (places_from 0 i n.links)
  pub machine_ports : length (machine_of r p).ports ≡ length r.ports
  -- nothing is held for a port that is not there
  pub placed : (q : ℕ) → lay n (at_port i q) ≡ None → kept p q (r.gate).held ≡ []

-- the attachment that a machine has once these notices are taken, as far as they are of the prefix
abbrev pub attachment_then : Prefix → Option ℕ → List Notice → Option ℕ
attachment_then p attachment [] = attachment
attachment_then p attachment (x ∷ xs) = attachment_then p (if prefix_eq p x.prefix then x.cost else attachment) xs

-- once router r has taken the notices of its attachments, its machine for the prefix has the attachment of the record; costs are costs
pub record AttachmentsKept (p : Prefix) (r : Router) (a : Attachments) : Type 0 where
  pub leads : attachment_then p (machine_of r p).attachment a.notices ≡ row_of prefix_cmp p a.costs
  pub costs : (c : ℕ) → row_of prefix_cmp p a.costs ≡ Some c → IsCost c
  pub notice_costs : (k : ℕ) (x : Notice) → slice_get a.notices k ≡ Some x → (c : ℕ) → x.cost ≡ Some c → IsCost c

-- so it is at each router of a world
abbrev pub AllAttachmentsKept : Prefix → World → Type 0
AllAttachmentsKept p w = (i : ℕ) (r : Router) (a : Attachments) → slice_get w.routers i ≡ Some r → slice_get w.attachments i ≡ Some a → AttachmentsKept p r a

-- a router whose machine has the attachment as before is led to the same record
pub attachments_same : (p : Prefix) (r r' : Router) (a : Attachments) → (machine_of r' p).attachment ≡ (machine_of r p).attachment → AttachmentsKept p r a → AttachmentsKept p r' a
attachments_same p r r' a same K = record {
  leads = ap (λ o. attachment_then p o a.notices) same ∙ K.leads;
  costs = K.costs;
  notice_costs = K.notice_costs;
}

-- what a world keeps for the prefix: the places, the ends of its links, what each router keeps, and what of its attachments
pub record WorldKept (n : Network) (p : Prefix) (w : World) : Type 0 where
  pub places_same : w.places ≡ (opening n).places
  pub ends_same : map ends w.links ≡ map spec_ends n.links
  pub routers_kept : (i : ℕ) (r : Router) → slice_get w.routers i ≡ Some r → RouterKept n p i r
  pub attachments_kept : AllAttachmentsKept p w

-- a step from w to v is one of the view, and v keeps what a world keeps
pub record StepKept (n : Network) (N : IsWired n) (p : Prefix) (w : World) (pfd : ℕ → ℕ) (v : World) (pfd' : ℕ → ℕ) : Type 0 where
  pub kept : WorldKept n p v
  pub step : NetStep (topology n N) (view n p w pfd) (view n p v pfd')

-- ---- a world with parts changed

-- a change of a link that leaves its routers keeps what a world keeps
pub with_links : (n : Network) (p : Prefix) (w : World) (l : ℕ) (g : Link → Link) → ((k : Link) → ends (g k) ≡ ends k) → WorldKept n p w → WorldKept n p (record w { links = changed_at l g w.links })
with_links n p w l g same K = record {
  places_same = K.places_same;
  ends_same = map-changed_at g ends l w.links (λ k at. same k) ∙ K.ends_same;
  routers_kept = K.routers_kept;
  attachments_kept = K.attachments_kept;
}

-- what holds of each router, and of the one at i once it is changed, holds of each after that
pub each_changed : {A : Type 0} (P : ℕ → A → Type 0) (i : ℕ) (g : A → A) (xs : List A) → ((x : A) → slice_get xs i ≡ Some x → P i (g x)) → ((j : ℕ) (x : A) → j ≢ i → slice_get xs j ≡ Some x → P j x)
    → (j : ℕ) (x : A) → slice_get (changed_at i g xs) j ≡ Some x → P j x
each_changed {A} P i g xs here beside j x at = elim (cases_eq j i) [
  | inl e ↦ subst (λ (m : ℕ). P m x) (sym e) (by_old (slice_get xs i) refl (sym (slice_get-changed_at g i xs) ∙ ap (slice_get (changed_at i g xs)) (sym e) ∙ at))
  | inr d ↦ beside j x d (sym (slice_get-changed_at_other g i j xs d) ∙ at)
]
  where
    by_old : (o : Option A) → slice_get xs i ≡ o → option_map g o ≡ Some x → P i x
    by_old None there e = absurd (None_not_Some e)
    by_old (Some old) there e = subst (λ (y : A). P i y) (Some_injective e) (here old there)

-- a change of a router keeps what a world keeps, if the router does, and its machine has the attachment as before
pub with_router : (n : Network) (p : Prefix) (w : World) (i : ℕ) (g : Router → Router) → ((r : Router) → slice_get w.routers i ≡ Some r → RouterKept n p i (g r) × ((machine_of (g r) p).attachment ≡ (machine_of r p).attachment))
    → WorldKept n p w → WorldKept n p (record w { routers = changed_at i g w.routers })
with_router n p w i g good K = record {
  places_same = K.places_same;
  ends_same = K.ends_same;
  routers_kept = each_changed (RouterKept n p) i g w.routers (λ r at. (good r at).0) (λ j r d at. K.routers_kept j r at);
  attachments_kept = λ j r a at has. each_changed (λ m x. (y : Attachments) → slice_get w.attachments m ≡ Some y → AttachmentsKept p x y) i g w.routers
      (λ x there y owns. attachments_same p x (g x) y (good x there).1 (K.attachments_kept i x y there owns)) (λ m x d there y owns. K.attachments_kept m x y there owns) j r at a has;
}

-- a change of one side that leaves its router leaves both routers of the link
pub changed_side-ends : (e : End) (f : Side → Side) (k : Link) → ((s : Side) → (f s).router ≡ s.router) → ends (changed_side e f k) ≡ ends k
changed_side-ends A f k same = λ i. (same k.a i, (k.b).router)
changed_side-ends B f k same = λ i. ((k.a).router, same k.b i)

-- a change of one side leaves the other side
pub changed_beside : (e d : End) (f : Side → Side) (k : Link) → d ≡ other e → side d (changed_side e f k) ≡ side d k
changed_beside A d f k is = ap (λ (x : End). side x (changed_side A f k)) is ∙ ap (λ (x : End). side x k) (sym is)
changed_beside B d f k is = ap (λ (x : End). side x (changed_side B f k)) is ∙ ap (λ (x : End). side x k) (sym is)

-- the side that is changed is the changed side
pub changed_here : (e : End) (f : Side → Side) (k : Link) → side e (changed_side e f k) ≡ f (side e k)
changed_here A f k = refl
changed_here B f k = refl

-- a change of one side leaves the link up or down as it was
pub up_beside : (e : End) (f : Side → Side) (k : Link) → (changed_side e f k).up ≡ k.up
up_beside A f k = refl
up_beside B f k = refl

-- a change of one side leaves the session of the link
pub session_beside : (e : End) (f : Side → Side) (k : Link) → (changed_side e f k).session ≡ k.session
session_beside A f k = refl
session_beside B f k = refl

-- ---- the links of a world, and those of its network

-- link l of the network has the same routers at its ends as the link k of the world
pub record Specified (n : Network) (l : ℕ) (k : Link) : Type 0 where
  pub spec : LinkSpec
  pub is_link : slice_get n.links l ≡ Some spec
  pub router_is : (e : End) → (side e k).router ≡ router_end e spec

module _ (n : Network) (p : Prefix) (w : World) (K : WorldKept n p w) (l : ℕ) where
  -- link l of the world and link l of the network end at the same routers, if they are there
  same_ends : option_map ends (slice_get w.links l) ≡ option_map spec_ends (slice_get n.links l)
  same_ends = sym (slice_get-map ends w.links l) ∙ ap (λ (xs : List (ℕ × ℕ)). slice_get xs l) K.ends_same ∙ slice_get-map spec_ends n.links l

  -- each link of the world is one of the network, with the same routers
  pub specified : (k : Link) → slice_get w.links l ≡ Some k → Specified n l k
  specified k at = by_spec (slice_get n.links l) refl (sym same_ends ∙ ap (option_map ends) at)
    where
      by_end : (s : LinkSpec) → spec_ends s ≡ ends k → (e : End) → (side e k).router ≡ router_end e s
      by_end s same A = ap (λ (x : ℕ × ℕ). x.0) (sym same)
      by_end s same B = ap (λ (x : ℕ × ℕ). x.1) (sym same)

      by_spec : (o : Option LinkSpec) → slice_get n.links l ≡ o → option_map spec_ends o ≡ Some (ends k) → Specified n l k
      by_spec None is e = absurd (None_not_Some e)
      by_spec (Some s) is e = record { spec = s; is_link = is; router_is = by_end s (Some_injective e) }

  -- each link of the network is there in the world
  pub linked : (s : LinkSpec) → slice_get n.links l ≡ Some s → (k : Link) × (slice_get w.links l ≡ Some k)
  linked s is = by_link (slice_get w.links l) refl (same_ends ∙ ap (option_map spec_ends) is)
    where
      by_link : (o : Option Link) → slice_get w.links l ≡ o → option_map ends o ≡ Some (spec_ends s) → (k : Link) × (slice_get w.links l ≡ Some k)
      by_link None at e = absurd (None_not_Some e)
      by_link (Some k) at e = (k, at)

-- ---- the two ends of one link

-- an end of a link is a given end or the other one
pub two_ends : (d e : End) → (e ≡ d) ⊎ (e ≡ other d)
two_ends A B = inr refl
two_ends B A = inr refl
two_ends _ _ = inl refl

-- places on one link, at one end, are one place
places_equal : (x y : Place) → x.link ≡ y.link → x.end ≡ y.end → x ≡ y
places_equal x y l e = λ i. record { link = l i; end = e i }

-- port e lies on link l
pub record OnLink (n : Network) (l : ℕ) (e : LinkEnd) : Type 0 where
  pub place : Place
  pub laid_at : lay n e ≡ Some place
  pub link_is : place.link ≡ l

module _ (n : Network) (N : IsWired n) (a : LinkEnd) (x : Place) (at : lay n a ≡ Some x) where
  -- ports that lie at one place are one port
  same_spot : (e : LinkEnd) (y : Place) → lay n e ≡ Some y → y ≡ x → e ≡ a
  same_spot e y is same = sym (laid n e y is).spot_is ∙ ap (spot n) same ∙ (laid n a x at).spot_is

  -- the port across from port a is that of the other end of its link
  pub far_is : far n a ≡ spot n (across x)
  far_is = ap (λ o. option_map_or (λ y. spot n (across y)) o a) at

  -- both ports of the link at port a lie on it
  pub on_link : (e : LinkEnd) → IsEnd (topology n N) a e → OnLink n x.link e
  on_link e (inl p) = record { place = x; laid_at = ap (lay n) p ∙ at; link_is = refl }
  on_link e (inr p) = record { place = across x; laid_at = ap (lay n) p ∙ far_laid n N a x at; link_is = refl }

  -- no other port lies on the link at port a
  pub off_link : (e : LinkEnd) → (IsEnd (topology n N) a e → ⊥) → (y : Place) → lay n e ≡ Some y → y.link ≢ x.link
  off_link e apart y is same = elim (two_ends x.end y.end) [
    | inl p ↦ apart (inl (same_spot e y is (places_equal y x same p)))
    | inr p ↦ apart (inr (sym (laid n e y is).spot_is ∙ ap (spot n) (places_equal y (across x) same p) ∙ sym far_is))
  ]

  -- another port on the link at port a lies at its other end
  pub other_end : (e : LinkEnd) → (e ≡ a → ⊥) → (y : Place) → lay n e ≡ Some y → y.link ≡ x.link → y.end ≡ other x.end
  other_end e apart y is same = elim (two_ends x.end y.end) [
    | inl p ↦ absurd (apart (same_spot e y is (places_equal y x same p)))
    | inr p ↦ p
  ]
