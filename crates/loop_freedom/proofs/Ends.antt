-- The two ends of a link.
use Rattle.std.proofs.Common.{sym, ◌∙◌, ap, subst, inl, inr, ◌≡◌, ◌⊎◌, ℕ, true}
use Rattle.network_model.proofs.Common.{cases_eq, LinkEnd, at_port}
use Rattle.loop_freedom.specs.Network.{Topology, IsEnd}

-- two link ends are one or they are not
pub place_cases : (e a : LinkEnd) → (e ≡ a) ⊎ (e ≡ a → ⊥)
place_cases e a = elim (cases_eq e.router a.router) [
  | inl r ↦ elim (cases_eq e.port a.port) [
    | inl p ↦ inl (places e a r p)
    | inr d ↦ inr (λ x. d (ap (λ (w : LinkEnd). w.port) x))
  ]
  | inr d ↦ inr (λ x. d (ap (λ (w : LinkEnd). w.router) x))
]
  where
    places : (e a : LinkEnd) → e.router ≡ a.router → e.port ≡ a.port → e ≡ a
    places e a r p = ap (λ (n : ℕ). at_port n e.port) r ∙ ap (λ (n : ℕ). at_port a.router n) p

-- e is an end of the link at a, or it is not
pub end_cases : (t : Topology) (a e : LinkEnd) → IsEnd t a e ⊎ (IsEnd t a e → ⊥)
end_cases t a e = elim (place_cases e a) [
  | inl p ↦ inl (inl p)
  | inr d ↦ elim (place_cases e (t.far a)) [
    | inl p ↦ inl (inr p)
    | inr f ↦ inr (λ x. elim x [ inl p ↦ d p | inr p ↦ f p ])
  ]
]

-- the end across from an end of a link is an end of it
pub end_far : (t : Topology) (a e : LinkEnd) → t.valid a ≡ true → IsEnd t a e → IsEnd t a (t.far e)
end_far t a e v (inl p) = inr (ap t.far p)
end_far t a e v (inr p) = inl (ap t.far p ∙ t.far_far a v)

-- an end is one of the link where the end across is
pub end_near : (t : Topology) (a e : LinkEnd) → t.valid a ≡ true → t.valid e ≡ true → IsEnd t a (t.far e) → IsEnd t a e
end_near t a e v w x = subst (λ (z : LinkEnd). IsEnd t a z) (t.far_far e w) (end_far t a (t.far e) v x)

-- both ends of a link that is there are there
pub end_valid : (t : Topology) (a e : LinkEnd) → t.valid a ≡ true → IsEnd t a e → t.valid e ≡ true
end_valid t a e v (inl p) = subst (λ (z : LinkEnd). t.valid z ≡ true) (sym p) v
end_valid t a e v (inr p) = subst (λ (z : LinkEnd). t.valid z ≡ true) (sym p) (t.far_valid a v)

-- where the two ends of each link agree on a value, and both ends of one link change it alike, they agree still
pub ends_agree : {X : Type 0} (t : Topology) (a : LinkEnd) (f g : LinkEnd → X) (change : X → X) → t.valid a ≡ true → ((e : LinkEnd) → IsEnd t a e → g e ≡ change (f e)) → ((e : LinkEnd) → (IsEnd t a e → ⊥) → g e ≡ f e)
    → (e : LinkEnd) → t.valid e ≡ true → f (t.far e) ≡ f e → g (t.far e) ≡ g e
ends_agree t a f g change there here away e v same = elim (end_cases t a e) [
  | inl x ↦ here (t.far e) (end_far t a e there x) ∙ ap change same ∙ sym (here e x)
  | inr d ↦ away (t.far e) (λ y. d (end_near t a e there v y)) ∙ same ∙ sym (away e d)
]
