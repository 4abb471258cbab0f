-- What a prefix sees of a world with nothing on its links and nothing held: nothing is on the way.
use Rattle.std.proofs.Common.{refl, sym, ap, ◌∙◌, ◌≡◌, ℕ, zero, suc, Bool, true, List, [], ◌∷◌, Option, Some, None, slice_get}
use Rattle.no_packet_loops.proofs.Common.{list_all, option_map_or, and_from, and_parts, Prefix, Held, End, A, B, Link, Router, World, side, Place, is_empty, is_quiet_link, Some_injective, None_not_Some, on_link, inbox_of, heard, kept, ripe_of, unripe_of}
use Rattle.no_packet_loops.proofs.Quiet.{empty_is, nothing_ripe, nothing_unripe}

-- ---- lists

-- where all elements pass, the one at a position does
pub all_at : {A : Type 0} (f : A → Bool) (xs : List A) → list_all f xs ≡ true → (k : ℕ) (x : A) → slice_get xs k ≡ Some x → f x ≡ true
all_at f [] h k x e = absurd (None_not_Some e)
all_at f (y ∷ ys) h zero x e = ap f (sym (Some_injective e)) ∙ (and_parts (f y) (list_all f ys) h).0
all_at f (y ∷ ys) h (suc k) x e = all_at f ys (and_parts (f y) (list_all f ys) h).1 k x e

-- all elements pass where the one at each position does
pub all_hold : {A : Type 0} (f : A → Bool) (xs : List A) → ((k : ℕ) (x : A) → slice_get xs k ≡ Some x → f x ≡ true) → list_all f xs ≡ true
all_hold f [] each = refl
all_hold f (x ∷ xs) each = and_from (f x) (list_all f xs) (each 0 x refl) (all_hold f xs (λ k. each (suc k)))

-- ---- what is on the way

module _ (p : Prefix) (w : World) where
  -- no port has an item to take, where every link is quiet
  pub inbox_none : ((l : ℕ) (k : Link) → slice_get w.links l ≡ Some k → is_quiet_link k ≡ true) → (o : Option Place) → on_link (inbox_of p) [] o w.links ≡ []
  inbox_none links None = refl
  inbox_none links (Some x) = by_link (slice_get w.links x.link) refl
    where
      by_end : (k : Link) (e : End) → (is_empty (k.a).inbox ≡ true) × (is_empty (k.b).inbox ≡ true) → heard p (side e k).inbox ≡ []
      by_end k A h = ap (heard p) (empty_is (k.a).inbox h.0)
      by_end k B h = ap (heard p) (empty_is (k.b).inbox h.1)

      by_link : (o : Option Link) → slice_get w.links x.link ≡ o → option_map_or (inbox_of p x.end) o [] ≡ []
      by_link None at = refl
      by_link (Some k) at = by_end k x.end (and_parts (is_empty (k.a).inbox) (is_empty (k.b).inbox) (links x.link k at))

  module _ (held : (i : ℕ) (r : Router) → slice_get w.routers i ≡ Some r → (r.gate).held ≡ []) where
    -- nothing is kept of any part of what routers hold, where they hold nothing
    kept_none : (part : Router → List Held) → ((r : Router) → (r.gate).held ≡ [] → part r ≡ []) → (i q : ℕ) → option_map_or (λ r. kept p q (part r)) (slice_get w.routers i) [] ≡ []
    kept_none part none i q = by_router (slice_get w.routers i) refl
      where
        by_router : (o : Option Router) → slice_get w.routers i ≡ o → option_map_or (λ r. kept p q (part r)) o [] ≡ []
        by_router None at = refl
        by_router (Some r) at = ap (kept p q) (none r (held i r at))

    -- nothing is ripe
    pub ripe_none : (i q : ℕ) → option_map_or (λ r. kept p q (ripe_of r)) (slice_get w.routers i) [] ≡ []
    ripe_none = kept_none ripe_of nothing_ripe

    -- nothing is unripe
    pub unripe_none : (i q : ℕ) → option_map_or (λ r. kept p q (unripe_of r)) (slice_get w.routers i) [] ≡ []
    unripe_none = kept_none unripe_of nothing_unripe
