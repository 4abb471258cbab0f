-- Links that are put up or down one after another.
use Rattle.std.proofs.Common.{refl, ◌≡◌, ◌≢◌, ◌⊎◌, inl, inr, ◌∙◌, ℕ, zero, suc, ◌<◌, Bool, true, false, ◌&&◌, ◌||◌, nat_eq, List, [], ◌∷◌, slice_get, ap, arith}
use Rattle.std.specs.Option.{option_map_or}
use Rattle.std.proofs.lemmas.Bool.{cases_eq}
use Rattle.network_model.specs.{Machine.changed_at, World.Link, World.World, Step.link_come_up, Step.link_gone_down, Step.next}
use Rattle.network_model.proofs.ListLaws.{slice_get-changed_at_other}
use Rattle.interpreter.specs.Commands.{ArePut, IsPutWhere, is_amiss, is_amiss_at, put}
use Rattle.interpreter.specs.Nets.{Meaning}

-- what becomes of the link
abbrev put_as : Bool → Link → Link
put_as true = link_come_up
put_as false = link_gone_down

links_put : (up : Bool) (w : World) (l : ℕ) → (next w (put up l)).links ≡ changed_at l (put_as up) w.links
links_put true w l = refl
links_put false w l = refl

and_false : (b : Bool) → (b && false) ≡ false
and_false true = refl
and_false false = refl

put_right : (up : Bool) (router : ℕ) (k : Link) → is_amiss up router (put_as up k) ≡ false
put_right true router k = and_false (nat_eq k.a.router router || nat_eq k.b.router router)
put_right false router k = and_false (nat_eq k.a.router router || nat_eq k.b.router router)

put_there : (up : Bool) (router l : ℕ) (ks : List Link) → option_map_or (is_amiss up router) (slice_get (changed_at l (put_as up) ks) l) false ≡ false
put_there up router l [] = refl
put_there up router zero (k ∷ ks) = put_right up router k
put_there up router (suc l) (k ∷ ks) = put_there up router l ks

-- the link that was put, and each other one
amiss_after : (up : Bool) (router n l : ℕ) (w : World) → (l ≡ n) ⊎ ((l ≢ n) × (is_amiss_at w up router l ≡ false)) → is_amiss_at (next w (put up n)) up router l ≡ false
amiss_after up router n l w where_it_is = ap (λ ks. option_map_or (is_amiss up router) (slice_get ks l) false) (links_put up w n) ∙ by_place where_it_is
  where
    by_place : (l ≡ n) ⊎ ((l ≢ n) × (is_amiss_at w up router l ≡ false))
        → option_map_or (is_amiss up router) (slice_get (changed_at n (put_as up) w.links) l) false ≡ false
    by_place (inl e) = ap (λ i. option_map_or (is_amiss up router) (slice_get (changed_at n (put_as up) w.links) i) false) e ∙ put_there up router n w.links
    by_place (inr other) = ap (λ o. option_map_or (is_amiss up router) o false) (slice_get-changed_at_other (put_as up) n l w.links other.0) ∙ other.1

module _ {S : Type 0} (k : Meaning S) (up : Bool) (router : ℕ) where
  -- after a step of the world
  stepped : (n l : ℕ) (h g : S) → g ≡ k.after h (put up n) → (l ≡ n) ⊎ ((l ≢ n) × (is_amiss_at (k.world h) up router l ≡ false)) → is_amiss_at (k.world g) up router l ≡ false
  stepped n l h g is where_it_is = ap (λ m. is_amiss_at (k.world m) up router l) is ∙ ap (λ (w : World). is_amiss_at w up router l) (k.next_world h (put up n)) ∙ amiss_after up router n l (k.world h) where_it_is

  -- of the first links that were put, so many, none is other than it was to be
  pub none_below : (n : ℕ) (f g : S) → ArePut k up router n f g → (l : ℕ) → l < n → is_amiss_at (k.world g) up router l ≡ false
  none_below zero f g put_so l below = absurd (omega (arith, below))
  none_below (suc n) f g (h, before, here) l below =
      by_last (is_amiss_at (k.world h) up router n) refl here (cases_eq l n) (λ d. none_below n f h before l (omega (arith, below, d)))
    where
      by_last : (b : Bool) → is_amiss_at (k.world h) up router n ≡ b → IsPutWhere k b up n h g → (l ≡ n) ⊎ (l ≢ n) → (l ≢ n → is_amiss_at (k.world h) up router l ≡ false)
          → is_amiss_at (k.world g) up router l ≡ false
      by_last false is same (inl e) earlier = ap (λ m. is_amiss_at (k.world m) up router l) same ∙ ap (is_amiss_at (k.world h) up router) e ∙ is
      by_last false is same (inr d) earlier = ap (λ m. is_amiss_at (k.world m) up router l) same ∙ earlier d
      by_last true is done (inl e) earlier = stepped n l h g done.1 (inl e)
      by_last true is done (inr d) earlier = stepped n l h g done.1 (inr (d, earlier d))
