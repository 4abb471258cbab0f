-- The kind of the message that a router puts on a link.
use Rattle.std.proofs.Common.{refl, sym, ap, ◌∙◌, subst, ◌≡◌, ◌≢◌, ◌<◌, ℕ, List, length, Bool, true, false, not, ◌&&◌, ◌==◌, if◌then◌else◌, Option, Some, None, slice_get, option_and_then, eq-eqb, ne_eqb}
use Rattle.no_packet_loops.proofs.Common.{option_map_or, Held, Place, Link, World, place_at, release_at, is_up_in, element_there, Release, Kind}
use Rattle.world.specs.Steps.{is_stale}
use Rattle.course.specs.{Counts.leaving, Links.HasLinksOfPorts}

-- a router that releases this, over a link that is there
module _ (w : World) (i : ℕ) (h : Held) (at : release_at w i ≡ Some h) where
  abbrev by_stale : Bool → Option Kind
  by_stale b = if b then None else Some (h.message).kind

  pub leaving_is : leaving w (Release i) ≡ by_stale (is_stale w i h)
  leaving_is = ap (option_and_then (λ (x : Held). if is_stale w i x then None else Some (x.message).kind)) at

  module _ (p : Place) (there : place_at w i h.port ≡ Some p) (k : Link) (link : slice_get w.links p.link ≡ Some k) where
    by_link : leaving w (Release i) ≡ by_stale (not (is_up_in h.session k))
    by_link =
        leaving_is
        ∙ ap (λ o. by_stale (not (option_map_or (is_up_in h.session) (option_and_then (λ (p : Place). slice_get w.links p.link) o) false))) there
        ∙ ap (λ o. by_stale (not (option_map_or (is_up_in h.session) o false))) link

    pub leaving_up : k.up ≡ true → k.session ≡ h.session → leaving w (Release i) ≡ Some (h.message).kind
    leaving_up up same = by_link ∙ ap (λ b. by_stale (not (b && (k.session == h.session)))) up ∙ ap (λ n. by_stale (not (n == h.session))) same ∙ ap (λ b. by_stale (not b)) (eq-eqb h.session h.session refl)

    pub leaving_down : k.up ≡ false → leaving w (Release i) ≡ None
    leaving_down down = by_link ∙ ap (λ b. by_stale (not (b && (k.session == h.session)))) down

    -- which is up in another session
    pub leaving_stale : k.up ≡ true → k.session ≢ h.session → leaving w (Release i) ≡ None
    leaving_stale up other = by_link ∙ ap (λ b. by_stale (not (b && (k.session == h.session)))) up ∙ ap (λ b. by_stale (not b)) (ne_eqb k.session h.session other)

-- the link at a port that is there
pub link_there : (w : World) → HasLinksOfPorts w → (links : List Link) → links ≡ w.links → (i q : ℕ) (p : Place) → place_at w i q ≡ Some p → (p.link < length links) × ((k : Link) × (slice_get w.links p.link ≡ Some k) × (slice_get links p.link ≡ Some k))
link_there w known links same i q p at =
    let within : p.link < length w.links = known i q p at in
    let K = element_there w.links p.link within in
    (subst (λ ls. p.link < length ls) (sym same) within, (K.0, K.1, ap (λ ls. slice_get ls p.link) same ∙ K.1))
