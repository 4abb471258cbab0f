-- The ports of a router: one for each place, and no more than 32.
use Rattle.std.proofs.Common.{refl, sym, ap, subst, ◌∙◌, arith, ◌≡◌, ℕ, zero, suc, ◌<◌, ◌≤◌, Bool, true, false, if◌then◌else◌, ◌==◌, eqb-true, List, [], ◌∷◌, length, Option, Some, None, option_map, option_and_then, slice_get}
use Rattle.no_packet_loops.proofs.Common.{option_map_or, None_not_Some, Some_injective, slice_get_within, slice_get-map, range_with_len, length-map-range_with_len, opening_router_of, World, Network, Place, Item, IsNetwork, Runs, opening, places_from, side, front_at, notice_at, degree_of, place_at, Notice, Attachments, Side, is_at_home, Step}
use Rattle.no_packet_loops.proofs.WorldLaws.{Runs-shape}
use Rattle.world.proofs.Degrees.{few_ports}

-- where an item waits, there is a place
pub place_of_front : (w : World) (i q : ℕ) (item : Item) → front_at w i q ≡ Some item → (p : Place) × (place_at w i q ≡ Some p)
place_of_front w i q item front = by_place (place_at w i q) refl
  where
    by_place : (o : Option Place) → place_at w i q ≡ o → (p : Place) × (place_at w i q ≡ Some p)
    by_place None at = absurd (None_not_Some (sym (ap (λ (o : Option Place). option_and_then (λ (s : Side). slice_get s.inbox 0) (option_and_then (λ (p : Place). option_map (side p.end) (slice_get w.links p.link)) o)) at) ∙ front))
    by_place (Some p) at = (p, at)

-- a place is of a port below the degree
pub port_of_place : (w : World) (i q : ℕ) (p : Place) → place_at w i q ≡ Some p → (d : ℕ) × (degree_of w i ≡ Some d) × (q < d)
port_of_place w i q p at = by_places (slice_get w.places i) refl
  where
    by_places : (o : Option (List Place)) → slice_get w.places i ≡ o → (d : ℕ) × (degree_of w i ≡ Some d) × (q < d)
    by_places None here = absurd (None_not_Some (sym (ap (λ (o : Option (List Place)). option_and_then (λ (ps : List Place). slice_get ps q) o) here) ∙ at))
    by_places (Some ps) here = (
      length ps,
      ap (λ (o : Option (List Place)). option_map (λ (ps : List Place). length ps) o) here,
      slice_get_within ps q p (sym (ap (λ (o : Option (List Place)). option_and_then (λ (ps : List Place). slice_get ps q) o) here) ∙ at),
    )

past_end : {A : Type 0} (xs : List A) (q : ℕ) → slice_get xs q ≡ None → length xs ≤ q
past_end [] q none = omega arith
past_end (x ∷ xs) zero none = absurd (None_not_Some (sym none))
past_end (x ∷ xs) (suc q) none = (let rest : length xs ≤ q = past_end xs q none in omega (arith, rest))

-- where there is no place, the degree is passed
pub past_places : (w : World) (i q d : ℕ) → degree_of w i ≡ Some d → place_at w i q ≡ None → d ≤ q
past_places w i q d degree none = by_places (slice_get w.places i) refl
  where
    by_places : (o : Option (List Place)) → slice_get w.places i ≡ o → d ≤ q
    by_places None here = absurd (None_not_Some (sym (ap (λ (o : Option (List Place)). option_map (λ (ps : List Place). length ps) o) here) ∙ degree))
    by_places (Some ps) here =
        let is : length ps ≡ d = Some_injective (sym (ap (λ (o : Option (List Place)). option_map (λ (ps : List Place). length ps) o) here) ∙ degree) in
        let over : length ps ≤ q = past_end ps q (sym (ap (λ (o : Option (List Place)). option_and_then (λ (ps : List Place). slice_get ps q) o) here) ∙ none) in
        omega (arith, is, over)

-- a notice waits at the port numbered by the degree
pub port_of_notice : (w : World) (i q : ℕ) (n : Notice) → notice_at w i q ≡ Some n → (degree_of w i ≡ Some q) × (option_and_then (λ (a : Attachments). slice_get a.notices 0) (slice_get w.attachments i) ≡ Some n)
port_of_notice w i q n at = by_home (is_at_home w i q) refl at
  where
    by_degree : (o : Option ℕ) → option_map_or (λ d. q == d) o false ≡ true → o ≡ Some q
    by_degree None never = absurd (None_not_Some (ap (λ (b : Bool). if b then None else Some q) (sym never)))
    by_degree (Some d) here = ap Some (sym (eqb-true q d here))

    by_home : (b : Bool) → is_at_home w i q ≡ b → (if b then option_and_then (λ (a : Attachments). slice_get a.notices 0) (slice_get w.attachments i) else None) ≡ Some n → (degree_of w i ≡ Some q) × (option_and_then (λ (a : Attachments). slice_get a.notices 0) (slice_get w.attachments i) ≡ Some n)
    by_home true home found = (by_degree (degree_of w i) home, found)
    by_home false away none = absurd (None_not_Some none)

-- a router of a network without faults has no more than 32 ports, after each run
pub few : (n : Network) → IsNetwork n → (ss : List Step) (w : World) → Runs (opening n) ss w → (i d : ℕ) → degree_of w i ≡ Some d → d ≤ 32
few n valid ss w runs i d degree = by_number (slice_get (range_with_len 0 n.routers) i) places
  where
    places : option_map (λ (ps : List Place). length ps) (option_map (λ k. places_from 0 k n.links) (slice_get (range_with_len 0 n.routers) i)) ≡ Some d
    places =
        ap (option_map (λ (ps : List Place). length ps)) (sym (slice_get-map (λ k. places_from 0 k n.links) (range_with_len 0 n.routers) i))
        ∙ ap (λ xs. option_map (λ (ps : List Place). length ps) (slice_get xs i)) (sym (Runs-shape (opening n) ss w runs).places)
        ∙ degree

    by_number : (o : Option ℕ) → option_map (λ (ps : List Place). length ps) (option_map (λ k. places_from 0 k n.links) o) ≡ Some d → d ≤ 32
    by_number None is = absurd (None_not_Some is)
    by_number (Some k) is = subst (λ x. x ≤ 32) (Some_injective is) (few_ports n k valid.no_fault)

-- each router of a run has a number of ports
pub has_degree : (n : Network) (ss : List Step) (w : World) → Runs (opening n) ss w → (i : ℕ) → i < length w.routers → (d : ℕ) × (degree_of w i ≡ Some d)
has_degree n ss w runs i below = by_places (slice_get w.places i) refl
  where
    as_many : length w.places ≡ n.routers
    as_many = ap length (Runs-shape (opening n) ss w runs).places ∙ length-map-range_with_len (λ k. places_from 0 k n.links) 0 n.routers

    routers : length w.routers ≡ n.routers
    routers = (Runs-shape (opening n) ss w runs).routers ∙ length-map-range_with_len (opening_router_of n) 0 n.routers

    by_places : (o : Option (List Place)) → slice_get w.places i ≡ o → (d : ℕ) × (degree_of w i ≡ Some d)
    by_places None none = (let over = past_end w.places i none in absurd (omega (arith, over, as_many, routers, below)))
    by_places (Some ps) here = (length ps, ap (λ (o : Option (List Place)). option_map (λ (ps : List Place). length ps) o) here)
