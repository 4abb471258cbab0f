-- What a router does next, by the tests of the code.
use Rattle.std.proofs.Common.{refl, ap, ◌∙◌, arith, ◌≡◌, ℕ, ◌+◌, suc, Bool, true, false, cond, not, ◌==◌, if◌then◌else◌, List, [], ◌∷◌, map, length, Option, Some, None, is_some, is_ok, is_none, option_map, option_and_then, slice_get, find, ne_eqb, eq-eqb}
use Rattle.no_packet_loops.proofs.Common.{range_with_len, position_from, slice_get_within, Held, Item, Notice, Place, Refusal, UnknownRouter, UnknownLink, NothingToDeliver, NothingDue, NothingRipe, Link, Router, Attachments, World, side, first_cause, is_due, ripe_front, is_at_home, has_no_notice, is_lawful, next_step, option_map_or, ok_or, Step, Deliver, Publish, Release}
use Rattle.link_fifo.specs.{declared.refusal.LinkRefusal.LinkRefusal, Refusals.front_of}
use Rattle.world.specs.Waiting.{is_waiting, waiting_port}
use Rattle.world.proofs.Done.{item_refusal, notice_refusal}

-- ---- which of a router's steps are lawful

-- a release is where its gate has a ripe front
release-lawful : (w : World) (i : ℕ) (r : Router) → slice_get w.routers i ≡ Some r → is_lawful w (Release i) ≡ is_some (ripe_front r)
release-lawful w i r there =
    ap (λ (o : Option Router). is_none (first_cause ((is_none o, UnknownRouter) ∷ (is_none (option_and_then ripe_front o), NothingRipe) ∷ []))) there
    ∙ by_front (ripe_front r)
  where
    by_front : (o : Option Held) → is_none (first_cause ((is_none o, NothingRipe) ∷ [])) ≡ is_some o
    by_front None = refl
    by_front (Some h) = refl

-- a publication is where it is due
publish-lawful : (w : World) (i : ℕ) (r : Router) → slice_get w.routers i ≡ Some r → is_lawful w (Publish i) ≡ is_due r
publish-lawful w i r there =
    ap (λ (o : Option Router). is_none (first_cause ((is_none o, UnknownRouter) ∷ (not (option_map_or is_due o false), NothingDue) ∷ []))) there
    ∙ by_due (is_due r)
  where
    by_due : (b : Bool) → is_none (first_cause ((not b, NothingDue) ∷ [])) ≡ b
    by_due true = refl
    by_due false = refl

-- a delivery is where an item waits at the place of the port
deliver-lawful : (w : World) (i q : ℕ) (r : Router) (ps : List Place) (p : Place) → slice_get w.routers i ≡ Some r → slice_get w.places i ≡ Some ps → slice_get ps q ≡ Some p
    → is_lawful w (Deliver i q) ≡ is_waiting w.links p
deliver-lawful w i q r ps p there placed port =
    ap is_none (item_refusal w i q away)
    ∙ ap (λ (o : Option Router). is_none (first_cause ((is_none o, UnknownRouter) ∷ at_place (option_and_then (λ xs. slice_get xs q) (slice_get w.places i))))) there
    ∙ ap (λ (o : Option (List Place)). is_none (first_cause (at_place (option_and_then (λ xs. slice_get xs q) o)))) placed
    ∙ ap (λ (o : Option Place). is_none (first_cause (at_place o))) port
    ∙ by_link (slice_get w.links p.link)
  where
    away : is_at_home w i q ≡ false
    away =
        let within = slice_get_within ps q p port in
        ap (λ (o : Option (List Place)). option_map_or (λ d. q == d) (option_map (λ (xs : List Place). length xs) o) false) placed ∙ ne_eqb q (length ps) (λ e. omega (arith, within, e))

    at_place : Option Place → List (Bool × Refusal)
    at_place o =
        (is_none (option_and_then (λ x. slice_get w.links x.link) o), UnknownLink)
        ∷ (is_none (option_and_then (λ s. slice_get s.inbox 0) (option_and_then (λ x. option_map (side x.end) (slice_get w.links x.link)) o)), NothingToDeliver) ∷ []

    by_front : (o : Option Item) → is_none (first_cause ((is_none o, NothingToDeliver) ∷ [])) ≡ is_ok (ok_or o LinkRefusal.NothingToDeliver)
    by_front None = refl
    by_front (Some x) = refl

    by_link : (o : Option Link)
        → is_none (first_cause ((is_none o, UnknownLink) ∷ (is_none (option_and_then (λ s. slice_get s.inbox 0) (option_map (side p.end) o)), NothingToDeliver) ∷ []))
        ≡ is_ok (front_of p.end o)
    by_link None = refl
    by_link (Some k) = by_front (slice_get (side p.end k).inbox 0)

-- whether notices wait with these attachments, if there are any
abbrev some_wait : Option Attachments → Bool
some_wait o = option_map_or (λ a. not (has_no_notice a)) o false

-- at the port numbered by the degree, it is where a notice waits
notice-lawful : (w : World) (i : ℕ) (r : Router) (ps : List Place) → slice_get w.routers i ≡ Some r → slice_get w.places i ≡ Some ps → is_lawful w (Deliver i (length ps)) ≡ some_wait (slice_get w.attachments i)
notice-lawful w i r ps there placed =
    ap is_none (notice_refusal w i (length ps) r there home)
    ∙ ap (λ b. is_none (first_cause ((is_none (if b then option_and_then (λ (a : Attachments). slice_get a.notices 0) (slice_get w.attachments i) else None), NothingToDeliver) ∷ []))) home
    ∙ by_attachments (slice_get w.attachments i)
  where
    home : is_at_home w i (length ps) ≡ true
    home = ap (λ (o : Option (List Place)). option_map_or (λ d. length ps == d) (option_map (λ (xs : List Place). length xs) o) false) placed ∙ eq-eqb (length ps) (length ps) refl

    by_notices : (xs : List Notice) → is_none (first_cause ((is_none (slice_get xs 0), NothingToDeliver) ∷ [])) ≡ not (has_no_notice (record { costs = []; notices = xs }))
    by_notices [] = refl
    by_notices (x ∷ xs) = refl

    by_attachments : (o : Option Attachments) → is_none (first_cause ((is_none (option_and_then (λ (a : Attachments). slice_get a.notices 0) o), NothingToDeliver) ∷ [])) ≡ some_wait o
    by_attachments None = refl
    by_attachments (Some a) = by_notices a.notices

-- ---- the first that is lawful

-- the first place that passes; where none does, the number behind them, if that passes
abbrev place_or_last : (Place → Bool) → Bool → ℕ → List Place → Option ℕ
place_or_last test last a ps = option_map_or (λ q. Some q) (position_from test a ps) (if last then Some (a + length ps) else None)

-- of the deliveries at ports from a on, the first that is lawful is that at the first place that passes, or at the port behind them
first_delivery : (lawful : Step → Bool) (test : Place → Bool) (last : Bool) (i a : ℕ) (ps : List Place) → ((q : ℕ) (p : Place) → slice_get ps q ≡ Some p → lawful (Deliver i (a + q)) ≡ test p) → lawful (Deliver i (a + length ps)) ≡ last
    → find lawful (map (λ q. Deliver i q) (range_with_len a (suc (length ps)))) ≡ option_map (λ q. Deliver i q) (place_or_last test last a ps)
first_delivery lawful test last i a [] each behind =
    let here : a ≡ a + 0 = omega arith in
    ap (λ (k : ℕ). cond (lawful (Deliver i k)) (Some (Deliver i k)) None) here
    ∙ ap (λ b. cond b (Some (Deliver i (a + 0))) None) behind ∙ by_last last
  where
    by_last : (b : Bool) → cond b (Some (Deliver i (a + 0))) None ≡ option_map (λ q. Deliver i q) (if b then Some (a + 0) else None)
    by_last true = refl
    by_last false = refl
first_delivery lawful test last i a (p ∷ ps) each behind =
    let here : a ≡ a + 0 = omega arith in
    ap (λ b. cond b (Some (Deliver i a)) later) (ap (λ (k : ℕ). lawful (Deliver i k)) here ∙ each 0 p refl)
    ∙ by_test (test p) (first_delivery lawful test last i (a + 1) ps (λ q x at. ap (λ (k : ℕ). lawful (Deliver i k)) (next_port q) ∙ each (suc q) x at) (ap (λ (k : ℕ). lawful (Deliver i k)) (next_port (length ps)) ∙ behind))
  where
    later : Option Step
    later = find lawful (map (λ q. Deliver i q) (range_with_len (a + 1) (suc (length ps))))

    next_port : (q : ℕ) → (a + 1) + q ≡ a + suc q
    next_port q = omega arith

    by_test : (b : Bool) → later ≡ option_map (λ q. Deliver i q) (place_or_last test last (a + 1) ps)
        → cond b (Some (Deliver i a)) later ≡ option_map (λ q. Deliver i q) (option_map_or (λ q. Some q) (cond b (Some a) (position_from test (a + 1) ps)) (if last then Some (a + suc (length ps)) else None))
    by_test true rest = refl
    by_test false rest = rest ∙ ap (λ n. option_map (λ q. Deliver i q) (option_map_or (λ q. Some q) (position_from test (a + 1) ps) (if last then Some n else None))) (next_port (length ps))

-- a router that is there releases where it can, else publishes where that is due, else takes an item or a notice from its lowest port that has one
pub next_step-known : (w : World) (i : ℕ) (r : Router) → slice_get w.routers i ≡ Some r
    → next_step w i ≡ cond (is_some (ripe_front r)) (Some (Release i)) (cond (is_due r) (Some (Publish i)) (option_map (λ q. Deliver i q) (waiting_port w i)))
next_step-known w i r there =
    ap (λ b. cond b (Some (Release i)) (cond (is_lawful w (Publish i)) (Some (Publish i)) (find (is_lawful w) (deliveries (slice_get w.places i))))) (release-lawful w i r there)
    ∙ ap (λ b. cond (is_some (ripe_front r)) (Some (Release i)) (cond b (Some (Publish i)) (find (is_lawful w) (deliveries (slice_get w.places i))))) (publish-lawful w i r there)
    ∙ ap (λ o. cond (is_some (ripe_front r)) (Some (Release i)) (cond (is_due r) (Some (Publish i)) o)) (by_places (slice_get w.places i) refl)
  where
    deliveries : Option (List Place) → List Step
    deliveries o = map (λ q. Deliver i q) (range_with_len 0 (option_map_or (λ d. d + 1) (option_map (λ (ps : List Place). length ps) o) 0))

    plain : (q : ℕ) → 0 + q ≡ q
    plain q = omega arith

    by_places : (o : Option (List Place)) → slice_get w.places i ≡ o
        → find (is_lawful w) (deliveries o)
        ≡ option_map (λ q. Deliver i q) (option_map_or (λ q. Some q) (option_and_then (position_from (is_waiting w.links) 0) o) (if some_wait (slice_get w.attachments i) then option_map (λ (ps : List Place). length ps) o else None))
    by_places None at = by_wait (some_wait (slice_get w.attachments i))
      where
        by_wait : (b : Bool) → None ≡ option_map (λ q. Deliver i q) (if b then None else None)
        by_wait true = refl
        by_wait false = refl
    by_places (Some ps) at =
        let ports : length ps + 1 ≡ suc (length ps) = omega arith in
        ap (λ n. find (is_lawful w) (map (λ q. Deliver i q) (range_with_len 0 n))) ports
        ∙ first_delivery (is_lawful w) (is_waiting w.links) (some_wait (slice_get w.attachments i)) i 0 ps
        (λ q p port. ap (λ (k : ℕ). is_lawful w (Deliver i k)) (plain q) ∙ deliver-lawful w i q r ps p there at port)
        (ap (λ (k : ℕ). is_lawful w (Deliver i k)) (plain (length ps)) ∙ notice-lawful w i r ps there at)
        ∙ ap (λ n. option_map (λ q. Deliver i q) (option_map_or (λ q. Some q) (position_from (is_waiting w.links) 0 ps) (if some_wait (slice_get w.attachments i) then Some n else None))) (plain (length ps))

pub next_step-release : (w : World) (i : ℕ) (r : Router) → slice_get w.routers i ≡ Some r → is_some (ripe_front r) ≡ true → next_step w i ≡ Some (Release i)
next_step-release w i r there front =
    next_step-known w i r there
    ∙ ap (λ b. cond b (Some (Release i)) (cond (is_due r) (Some (Publish i)) (option_map (λ q. Deliver i q) (waiting_port w i)))) front

-- one that cannot, and has something to publish
pub next_step-publish : (w : World) (i : ℕ) (r : Router) → slice_get w.routers i ≡ Some r → is_some (ripe_front r) ≡ false → is_due r ≡ true → next_step w i ≡ Some (Publish i)
next_step-publish w i r there front due =
    next_step-known w i r there
    ∙ ap (λ b. cond b (Some (Release i)) (cond (is_due r) (Some (Publish i)) (option_map (λ q. Deliver i q) (waiting_port w i)))) front
    ∙ ap (λ b. cond b (Some (Publish i)) (option_map (λ q. Deliver i q) (waiting_port w i))) due

-- one that can neither release nor publish
pub next_step-port : (w : World) (i : ℕ) (r : Router) → slice_get w.routers i ≡ Some r → is_some (ripe_front r) ≡ false → is_due r ≡ false
    → next_step w i ≡ option_map (λ q. Deliver i q) (waiting_port w i)
next_step-port w i r there front due =
    next_step-known w i r there
    ∙ ap (λ b. cond b (Some (Release i)) (cond (is_due r) (Some (Publish i)) (option_map (λ q. Deliver i q) (waiting_port w i)))) front
    ∙ ap (λ b. cond b (Some (Publish i)) (option_map (λ q. Deliver i q) (waiting_port w i))) due
