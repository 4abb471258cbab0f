-- What the answer of a call on a link, a port or a router says of the step that it is done for.
use Rattle.std.proofs.Common.{refl, sym, ap, subst, ◌∙◌, arith, inl, inr, ◌≡◌, ℕ, ◌<◌, Bool, true, false, not, ◌&&◌, ◌==◌, if◌then◌else◌, nat_lt, List, [], ◌∷◌, length, Option, Some, None, Result, Ok, Err, slice_get, is_none, is_ok, option_and_then, option_map, MatchOption, IfOk, IfErr, OnOk, OnSome, IsErrAnd, MatchBool, get_or, set, true≢false, eqb-true}
use Rattle.no_packet_loops.proofs.Common.{and-false, slice_get_within, IsCost, Prefix, prefix_cmp, Item, Notice, Held, End, Place, Port, Refusal, changed_at, Side, Link, Router, Attachments, World, place_at, link_at, is_known, side, attachment_at, first_cause, CanBeAsked, Lawful, next, refusal, is_up, last_session, front_at, is_at_home, notice_at, release_at, link_come_up, link_gone_down, with_cost, with_message, with_front_taken, with_delivered, with_noticed, with_notice_taken, with_released, changed_router, router_accepting, router_at_home, router_releasing, is_due, is_up_in, None_not_Some, Some_injective, element_there, refusal_to_Lawful, Lawful_to_refusal, result_err, set-get_or, option_map_or, ok_or, find as row_of, Step, LinkUp, LinkDown, SetCost, Deliver, Release, Detach, Publish}
use Rattle.link_fifo.specs.{declared.refusal.LinkRefusal.LinkRefusal, declared.refusal.Put.Put}
use Rattle.link_fifo.specs.Refusals.{refusal_to_come_up, refusal_to_change, front_of, sent_in, step_refusal, IsDoneUnless, AnswersPut}
use Rattle.link_fifo.proofs.Changes.{front_of-Some}
use Rattle.router_core.specs.{Router.is_port_up, Router.CanTake, Room.ItemNeedsMemory, Room.MeetingNeedsMemory}
use Rattle.world.specs.Kept.{ItemsLead, IsWorld}
use Rattle.world.specs.Steps.{DeliveryNeedsMemory, IsDoneOr, IsPort, port_refusal, prefix_refusal, is_stale, TakingNeedsMemory}
use Rattle.world.proofs.Steps.{next-kept}

-- ---- causes

-- what was done was not refused
pub no_cause : {C T : Type 0} (A : Type 0) (o : Option C) (x : T) → MatchOption o A (λ (e : C). ◌≡◌ {A = Result T C} (Ok x) (Err e)) → o ≡ None
no_cause A None x done = refl
no_cause A (Some e) x done = absurd (true≢false (ap is_ok done))

-- what is refused for its cause alone has one
pub only_cause : (T : Type 0) {C : Type 0} (o : Option C) (e : C) → MatchOption o (false ≡ true) (λ (x : C). ◌≡◌ {A = Result T C} (Err e) (Err x)) → o ≡ Some e
only_cause T None e none = absurd (true≢false (sym none))
only_cause T {C} (Some x) e same = let inner : ◌≡◌ {A = Result T C} (Err e) (Err x) = same in cc

-- the same tests, with other names for the causes
two_alike : {C D : Type 0} (f : C → D) (x y : C) (a b : Bool) → first_cause ((a, f x) ∷ (b, f y) ∷ []) ≡ option_map f (first_cause ((a, x) ∷ (b, y) ∷ []))
two_alike f x y true b = refl
two_alike f x y false true = refl
two_alike f x y false false = refl

three_alike : {C D : Type 0} (f : C → D) (x y z : C) (a b c : Bool) → first_cause ((a, f x) ∷ (b, f y) ∷ (c, f z) ∷ []) ≡ option_map f (first_cause ((a, x) ∷ (b, y) ∷ (c, z) ∷ []))
three_alike f x y z true b c = refl
three_alike f x y z false b c = two_alike f y z b c

-- what is refused for its cause is not lawful
pub not_lawful : {X : Type 0} (o : Option Refusal) (e : Refusal) → o ≡ Some e → o ≡ None → X
not_lawful o e caused none = absurd (None_not_Some (sym none ∙ caused))

-- ---- what is refused at a port

-- refused for this cause
pub refused : (o : Option Refusal) (r : Result (Unit {0}) Refusal) (e : Refusal) → o ≡ Some e → r ≡ Err e → IsDoneOr o r
refused o r e is answer = subst (λ c. IsDoneOr c r) (sym is) answer

-- a test of what is there fails with one that holds beside it
beside_true : (a b : Bool) → b ≡ true → (a && b) ≡ a
beside_true true b holds = holds
beside_true false b holds = refl

-- the tests of a delivery at a port that is not the one of the notices
pub item_refusal : (w : World) (i q : ℕ) → is_at_home w i q ≡ false
    → refusal w (Deliver i q) ≡ first_cause ((is_none (slice_get w.routers i), Refusal.UnknownRouter) ∷ (is_none (link_at w i q), Refusal.UnknownLink) ∷ (is_none (front_at w i q), Refusal.NothingToDeliver) ∷ [])
item_refusal w i q away =
    let no_notice : is_none (notice_at w i q) ≡ true = ap (λ b. is_none (if b then option_and_then (λ (a : Attachments). slice_get a.notices 0) (slice_get w.attachments i) else None)) away in
    ap (λ b. first_cause ((is_none (slice_get w.routers i), Refusal.UnknownRouter) ∷ (b, Refusal.UnknownLink) ∷ (is_none (front_at w i q) && is_none (notice_at w i q), Refusal.NothingToDeliver) ∷ []))
    (beside_true (is_none (link_at w i q)) (not (is_at_home w i q)) (ap not away))
    ∙ ap (λ b. first_cause ((is_none (slice_get w.routers i), Refusal.UnknownRouter) ∷ (is_none (link_at w i q), Refusal.UnknownLink) ∷ (b, Refusal.NothingToDeliver) ∷ []))
    (beside_true (is_none (front_at w i q)) (is_none (notice_at w i q)) no_notice)

-- ---- what a step that was done keeps

step-keeps : (w : World) (s : Step) → CanBeAsked s → refusal w s ≡ None → (v : World) → v ≡ next w s → IsWorld w → IsWorld v
step-keeps w s asked none v is h = subst IsWorld (sym is) (next-kept w s (refusal_to_Lawful w s asked none) h)

-- ---- what a link answers

-- a step is refused where its link refuses it, and for the same cause
pub up_refusal : (w : World) (l : ℕ) → refusal w (LinkUp l) ≡ option_map step_refusal (refusal_to_come_up w.links l)
up_refusal w l = three_alike step_refusal LinkRefusal.UnknownLink LinkRefusal.AlreadyUp LinkRefusal.SessionsSpent (is_none (slice_get w.links l)) (is_up (slice_get w.links l)) (not (option_map_or (λ k. nat_lt k.session last_session) (slice_get w.links l) false))

pub down_refusal : (w : World) (l : ℕ) → refusal w (LinkDown l) ≡ option_map step_refusal (refusal_to_change w.links l)
down_refusal w l = two_alike step_refusal LinkRefusal.UnknownLink LinkRefusal.IsDown (is_none (slice_get w.links l)) (not (is_up (slice_get w.links l)))

-- the link of a port
link_of : (w : World) (i q : ℕ) (p : Place) → place_at w i q ≡ Some p → link_at w i q ≡ slice_get w.links p.link
link_of w i q p at = ap (option_and_then (λ (x : Place). slice_get w.links x.link)) at

pub set_cost_refusal : (w : World) (i q : ℕ) (p : Place) (cost : ℕ) → IsPort w i q p → refusal w (SetCost i q cost) ≡ option_map step_refusal (refusal_to_change w.links p.link)
set_cost_refusal w i q p cost port =
    ap (λ b. first_cause ((b, Refusal.UnknownRouter) ∷ (is_none (link_at w i q), Refusal.UnknownLink) ∷ (not (is_up (link_at w i q)), Refusal.IsDown) ∷ [])) (ap is_none port.is_router)
    ∙ two_alike step_refusal LinkRefusal.UnknownLink LinkRefusal.IsDown (is_none (link_at w i q)) (not (is_up (link_at w i q)))
    ∙ ap (λ k. option_map step_refusal (first_cause ((is_none k, LinkRefusal.UnknownLink) ∷ (not (is_up k), LinkRefusal.IsDown) ∷ []))) (link_of w i q p port.is_place)

pub item_cause : (w : World) (i q : ℕ) (p : Place) → IsPort w i q p → is_at_home w i q ≡ false → refusal w (Deliver i q) ≡ option_map step_refusal (result_err (front_of p.end (slice_get w.links p.link)))
item_cause w i q p port away =
    item_refusal w i q away
    ∙ ap (λ b. first_cause ((b, Refusal.UnknownRouter) ∷ (is_none (link_at w i q), Refusal.UnknownLink) ∷ (is_none (front_at w i q), Refusal.NothingToDeliver) ∷ [])) (ap is_none port.is_router)
    ∙ ap (λ (o : Option Place). first_cause ((is_none (option_and_then (λ x. slice_get w.links x.link) o), Refusal.UnknownLink)
    ∷ (is_none (option_and_then (λ s. slice_get s.inbox 0) (option_and_then (λ x. option_map (side x.end) (slice_get w.links x.link)) o)), Refusal.NothingToDeliver) ∷ [])) port.is_place
    ∙ by_link (slice_get w.links p.link)
  where
    by_front : (o : Option Item) → first_cause ((is_none o, Refusal.NothingToDeliver) ∷ []) ≡ option_map step_refusal (result_err (ok_or o LinkRefusal.NothingToDeliver))
    by_front None = refl
    by_front (Some x) = refl

    by_link : (o : Option Link) → first_cause ((is_none o, Refusal.UnknownLink) ∷ (is_none (option_and_then (λ s. slice_get s.inbox 0) (option_map (side p.end) o)), Refusal.NothingToDeliver) ∷ []) ≡ option_map step_refusal (result_err (front_of p.end o))
    by_link None = refl
    by_link (Some k) = by_front (slice_get (side p.end k).inbox 0)

-- what a link did was not refused
pub not_refused : (o : Option LinkRefusal) (x : Unit {0}) → IsDoneUnless o (Ok x) → o ≡ None
not_refused o x done = no_cause _ o x done

-- so the step answers what its link answers
pub done_on_link : {c : Option Refusal} (o : Option LinkRefusal) (x : Unit {0}) → c ≡ option_map step_refusal o → IsDoneUnless o (Ok x) → IsDoneOr c (Ok x)
done_on_link o x is done = subst (λ c. IsDoneOr c (Ok x)) (sym (is ∙ ap (option_map step_refusal) (not_refused o x done))) tt

pub refused_by_link : {c : Option Refusal} (o : Option LinkRefusal) (e : LinkRefusal) (r : Result (Unit {0}) Refusal) → c ≡ option_map step_refusal o → IsDoneUnless {X = Unit {0}} o (Err e) → IsErrAnd r (λ x. x ≡ step_refusal e) → IsDoneOr c r
refused_by_link o e r is cause answer = subst (λ c. IsDoneOr c r) (sym is) (by_cause o cause r answer)
  where
    by_cause : (o : Option LinkRefusal) → IsDoneUnless {X = Unit {0}} o (Err e) → (r : Result (Unit {0}) Refusal) → IsErrAnd r (λ x. x ≡ step_refusal e) → IsDoneOr (option_map step_refusal o) r
    by_cause o cause (Ok x) none = absurd none
    by_cause None full (Err x) answer = answer ∙ ap step_refusal full
    by_cause (Some d) same (Err x) answer = let inner : ◌≡◌ {A = Result (Unit {0}) LinkRefusal} (Err e) (Err d) = same in let is : e ≡ d = cc in ap (λ y. Err y) (answer ∙ ap step_refusal is)

-- the same where the link takes no memory: what is not refused for a cause is done
pub done_for_link : {c : Option Refusal} (o : Option LinkRefusal) (x : Unit {0}) → c ≡ option_map step_refusal o → o ≡ None → MatchOption c (true ≡ true) (λ (e : Refusal). ◌≡◌ {A = Result (Unit {0}) Refusal} (Ok x) (Err e))
done_for_link o x is none = subst (λ c. MatchOption c (true ≡ true) (λ (e : Refusal). ◌≡◌ {A = Result (Unit {0}) Refusal} (Ok x) (Err e))) (sym (is ∙ ap (option_map step_refusal) none)) refl

pub refused_for_link : {c : Option Refusal} (o : Option LinkRefusal) (e : LinkRefusal) (r : Result (Unit {0}) Refusal) → c ≡ option_map step_refusal o
    → MatchOption o (false ≡ true) (λ (x : LinkRefusal). ◌≡◌ {A = Result (Unit {0}) LinkRefusal} (Err e) (Err x)) → IsErrAnd r (λ x. x ≡ step_refusal e)
    → MatchOption c (is_ok r ≡ true) (λ (x : Refusal). r ≡ Err x)
refused_for_link o e r is cause answer = subst (λ c. MatchOption c (is_ok r ≡ true) (λ (x : Refusal). r ≡ Err x)) (sym (is ∙ ap (option_map step_refusal) (only_cause (Unit {0}) o e cause))) (by_answer r answer)
  where
    by_answer : (r : Result (Unit {0}) Refusal) → IsErrAnd r (λ x. x ≡ step_refusal e) → r ≡ Err (step_refusal e)
    by_answer (Ok x) none = absurd none
    by_answer (Err x) same = ap (λ y. Err y) same

pub up-keeps : (w : World) (l : ℕ) (links : List Link) → refusal_to_come_up w.links l ≡ None → links ≡ changed_at l link_come_up w.links → IsWorld w → IsWorld (record w { links = links })
up-keeps w l links none is = step-keeps w (LinkUp l) tt (up_refusal w l ∙ ap (option_map step_refusal) none) (record w { links = links }) (ap (λ ks. record w { links = ks }) is)

pub down-keeps : (w : World) (l : ℕ) (links : List Link) → refusal_to_change w.links l ≡ None → links ≡ changed_at l link_gone_down w.links → IsWorld w → IsWorld (record w { links = links })
down-keeps w l links none is = step-keeps w (LinkDown l) tt (down_refusal w l ∙ ap (option_map step_refusal) none) (record w { links = links }) (ap (λ ks. record w { links = ks }) is)

pub set_cost-keeps : (w : World) (i q : ℕ) (p : Place) (cost : ℕ) (links : List Link) → IsCost cost → IsPort w i q p → refusal_to_change w.links p.link ≡ None → links ≡ changed_at p.link (with_cost cost p.end) w.links → IsWorld w → IsWorld (record w { links = links })
set_cost-keeps w i q p cost links costs port none is =
    step-keeps w (SetCost i q cost) costs (set_cost_refusal w i q p cost port ∙ ap (option_map step_refusal) none)
    (record w { links = links }) (ap (λ ks. record w { links = ks }) is ∙ sym (ap (λ o. option_map_or (λ (x : Place). record w { links = changed_at x.link (with_cost cost x.end) w.links }) o w) port.is_place))

-- ---- a port that is asked for

-- a port whose place is known
port_there : (w : World) (i q : ℕ) (p : Place) → IsWorld w → i < length w.routers → place_at w i q ≡ Some p → IsPort w i q p
port_there w i q p h below at =
    let r : _ = element_there w.routers i below in
    let k : _ = element_there w.links p.link (h.links_known i q p at) in
    record { router = r.0; is_router = r.1; link = k.0; is_link = k.1; is_place = at }

pub port_answer : (w : World) (i q : ℕ) (r : Result Place Refusal) → IsWorld w → i < length w.routers → r ≡ ok_or (place_at w i q) Refusal.UnknownLink → IfOk r (λ p. IsPort w i q p)
port_answer w i q r h below is = subst (λ a. IfOk a (λ p. IsPort w i q p)) (sym is) (by_place (place_at w i q) refl)
  where
    by_place : (o : Option Place) → place_at w i q ≡ o → IfOk (ok_or o Refusal.UnknownLink) (λ p. IsPort w i q p)
    by_place None at = tt
    by_place (Some p) at = port_there w i q p h below at

pub port_cause : (w : World) (i q : ℕ) (r : Result Place Refusal) → i < length w.routers → r ≡ ok_or (place_at w i q) Refusal.UnknownLink → IfErr r (λ e. port_refusal w i q ≡ Some e)
port_cause w i q r below is = subst (λ a. IfErr a (λ e. port_refusal w i q ≡ Some e)) (sym is) (by_place (place_at w i q) refl)
  where
    router_there : is_none (slice_get w.routers i) ≡ false
    router_there = ap is_none (element_there w.routers i below).1

    by_place : (o : Option Place) → place_at w i q ≡ o → IfErr (ok_or o Refusal.UnknownLink) (λ e. port_refusal w i q ≡ Some e)
    by_place None at = ap (λ b. first_cause ((b, Refusal.UnknownRouter) ∷ (is_none (link_at w i q), Refusal.UnknownLink) ∷ [])) router_there
        ∙ ap (λ o. first_cause ((is_none (option_and_then (λ (x : Place). slice_get w.links x.link) o), Refusal.UnknownLink) ∷ [])) at
    by_place (Some p) at = tt

-- ---- a delivery

-- the item that a link answers is its front one
front_is : (e : End) (o : Option Link) (k : Link) (item : Item) → o ≡ Some k → front_of e o ≡ Ok item → slice_get (side e k).inbox 0 ≡ Some item
front_is e o k item is answer = front_of-Some e k item (sym (ap (front_of e) is) ∙ answer)

-- a port takes the front item of what leads from it to its link
takes : (ports : List Port) (q : ℕ) (x : Port) (link : Bool) (items : List Item) (item : Item) → slice_get ports q ≡ Some x → slice_get items 0 ≡ Some item → ItemsLead x.up link items → CanTake ports q item
takes ports q x link [] item at none leads = absurd (None_not_Some none)
takes ports q x link (y ∷ ys) item at some leads = subst (λ z. CanTake ports q z) (Some_injective some) (by_item y leads)
  where
    up_is : is_port_up ports q ≡ x.up
    up_is = ap (λ o. option_map_or (λ (p : Port). p.up) o false) at

    by_item : (y : Item) → ItemsLead x.up link (y ∷ ys) → CanTake ports q y
    by_item (Item.Up session cost) leads = up_is ∙ leads.0
    by_item _ leads = up_is ∙ leads.0

-- the port is one that its router knows
pub port_known : (w : World) (i q : ℕ) (p : Place) (r : Router) → IsWorld w → slice_get w.routers i ≡ Some r → place_at w i q ≡ Some p → q < length r.ports
port_known w i q p r h is_router at = by_places (slice_get w.places i) refl at
  where
    by_places : (o : Option (List Place)) → slice_get w.places i ≡ o → option_and_then (λ (ps : List Place). slice_get ps q) o ≡ Some p → q < length r.ports
    by_places None is none = absurd (None_not_Some none)
    by_places (Some ps) is some = subst (λ n. q < n) (sym (h.ports_placed i r ps is_router is)) (slice_get_within ps q p some)

pub can_take : (w : World) (i q : ℕ) (p : Place) (r : Router) (item : Item) → IsWorld w → IsPort w i q p → slice_get w.routers i ≡ Some r → front_of p.end (slice_get w.links p.link) ≡ Ok item → CanTake r.ports q item
can_take w i q p r item h port is_router answer =
    let x : _ = element_there r.ports q (port_known w i q p r h is_router port.is_place) in
    takes r.ports q x.0 _ _ item x.1 (front_is p.end (slice_get w.links p.link) port.link item port.is_link answer) (h.inboxes i q r x.0 p port.link is_router x.1 port.is_place port.is_link)

-- the item that the port takes next
front_at_is : (w : World) (i q : ℕ) (p : Place) (item : Item) → IsPort w i q p → front_of p.end (slice_get w.links p.link) ≡ Ok item → front_at w i q ≡ Some item
front_at_is w i q p item port answer =
    ap (λ o. option_and_then (λ (s : Side). slice_get s.inbox 0) (option_and_then (λ (x : Place). option_map (side x.end) (slice_get w.links x.link)) o)) port.is_place
    ∙ ap (λ o. option_and_then (λ (s : Side). slice_get s.inbox 0) (option_map (side p.end) o)) port.is_link
    ∙ front_is p.end (slice_get w.links p.link) port.link item port.is_link answer

-- router i took this item from its port q at place p
pub delivered : (w : World) (i q : ℕ) (p : Place) (item : Item) (links : List Link) (routers : List Router) → IsPort w i q p → front_of p.end (slice_get w.links p.link) ≡ Ok item
    → links ≡ changed_at p.link (with_front_taken p.end) w.links → routers ≡ changed_at i (router_accepting q item) w.routers → record w { links = links; routers = routers } ≡ next w (Deliver i q)
delivered w i q p item links routers port answer links_are routers_are =
    ap (λ ks. record w { links = ks; routers = routers }) links_are
    ∙ ap (λ rs. record w { links = changed_at p.link (with_front_taken p.end) w.links; routers = rs }) routers_are
    ∙ sym (ap (λ o. option_map_or (with_delivered i q w) o (option_map_or (with_noticed i w) (notice_at w i q) w)) (front_at_is w i q p item port answer)
    ∙ ap (λ o. changed_router i (router_accepting q item) (option_map_or (λ (x : Place). record w { links = changed_at x.link (with_front_taken x.end) w.links }) o w)) port.is_place)

pub item_lawful : (w : World) (i q : ℕ) (p : Place) (item : Item) → IsPort w i q p → front_of p.end (slice_get w.links p.link) ≡ Ok item → Lawful w (Deliver i q)
item_lawful w i q p item port answer = (port.router, port.is_router, inl (item, front_at_is w i q p item port answer))

pub delivered-keeps : (w : World) (i q : ℕ) (p : Place) (item : Item) (v : World) → IsPort w i q p → front_of p.end (slice_get w.links p.link) ≡ Ok item → v ≡ next w (Deliver i q) → IsWorld w → IsWorld v
delivered-keeps w i q p item v port answer is h = subst IsWorld (sym is) (next-kept w (Deliver i q) (item_lawful w i q p item port answer) h)

-- what the item needs, the delivery needs
pub item_needs : (w : World) (i q : ℕ) (p : Place) (item : Item) (r : Router) → IsPort w i q p → front_of p.end (slice_get w.links p.link) ≡ Ok item → slice_get w.routers i ≡ Some r → ItemNeedsMemory item r → DeliveryNeedsMemory w i q
item_needs w i q p item r port answer there needs = (r, there, subst (λ o. TakingNeedsMemory o (notice_at w i q) r) (sym (front_at_is w i q p item port answer)) needs)

-- ---- a notice

-- the places of the router, and the number of the port behind them
home_is : (w : World) (i q : ℕ) → is_at_home w i q ≡ true → (ps : List Place) × (slice_get w.places i ≡ Some ps) × (q ≡ length ps)
home_is w i q home = by_places (slice_get w.places i) refl home
  where
    by_places : (o : Option (List Place)) → slice_get w.places i ≡ o → option_map_or (λ d. q == d) (option_map (λ (ps : List Place). length ps) o) false ≡ true → (ps : List Place) × (slice_get w.places i ≡ Some ps) × (q ≡ length ps)
    by_places None is away = absurd (true≢false (sym away))
    by_places (Some ps) is same = (ps, is, eqb-true q (length ps) same)

-- no link's end is at the port of the notices
no_place : (w : World) (i q : ℕ) → is_at_home w i q ≡ true → place_at w i q ≡ None
no_place w i q home =
    let H = home_is w i q home in
    ap (option_and_then (λ (ps : List Place). slice_get ps q)) H.1 ∙ by_place H.0 (slice_get H.0 q) refl H.2
  where
    by_place : (ps : List Place) (o : Option Place) → slice_get ps q ≡ o → q ≡ length ps → slice_get ps q ≡ None
    by_place ps None is at = is
    by_place ps (Some p) is at = (let within = slice_get_within ps q p is in absurd (omega (arith, within, at)))

no_front : (w : World) (i q : ℕ) → is_at_home w i q ≡ true → front_at w i q ≡ None
no_front w i q home = ap (λ o. option_and_then (λ (s : Side). slice_get s.inbox 0) (option_and_then (λ (p : Place). option_map (side p.end) (slice_get w.links p.link)) o)) (no_place w i q home)

-- a router whose port it is is there, and so are its attachments
pub router_within : (w : World) (i q : ℕ) → IsWorld w → is_at_home w i q ≡ true → i < length w.routers
router_within w i q h home =
    let H = home_is w i q home in
    let within = slice_get_within w.places i H.0 H.1 in
    let as_many = h.routers_placed in
    omega (arith, within, as_many)

pub attachments_within : (w : World) (i q : ℕ) → IsWorld w → is_at_home w i q ≡ true → i < length w.attachments
attachments_within w i q h home =
    let within = router_within w i q h home in
    let as_many = h.attachments_placed in
    omega (arith, within, as_many)

-- the notice that it takes
pub notice_is : (w : World) (i q : ℕ) (a : Attachments) → is_at_home w i q ≡ true → slice_get w.attachments i ≡ Some a → notice_at w i q ≡ slice_get a.notices 0
notice_is w i q a home there =
    ap (λ b. if b then option_and_then (λ (x : Attachments). slice_get x.notices 0) (slice_get w.attachments i) else None) home
    ∙ ap (option_and_then (λ (x : Attachments). slice_get x.notices 0)) there

-- there it is refused where no notice waits, and for no other cause
pub notice_refusal : (w : World) (i q : ℕ) (r : Router) → slice_get w.routers i ≡ Some r → is_at_home w i q ≡ true → refusal w (Deliver i q) ≡ first_cause ((is_none (notice_at w i q), Refusal.NothingToDeliver) ∷ [])
notice_refusal w i q r there home =
    ap (λ b. first_cause ((b, Refusal.UnknownRouter) ∷ (is_none (link_at w i q) && not (is_at_home w i q), Refusal.UnknownLink) ∷ (is_none (front_at w i q) && is_none (notice_at w i q), Refusal.NothingToDeliver) ∷ []))
    (ap is_none there)
    ∙ ap (λ b. first_cause ((b, Refusal.UnknownLink) ∷ (is_none (front_at w i q) && is_none (notice_at w i q), Refusal.NothingToDeliver) ∷ [])) (ap (λ b. is_none (link_at w i q) && not b) home ∙ and-false (is_none (link_at w i q)))
    ∙ ap (λ o. first_cause ((is_none o && is_none (notice_at w i q), Refusal.NothingToDeliver) ∷ [])) (no_front w i q home)

-- none waits
pub no_notice : (w : World) (i q : ℕ) → IsWorld w → is_at_home w i q ≡ true → notice_at w i q ≡ None → refusal w (Deliver i q) ≡ Some Refusal.NothingToDeliver
no_notice w i q h home none =
    let r : _ = element_there w.routers i (router_within w i q h home) in
    notice_refusal w i q r.0 r.1 home ∙ ap (λ o. first_cause ((is_none o, Refusal.NothingToDeliver) ∷ [])) none

-- router i took this notice
pub noticed : (w : World) (i q : ℕ) (x : Notice) (attachments : List Attachments) (routers : List Router) → is_at_home w i q ≡ true → notice_at w i q ≡ Some x
    → attachments ≡ changed_at i with_notice_taken w.attachments → routers ≡ changed_at i (router_at_home x) w.routers → record w { attachments = attachments; routers = routers } ≡ next w (Deliver i q)
noticed w i q x attachments routers home waits attachments_are routers_are =
    ap (λ as_then. record w { attachments = as_then; routers = routers }) attachments_are
    ∙ ap (λ rs. record w { attachments = changed_at i with_notice_taken w.attachments; routers = rs }) routers_are
    ∙ sym (ap (λ o. option_map_or (with_delivered i q w) o (option_map_or (with_noticed i w) (notice_at w i q) w)) (no_front w i q home)
    ∙ ap (λ o. option_map_or (with_noticed i w) o w) waits)

-- what the notice needs, the delivery needs
pub notice_needs : (w : World) (i q : ℕ) (x : Notice) (r : Router) → is_at_home w i q ≡ true → notice_at w i q ≡ Some x → slice_get w.routers i ≡ Some r → MeetingNeedsMemory x.prefix r → DeliveryNeedsMemory w i q
notice_needs w i q x r home waits there needs =
    (r, there, subst (λ o. TakingNeedsMemory o (notice_at w i q) r) (sym (no_front w i q home)) (subst (λ o. TakingNeedsMemory None o r) (sym waits) needs))

-- to take it is lawful
pub notice_lawful : (w : World) (i q : ℕ) (x : Notice) → IsWorld w → is_at_home w i q ≡ true → notice_at w i q ≡ Some x → Lawful w (Deliver i q)
notice_lawful w i q x h home waits =
    let r : _ = element_there w.routers i (router_within w i q h home) in
    (r.0, r.1, inr (x, waits))

pub noticed-keeps : (w : World) (i q : ℕ) (x : Notice) (v : World) → is_at_home w i q ≡ true → notice_at w i q ≡ Some x → v ≡ next w (Deliver i q) → IsWorld w → IsWorld v
noticed-keeps w i q x v home waits is h = subst IsWorld (sym is) (next-kept w (Deliver i q) (notice_lawful w i q x h home waits) h)

-- ---- attachments

-- a router and a prefix that are there
known_there : (w : World) (i : ℕ) (p : Prefix) → prefix_refusal w i p ≡ None → ((r : Router) × (slice_get w.routers i ≡ Some r)) × (is_known w p ≡ true)
known_there w i p none = by_tests (slice_get w.routers i) refl (is_known w p) refl none
  where
    by_tests : (o : Option Router) → slice_get w.routers i ≡ o → (b : Bool) → is_known w p ≡ b → first_cause ((is_none o, Refusal.UnknownRouter) ∷ (not b, Refusal.UnknownPrefix) ∷ []) ≡ None
        → ((r : Router) × (slice_get w.routers i ≡ Some r)) × (is_known w p ≡ true)
    by_tests (Some r) there true known e = ((r, there), known)
    by_tests _ there _ known e = absurd (None_not_Some (sym e))

-- the router has its attachments
pub known_within : (w : World) (i : ℕ) (p : Prefix) → IsWorld w → prefix_refusal w i p ≡ None → i < length w.attachments
known_within w i p h none =
    let K = (known_there w i p none).0 in
    let within = slice_get_within w.routers i K.0 K.1 in
    let as_many = h.attachments_placed in
    omega (arith, within, as_many)

-- a router that has an attachment may lose it
pub detach_lawful : (w : World) (i : ℕ) (p : Prefix) (a : Attachments) → prefix_refusal w i p ≡ None → slice_get w.attachments i ≡ Some a → is_none (row_of prefix_cmp p a.costs) ≡ false → Lawful w (Detach i p)
detach_lawful w i p a none there attached =
    let K = known_there w i p none in
    let C = some_there (row_of prefix_cmp p a.costs) attached in
    ((K.0).0, C.0, (K.0).1, K.1, ap (option_and_then (λ (x : Attachments). row_of prefix_cmp p x.costs)) there ∙ C.1)
  where
    some_there : (o : Option ℕ) → is_none o ≡ false → (c : ℕ) × (o ≡ Some c)
    some_there None e = absurd (true≢false e)
    some_there (Some c) e = (c, refl)

pub not_attached : (w : World) (i : ℕ) (p : Prefix) (a : Attachments) → prefix_refusal w i p ≡ None → slice_get w.attachments i ≡ Some a → is_none (row_of prefix_cmp p a.costs) ≡ true → refusal w (Detach i p) ≡ Some Refusal.NotAttached
not_attached w i p a none there unattached =
    let K = known_there w i p none in
    ap (λ o. first_cause ((is_none o, Refusal.UnknownRouter) ∷ (not (is_known w p), Refusal.UnknownPrefix) ∷ (is_none (attachment_at w i p), Refusal.NotAttached) ∷ [])) (K.0).1
    ∙ ap (λ b. first_cause ((not b, Refusal.UnknownPrefix) ∷ (is_none (attachment_at w i p), Refusal.NotAttached) ∷ [])) K.1
    ∙ ap (λ o. first_cause ((is_none (option_and_then (λ (x : Attachments). row_of prefix_cmp p x.costs) o), Refusal.NotAttached) ∷ [])) there
    ∙ ap (λ b. first_cause ((b, Refusal.NotAttached) ∷ [])) unattached

-- a call with no cause to be refused that was done
pub not_caused : {X : Type 0} (cause : Option Refusal) (x : X) → cause ≡ None → IsDoneOr cause (Ok x)
not_caused cause x none = subst (λ c. IsDoneOr c (Ok x)) (sym none) tt

-- one that found no memory
pub memory_lacked : {X : Type 0} (cause : Option Refusal) (r : Result X Refusal) → cause ≡ None → IsErrAnd r (λ e. e ≡ Refusal.NoMemory) → IsDoneOr cause r
memory_lacked {X} cause r none failed = subst (λ c. IsDoneOr c r) (sym none) (by_result r failed)
  where
    by_result : (r : Result X Refusal) → IsErrAnd r (λ e. e ≡ Refusal.NoMemory) → IsDoneOr None r
    by_result (Ok x) none = absurd none
    by_result (Err e) full = full

-- a lawful step is done, unless memory runs out
pub is_done : (w : World) (s : Step) → Lawful w s → IsDoneOr (refusal w s) (Ok (tt {0}))
is_done w s lawful = not_caused (refusal w s) (tt {0}) (Lawful_to_refusal w s lawful)

pub found_no_memory : (w : World) (s : Step) (r : Result (Unit {0}) Refusal) → Lawful w s → IsErrAnd r (λ e. e ≡ Refusal.NoMemory) → IsDoneOr (refusal w s) r
found_no_memory w s r lawful = memory_lacked (refusal w s) r (Lawful_to_refusal w s lawful)

-- an element that is written back as it was read changes nothing
pub written_back : {A : Type 0} (xs : List A) (i : ℕ) {x y : A} → x ≡ get_or xs i x → y ≡ x → set xs i y ≡ xs
written_back xs i {x = x} read same = ap (set xs i) (same ∙ read) ∙ set-get_or xs i x

-- a number of a router is a place in a list of all
pub in_bounds : {i k n m : ℕ} → i ≡ k → k < n → m ≡ n → i < m
in_bounds is below length = omega arith

-- ---- a publication

pub published-keeps : (w : World) (i : ℕ) (r : Router) (v : World) → slice_get w.routers i ≡ Some r → is_due r ≡ true → v ≡ next w (Publish i) → IsWorld w → IsWorld v
published-keeps w i r v there due is h = subst IsWorld (sym is) (next-kept w (Publish i) (r, there, due) h)

-- ---- a release

-- the oldest ripe message of a router goes on the link of its port
pub put_on_link : (w : World) (i : ℕ) (m : Held) (p : Place) (links : List Link) (routers : List Router) → release_at w i ≡ Some m → place_at w i m.port ≡ Some p
    → links ≡ changed_at p.link (with_message (sent_in m.session m.message) p.end) w.links → routers ≡ changed_at i router_releasing w.routers → record w { links = links; routers = routers } ≡ next w (Release i)
put_on_link w i m p links routers front at links_are routers_are =
    ap (λ ks. record w { links = ks; routers = routers }) links_are
    ∙ ap (λ rs. record w { links = changed_at p.link (with_message m p.end) w.links; routers = rs }) routers_are
    ∙ sym (ap (λ o. option_map_or (with_released i w) o w) front
    ∙ ap (λ o. changed_router i router_releasing (option_map_or (λ (x : Place). record w { links = changed_at x.link (with_message m x.end) w.links }) o w)) at)

-- a message for a port that is not there is lost
pub put_nowhere : (w : World) (i : ℕ) (m : Held) (routers : List Router) → release_at w i ≡ Some m → place_at w i m.port ≡ None
    → routers ≡ changed_at i router_releasing w.routers → record w { routers = routers } ≡ next w (Release i)
put_nowhere w i m routers front at routers_are =
    ap (λ rs. record w { routers = rs }) routers_are
    ∙ sym (ap (λ o. option_map_or (with_released i w) o w) front
    ∙ ap (λ o. changed_router i router_releasing (option_map_or (λ (x : Place). record w { links = changed_at x.link (with_message m x.end) w.links }) o w)) at)

-- a message that its link refuses found no memory, and is not stale
pub put_refused : (w : World) (i : ℕ) (m : Held) (p : Place) (e : LinkRefusal) → IsWorld w → place_at w i m.port ≡ Some p → AnswersPut m.session (slice_get w.links p.link) (Err e) → (e ≡ LinkRefusal.NoMemory) × (is_stale w i m ≡ false)
put_refused w i m p e h at answer =
    let k : _ = element_there w.links p.link (h.links_known i m.port p at) in
    by_test k.0 k.1 (is_up_in m.session k.0) refl (subst (λ o. AnswersPut m.session o (Err e)) k.1 answer)
  where
    by_test : (k : Link) → slice_get w.links p.link ≡ Some k → (b : Bool) → is_up_in m.session k ≡ b → MatchBool b (e ≡ LinkRefusal.NoMemory) (◌≡◌ {A = Result Put LinkRefusal} (Err e) (Ok Put.Stale)) → (e ≡ LinkRefusal.NoMemory) × (is_stale w i m ≡ false)
    by_test k there true live full = (full, ap (λ o. not (option_map_or (is_up_in m.session) o false)) (link_of w i m.port p at ∙ there) ∙ ap not live)
    by_test k there false over done = absurd (true≢false (sym (ap is_ok done)))

pub released-keeps : (w : World) (i : ℕ) (m : Held) (v : World) → release_at w i ≡ Some m → v ≡ next w (Release i) → IsWorld w → IsWorld v
released-keeps w i m v front is h = subst IsWorld (sym is) (next-kept w (Release i) (m, front) h)

pub on_ok : {T E P : Type 0} (r : Result T E) {x : T} → r ≡ Ok x → OnOk r P → P
on_ok (Ok x) is holds = holds
on_ok (Err e) is holds = absurd (true≢false (sym (ap is_ok is)))

pub on_some : {A P : Type 0} (o : Option A) {x : A} → o ≡ Some x → OnSome o P → P
on_some None is holds = absurd (None_not_Some is)
on_some (Some x) is holds = holds
