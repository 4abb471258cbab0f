-- What a router is to do next is lawful.
use Rattle.std.proofs.Common.{refl, sym, subst, ◌∙◌, arith, inl, inr, ◌≡◌, ◌⊎◌, ◌+◌, ◌^◌, ℕ, zero, suc, ◌<◌, max, Bool, true, false, nat_lt, if◌then◌else◌, true≢false, Option, Some, None, option_map, option_and_then, slice_get, length}
use Rattle.no_packet_loops.proofs.Common.{option_map_or, None_not_Some, Some_injective, element_there, Lawful, Lawful_to_refusal, Refusal, Router, World, Place, Item, refusal, is_due, front_at, notice_at, degree_of, place_at, release_at, Held, Notice, Deliver, Publish, Release}
use Rattle.simulation.specs.Simulation.{simulation_refusal}
use Rattle.timed_simulation.specs.{declared.events.Change.Change, declared.events.Event.Event, declared.fault.TimeFault.TimeFault, declared.fault.TimeFault.TheVariants.PastMoment, declared.fault.TimeFault.TheVariants.TimeSpent, declared.fault.TimeFault.TheVariants.Refused, Timed.Timed, Timed.world_of, Runs.IsSpent, Runs.IsStoppedFor}
use Rattle.timed_simulation.specs.Events.{arrival_event, arrival_moment, change_event, event_now, home_event, next_event, own_event, publication_event, publication_moment, router_event, sooner, soonest, waiting_event}

-- the event, if there is one, is a change that was given, or lawful
abbrev pub IsLawfulOwn : World → Option Event → Type 0
IsLawfulOwn w None = Unit {0}
IsLawfulOwn w (Some e) = e.given ≡ false → Lawful w e.step

of_two : (w : World) (a b : Option Event) → IsLawfulOwn w a → IsLawfulOwn w b → IsLawfulOwn w (sooner a b)
of_two w None b p q = q
of_two w (Some a) None p q = p
of_two w (Some a) (Some b) p q = by_order (nat_lt b.moment a.moment)
  where
    by_order : (t : Bool) → IsLawfulOwn w (if t then Some b else Some a)
    by_order true = q
    by_order false = p

of_many : (w : World) (f : ℕ → Option Event) (n : ℕ) → ((i : ℕ) → i < n → IsLawfulOwn w (f i)) → IsLawfulOwn w (soonest f n)
of_many w f zero each = tt
of_many w f (suc n) each = of_two w (soonest f n) (f n) (of_many w f n (λ i below. each i (omega (arith, below)))) (each n (omega arith))

module _ (t : Timed) where
  abbrev w : World
  w = world_of t

  change : IsLawfulOwn w (change_event t)
  change = by_change (slice_get t.changes 0)
    where
      by_change : (o : Option Change) → IsLawfulOwn w (option_map (λ c. record { moment = max t.clock c.moment; step = c.step; given = true }) o)
      by_change None = tt
      by_change (Some c) = λ own. absurd (true≢false own)

  module _ (i : ℕ) (r : Router) (there : slice_get w.routers i ≡ Some r) where
    publication : IsLawfulOwn w (publication_event t i)
    publication = subst (λ (o : Option Router). IsLawfulOwn w (option_and_then (λ (r : Router). if is_due r then Some (own_event t (publication_moment t i) (Publish i)) else None) o)) (sym there) (by_due (is_due r) refl)
      where
        by_due : (b : Bool) → is_due r ≡ b → IsLawfulOwn w (if b then Some (own_event t (publication_moment t i) (Publish i)) else None)
        by_due true due = λ own. (r, there, due)
        by_due false _ = tt

    arrival : (q : ℕ) → IsLawfulOwn w (arrival_event t i q)
    arrival q = by_place (place_at w i q)
      where
        by_item : (p : Place) (o : Option Item) → front_at w i q ≡ o → IsLawfulOwn w (option_map (λ item. own_event t (arrival_moment t p) (Deliver i q)) o)
        by_item p None _ = tt
        by_item p (Some item) front = λ own. (r, there, inl (item, front))

        by_place : (o : Option Place) → IsLawfulOwn w (option_and_then (λ p. option_map (λ item. own_event t (arrival_moment t p) (Deliver i q)) (front_at w i q)) o)
        by_place None = tt
        by_place (Some p) = by_item p (front_at w i q) refl

    home : IsLawfulOwn w (home_event t i)
    home = by_degree (degree_of w i)
      where
        by_notice : (d : ℕ) (o : Option Notice) → notice_at w i d ≡ o → IsLawfulOwn w (option_map (λ n. event_now t (Deliver i d)) o)
        by_notice d None _ = tt
        by_notice d (Some n) at = λ own. (r, there, inr (n, at))

        by_degree : (o : Option ℕ) → IsLawfulOwn w (option_and_then (λ d. option_map (λ n. event_now t (Deliver i d)) (notice_at w i d)) o)
        by_degree None = tt
        by_degree (Some d) = by_notice d (notice_at w i d) refl

    waiting : IsLawfulOwn w (waiting_event t i)
    waiting =
        of_two w (sooner (publication_event t i) (soonest (arrival_event t i) (option_map_or (λ d. d) (degree_of w i) 0))) (home_event t i)
        (of_two w (publication_event t i) (soonest (arrival_event t i) (option_map_or (λ d. d) (degree_of w i) 0)) publication
        (of_many w (arrival_event t i) (option_map_or (λ d. d) (degree_of w i) 0) (λ q _. arrival q)))
        home

    router : IsLawfulOwn w (router_event t i)
    router = by_release (release_at w i) refl
      where
        by_release : (o : Option Held) → release_at w i ≡ o → IsLawfulOwn w (option_map_or (λ e. Some e) (option_map (λ h. event_now t (Release i)) o) (waiting_event t i))
        by_release None _ = waiting
        by_release (Some h) at = λ own. (h, at)

  next : IsLawfulOwn w (next_event t)
  next = of_two w (change_event t) (soonest (router_event t) (length w.routers)) change (of_many w (router_event t) (length w.routers) (λ i below. (let R = element_there w.routers i below in router i R.0 R.1)))

-- what is done next is a change that was given, or lawful
pub own_lawful : (t : Timed) (e : Event) → next_event t ≡ Some e → e.given ≡ false → Lawful (world_of t) e.step
own_lawful t e is own = (subst (IsLawfulOwn (world_of t)) is (next t)) own

-- so it is not done only for want of memory, or where no further step or moment can be counted
pub own_spent : (t : Timed) (e : Event) (f : TimeFault) → next_event t ≡ Some e → IsStoppedFor t e f → e.given ≡ false → IsSpent f
own_spent t e PastMoment is stopped own = stopped
own_spent t e TimeSpent is stopped own = tt
own_spent t e (Refused x) is stopped own = by_cause stopped.1
  where
    by_room : (b : Bool) → (if b then refusal (world_of t) e.step else Some Refusal.JournalFull) ≡ Some x → (x ≡ Refusal.NoMemory) ⊎ (x ≡ Refusal.JournalFull)
    by_room true refused = absurd (None_not_Some (sym (Lawful_to_refusal (world_of t) e.step (own_lawful t e is own)) ∙ refused))
    by_room false full = inr (sym (Some_injective full))

    by_cause : (x ≡ Refusal.NoMemory) ⊎ (simulation_refusal t.simulation e.step ≡ Some x) → (x ≡ Refusal.NoMemory) ⊎ (x ≡ Refusal.JournalFull)
    by_cause (inl none) = inl none
    by_cause (inr refused) = by_room (nat_lt ((t.simulation).steps + 1) (2 ^ 64)) refused
