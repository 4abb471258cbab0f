-- The soonest of several events.
use Rattle.std.proofs.Common.{sym, ap, ◌∙◌, add-one, ◌≡◌, ℕ, ◌+◌, Option, Some}
use Rattle.no_packet_loops.proofs.Common.{option_map_or, degree_of}
use Rattle.timed_simulation.specs.{declared.events.Event.Event, Timed.Timed, Timed.world_of}
use Rattle.timed_simulation.specs.Events.{arrival_event, home_event, publication_event, sooner, soonest, waiting_event}

pub soonest_more : (f : ℕ → Option Event) (n : ℕ) (a b r : Option Event) → a ≡ soonest f n → b ≡ f n → r ≡ sooner a b → r ≡ soonest f (n + 1)
soonest_more f n a b r before here is = is ∙ ap (λ x. sooner x b) before ∙ ap (sooner (soonest f n)) here ∙ sym (ap (soonest f) (add-one n))

-- what a router waits for, by the parts of it
pub waiting_is : (t : Timed) (i d port : ℕ) (first publication taken home r : Option Event) → degree_of (world_of t) i ≡ Some d → port ≡ d → first ≡ soonest (arrival_event t i) port → publication ≡ publication_event t i → taken ≡ sooner publication first → home ≡ home_event t i → r ≡ sooner taken home → r ≡ waiting_event t i
waiting_is t i d port first publication taken home r degree at arrivals publishes both notice is =
    is ∙ ap (λ x. sooner x home) (both ∙ ap (λ x. sooner x first) publishes ∙ ap (sooner (publication_event t i)) (arrivals ∙ ap (soonest (arrival_event t i)) (at ∙ sym (ap (λ (o : Option ℕ). option_map_or (λ d. d) o 0) degree))))
    ∙ ap (sooner (sooner (publication_event t i) (soonest (arrival_event t i) (option_map_or (λ d. d) (degree_of (world_of t) i) 0)))) notice
