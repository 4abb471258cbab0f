-- A worked example: two routers and the link between them, of which the first is attached to all addresses.
use Rattle.std.proofs.Common.{refl, ◌≡◌, ℕ, true, false, List, [], ◌∷◌, Some, None}
use Rattle.no_packet_loops.proofs.Example.{pair}
use Rattle.network_model.specs.declared.step.Step.{Step}
use Rattle.network_model.specs.declared.step.Step.TheVariants.{LinkUp, LinkDown, Deliver, Publish, Release}
use Rattle.timed_simulation.specs.{declared.events.Event.Event, Events.next_event}
use Rattle.timed_simulation.specs.Timed.{Timed, after_event, opening_timed, with_timed_change}

-- an item takes 5 microseconds to router 0 and 7 to router 1, which publish 10 and 20 after they have something to publish; the link comes up at 3
abbrev start : Timed
start = with_timed_change (record { moment = 3; step = LinkUp 0 }) (opening_timed pair (record { to_a = 5; to_b = 7 } ∷ []) (10 ∷ 20 ∷ []))

abbrev own : ℕ → Step → Event
own moment step = record { moment = moment; step = step; given = false }

abbrev given : ℕ → Step → Event
given moment step = record { moment = moment; step = step; given = true }

-- these events are done, one after another, and then nothing is left to do
abbrev AreAll : Timed → List Event → Type 0
AreAll t [] = next_event t ≡ None
AreAll t (e ∷ es) = (next_event t ≡ Some e) × AreAll (after_event t e) es

-- both hear that the link is up; router 0 publishes and tells router 1, which publishes and tells router 0
to_rest : AreAll start (given 3 (LinkUp 0) ∷ own 8 (Deliver 0 0) ∷ own 10 (Deliver 1 0) ∷ own 18 (Publish 0) ∷ own 18 (Release 0) ∷ own 25 (Deliver 1 0) ∷ own 45 (Publish 1) ∷ own 45 (Release 1) ∷ own 50 (Deliver 0 0) ∷ [])
to_rest = (refl, (refl, (refl, (refl, (refl, (refl, (refl, (refl, (refl, refl)))))))))

-- where the link goes down at 20, the message that is on its way is lost, and router 1 hears of that 7 later and router 0 5 later
cut : AreAll (with_timed_change (record { moment = 20; step = LinkDown 0 }) start) (given 3 (LinkUp 0) ∷ own 8 (Deliver 0 0) ∷ own 10 (Deliver 1 0) ∷ own 18 (Publish 0) ∷ own 18 (Release 0) ∷ given 20 (LinkDown 0) ∷ own 25 (Deliver 0 0) ∷ own 27 (Deliver 1 0) ∷ [])
cut = (refl, (refl, (refl, (refl, (refl, (refl, (refl, (refl, refl))))))))
