-- A worked example: router 1 of two is cut off from when its link comes up until it has published its row.
use Rattle.std.proofs.Common.{refl, inl, inr, ℕ, true, false, List, [], ◌∷◌, Some}
use Rattle.no_packet_loops.proofs.Common.{opening, Step, LinkUp, Deliver, Publish, Release}
use Rattle.no_packet_loops.proofs.Example.{pair, w7}
use Rattle.reachability.specs.Ways.{IsCutOff}
use Rattle.reachability.proofs.Example.{cut, everything, not_yet, way7}
use Rattle.timed_simulation.specs.declared.events.Event.{Event}
use Rattle.timed_reports.specs.Spells.{IsSpell}

abbrev own : ℕ → Step → Event
own moment step = record { moment = moment; step = step; given = false }

-- the link comes up, both hear of that, and router 0 publishes and tells router 1, which publishes
abbrev events : List Event
events = record { moment = 3; step = LinkUp 0; given = true } ∷ own 8 (Deliver 0 0) ∷ own 10 (Deliver 1 0) ∷ own 18 (Publish 0) ∷ own 18 (Release 0) ∷ own 25 (Deliver 1 0) ∷ own 45 (Publish 1) ∷ []

cut_off : IsSpell (IsCutOff everything 1) 3 (Some 45) (opening pair) events
cut_off = inl (not_yet, refl, (cut _ refl refl refl refl refl refl refl refl, inr (cut _ refl refl refl refl refl refl refl refl, inr (cut _ refl refl refl refl refl refl refl refl, inr (cut _ refl refl refl refl refl refl refl refl, inr (cut _ refl refl refl refl refl refl refl refl, inr (cut _ refl refl refl refl refl refl refl refl, inl ((λ (off : IsCutOff everything 1 w7). off.no_way way7), refl))))))))
