-- One machine at work: two ports that are up at cost 1, and what each event gives.
use Rattle.std.proofs.Common.{refl, ◌≡◌, ℕ, Bool, true, false, List, [], ◌∷◌, Option, Some, None, map, option_and_then}
use Rattle.std.specs.Option.{option_map_or}
use Rattle.metric.specs.{Distance.infinity, declared.kind.Kind.Kind, declared.kind.Kind.TheVariants.Update, declared.kind.Kind.TheVariants.Query, declared.kind.Kind.TheVariants.Reply}
use Rattle.network_model.specs.{declared.machine.Event.Event, declared.machine.Neighbour.Neighbour, declared.network.Offer.TheVariants.Equal, declared.network.Offer.TheVariants.Feasible, NextHops.offered_ports}
use Rattle.network_model.specs.declared.machine.Event.TheVariants.{Message, Up, Down, Cost, Attached, Detached}
use Rattle.network_model.specs.Machine.{Machine, Reaction, reaction, opening_machine, machine_after}

-- what is seen of a machine after an event: its distances, its successor, whom it awaits, to whom it owes a reply, and what it sent
record Line : Type 0 where
  rd : ℕ
  fd : ℕ
  successor : Option ℕ
  awaited : List Bool
  debt : Option ℕ
  sends : List (Kind × ℕ × ℕ)

line : Reaction → Line
line r = record {
  rd = (r.machine).rd;
  fd = (r.machine).fd;
  successor = (r.machine).successor;
  awaited = option_map_or (λ c. c.awaited) (r.machine).computation [];
  debt = option_and_then (λ c. c.debt) (r.machine).computation;
  sends = map (λ s. (s.kind, s.value, s.port)) r.sends;
}

lines : Machine → List Event → List Line
lines m [] = []
lines m (e ∷ es) = line (reaction m e) ∷ lines (reaction m e).machine es

passive : ℕ → ℕ → ℕ → List (Kind × ℕ × ℕ) → Line
passive rd fd q sends = record { rd = rd; fd = fd; successor = Some q; awaited = []; debt = None; sends = sends }

active : ℕ → ℕ → List Bool → Option ℕ → List (Kind × ℕ × ℕ) → Line
active rd fd awaited debt sends = record { rd = rd; fd = fd; successor = Some 0; awaited = awaited; debt = debt; sends = sends }

fresh : Machine
fresh = opening_machine None (record { up = true; cost = 1; reported = infinity } ∷ record { up = true; cost = 1; reported = infinity } ∷ [])

-- a cost that rises, and rises again while the machine asks
dearer : lines fresh (Message 0 Update 0 ∷ Message 1 Update 2 ∷ Cost 0 10 ∷ Message 0 Reply 0 ∷ Cost 0 20 ∷ Message 1 Reply 11 ∷ Message 0 Reply 0 ∷ Message 1 Reply 12 ∷ [])
    ≡ passive 1 1 0 ((Update, 1, 0) ∷ (Update, 1, 1) ∷ [])
    ∷ passive 1 1 0 []
    ∷ active 10 1 (true ∷ true ∷ []) None ((Query, 10, 0) ∷ (Query, 10, 1) ∷ [])
    ∷ active 10 1 (false ∷ true ∷ []) None []
    ∷ active 10 1 (false ∷ true ∷ []) None []
    ∷ active 20 10 (true ∷ true ∷ []) None ((Query, 20, 0) ∷ (Query, 20, 1) ∷ [])
    ∷ active 20 10 (false ∷ true ∷ []) None []
    ∷ passive 13 13 1 ((Update, 13, 0) ∷ (Update, 13, 1) ∷ [])
    ∷ []
unfolding lines line passive active fresh
dearer = refl

-- queries from the successor, and one from the other neighbour
asked : lines fresh (Message 0 Update 0 ∷ Message 0 Query 5 ∷ Message 0 Query 7 ∷ Message 0 Reply 7 ∷ Message 1 Query 3 ∷ Message 1 Reply 4 ∷ [])
    ≡ passive 1 1 0 ((Update, 1, 0) ∷ (Update, 1, 1) ∷ [])
    ∷ active 6 1 (true ∷ true ∷ []) (Some 0) ((Query, 6, 0) ∷ (Query, 6, 1) ∷ [])
    ∷ active 6 1 (true ∷ true ∷ []) (Some 0) []
    ∷ active 6 1 (false ∷ true ∷ []) (Some 0) []
    ∷ active 6 1 (false ∷ true ∷ []) (Some 0) ((Reply, 6, 1) ∷ [])
    ∷ passive 5 5 1 ((Reply, 5, 0) ∷ (Update, 5, 1) ∷ [])
    ∷ []
unfolding lines line passive active fresh
asked = refl

-- the same, where the last reply is too far
asked_again : lines fresh (Message 0 Update 0 ∷ Message 0 Query 5 ∷ Message 0 Query 7 ∷ Message 0 Reply 7 ∷ Message 1 Query 3 ∷ Message 1 Reply 20 ∷ [])
    ≡ passive 1 1 0 ((Update, 1, 0) ∷ (Update, 1, 1) ∷ [])
    ∷ active 6 1 (true ∷ true ∷ []) (Some 0) ((Query, 6, 0) ∷ (Query, 6, 1) ∷ [])
    ∷ active 6 1 (true ∷ true ∷ []) (Some 0) []
    ∷ active 6 1 (false ∷ true ∷ []) (Some 0) []
    ∷ active 6 1 (false ∷ true ∷ []) (Some 0) ((Reply, 6, 1) ∷ [])
    ∷ active 8 6 (true ∷ true ∷ []) (Some 0) ((Query, 8, 0) ∷ (Query, 8, 1) ∷ [])
    ∷ []
unfolding lines line passive active fresh
asked_again = refl

-- a neighbour that reported the feasible distance itself may not be taken; and where the least distance is above that of a
-- computation which is over, the feasible distance is that of the computation
farther : lines fresh (Message 0 Update 0 ∷ Message 1 Update 1 ∷ Cost 0 10 ∷ Cost 0 20 ∷ Cost 1 5 ∷ Message 0 Reply 0 ∷ Message 1 Reply 8 ∷ [])
    ≡ passive 1 1 0 ((Update, 1, 0) ∷ (Update, 1, 1) ∷ [])
    ∷ passive 1 1 0 []
    ∷ active 10 1 (true ∷ true ∷ []) None ((Query, 10, 0) ∷ (Query, 10, 1) ∷ [])
    ∷ active 10 1 (true ∷ true ∷ []) None []
    ∷ active 10 1 (true ∷ true ∷ []) None []
    ∷ active 10 1 (false ∷ true ∷ []) None []
    ∷ passive 13 10 1 ((Update, 13, 0) ∷ (Update, 13, 1) ∷ [])
    ∷ []
unfolding lines line passive active fresh
farther = refl

-- what a neighbour reported before its link was lost is forgotten where the link comes back
reports : Machine → List ℕ
reports m = map (λ n. n.reported) m.ports

forgotten : reports (machine_after fresh (Message 0 Update 0 ∷ Message 1 Update 2 ∷ Down 1 ∷ Up 1 1 ∷ [])) ≡ 0 ∷ infinity ∷ []
unfolding reports fresh
forgotten = refl

-- of two ways at the least distance the present successor is kept, though the other port is lower
tied : lines fresh (Message 1 Update 0 ∷ Message 0 Update 0 ∷ [])
    ≡ passive 1 1 1 ((Update, 1, 0) ∷ (Update, 1, 1) ∷ [])
    ∷ passive 1 1 1 []
    ∷ []
unfolding lines line passive fresh
tied = refl

-- a neighbour that comes up is told a distance, and no want of one
greeted : ((line (reaction (machine_after fresh (Message 0 Update 0 ∷ Down 1 ∷ [])) (Up 1 1))).sends ≡ (Update, 1, 1) ∷ [])
    × ((line (reaction (machine_after fresh (Down 1 ∷ [])) (Up 1 1))).sends ≡ [])
unfolding line fresh
greeted = (refl, refl)

-- ---- an attachment

-- attached at cost 5, with one port up at cost 1: a dearer attachment is kept while nothing nearer is known, and one that is
-- dearer than the neighbour's report allows is asked about; when it is lost, the neighbour's way is kept
attached_once : Machine
attached_once = opening_machine (Some 5) (record { up = true; cost = 1; reported = infinity } ∷ [])

dearer_at_home : lines attached_once (Message 0 Update 9 ∷ Attached 7 ∷ Attached 12 ∷ Message 0 Reply 9 ∷ Detached ∷ Message 0 Update 20 ∷ Attached 1 ∷ Message 0 Reply 20 ∷ [])
    ≡ passive 5 5 1 []
    ∷ passive 7 5 1 ((Update, 7, 0) ∷ [])
    ∷ record { rd = 12; fd = 5; successor = Some 1; awaited = true ∷ []; debt = None; sends = (Query, 12, 0) ∷ [] }
    ∷ passive 10 10 0 ((Update, 10, 0) ∷ [])
    ∷ passive 10 10 0 []
    ∷ active 21 10 (true ∷ []) None ((Query, 21, 0) ∷ [])
    ∷ active 21 10 (true ∷ []) None []
    ∷ passive 1 1 1 ((Update, 1, 0) ∷ [])
    ∷ []
unfolding lines line passive active attached_once
dearer_at_home = refl

-- a way by a neighbour that is nearer than the attachment, and the attachment again where that way is asked about
home_again : lines (opening_machine (Some 10) (record { up = true; cost = 1; reported = infinity } ∷ [])) (Message 0 Update 2 ∷ Message 0 Query 4294967295 ∷ [])
    ≡ passive 3 3 0 ((Update, 3, 0) ∷ [])
    ∷ passive 10 3 1 ((Reply, 10, 0) ∷ [])
    ∷ []
unfolding lines line passive
home_again = refl

-- an attachment that is lost while it is the successor: the neighbours are asked, and with none of them up the route is lost at once
home_lost : lines attached_once (Detached ∷ Message 0 Reply infinity ∷ [])
    ≡ record { rd = infinity; fd = 5; successor = None; awaited = true ∷ []; debt = None; sends = (Query, infinity, 0) ∷ [] }
    ∷ record { rd = infinity; fd = infinity; successor = None; awaited = []; debt = None; sends = [] }
    ∷ []
unfolding lines line attached_once
home_lost = refl

alone_and_lost : lines (opening_machine (Some 5) []) (Detached ∷ Attached 9 ∷ [])
    ≡ record { rd = infinity; fd = infinity; successor = None; awaited = []; debt = None; sends = [] }
    ∷ passive 9 9 0 []
    ∷ []
unfolding lines line passive
alone_and_lost = refl

-- of a port and the attachment at the same distance the present successor is kept
tied_at_home : lines (opening_machine (Some 5) (record { up = true; cost = 1; reported = infinity } ∷ [])) (Message 0 Update 4 ∷ [])
    ≡ passive 5 5 1 []
    ∷ []
unfolding lines line passive
tied_at_home = refl

-- a machine whose distance has risen above its feasible distance. Of three neighbours at the least distance it offers the one that reported less than the
-- feasible distance: neither the one that reported just that, nor the one that reported less than the distance alone
heard : ℕ → ℕ → Neighbour
heard cost reported = record { up = true; cost = cost; reported = reported }

risen : Machine
risen = record { attachment = None; ports = heard 3 1 ∷ heard 2 2 ∷ heard 1 3 ∷ []; rd = 4; fd = 2; successor = Some 0; computation = None }

risen_offers : (offered_ports (Equal 8) risen ≡ 0 ∷ []) × (offered_ports (Feasible 8) risen ≡ 0 ∷ [])
unfolding heard risen
risen_offers = (refl, refl)
