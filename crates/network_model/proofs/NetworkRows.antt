-- Networks of two to four routers at work: worked examples, each with the steps that it takes shown to be lawful.
use Rattle.std.proofs.Common.{refl, ◌≡◌, ℕ, zero, suc, ◌+◌, ◌*◌, ◌^◌, Bool, true, false, if◌then◌else◌, List, [], ◌∷◌, ◌++◌, Option, Some, None, map, length, option_map, option_and_then, slice_get, is_some, is_none}
use Rattle.std.specs.{FinMap.find as row_of, Option.option_map_or}
use Rattle.metric.specs.{Distance.infinity, declared.kind.Kind.TheVariants.Update}
use Rattle.ipv4_prefix.specs.Prefix.{Prefix, prefix_cmp}
use Rattle.network_model.specs.{declared.route.Entry.Entry, declared.route.Entry.TheVariants.Local, declared.route.Entry.TheVariants.Via, declared.network.End.TheVariants.A, declared.network.End.TheVariants.B, declared.network.Limits.Limits, declared.network.LinkSpec.LinkSpec, declared.step.Step.Step, declared.step.Refusal.Refusal, declared.trace.Ending.Ending, declared.trace.Ending.TheVariants.Delivered, declared.trace.Ending.TheVariants.DeadLink, declared.trace.Ending.TheVariants.Crossed, Machine.Machine, Network.network_fault, Network.program_limits, Network.widest_limits, Run.History, Run.history, Run.run, Turns.settling_steps, Turns.is_settled, Journal.step_number, Journal.journal_sum, Journal.steps_in_sum, declared.route.NextHop.NextHop, declared.network.Offer.Offer, declared.network.Offer.TheVariants.One, declared.network.Offer.TheVariants.Equal, declared.network.Offer.TheVariants.Feasible, NextHops.hops_at}
use Rattle.network_model.specs.Step.{entry_of, refusal, next, is_due, changed_rows, changed_hops}
use Rattle.network_model.specs.declared.network.NetworkFault.TheVariants.{BadRouters, BadLink, TooManyLinks, BadOwner}
use Rattle.network_model.specs.declared.step.Step.TheVariants.{LinkUp, LinkDown, SetCost, Deliver, Publish, Release, Attach, Detach}
use Rattle.network_model.specs.declared.step.Refusal.TheVariants.{AlreadyUp, IsDown, NothingToDeliver, NothingDue, NothingRipe, UnknownRouter, UnknownLink, UnknownPrefix, NotAttached}
use Rattle.network_model.specs.World.{World, Network, Link, Router, opening, attachment_at}
use Rattle.network_model.specs.Forwarding.{Trace, trace, row_for, hop, is_quiet, walk_cost, IsWalkHome}
use Rattle.network_model.specs.View.{SeenItem, Reported, State, at_port, destination_view}

-- ---- scripts

-- a step, or a run until the network is settled
data Command : Type 0 where
  Do : (step : Step) → Command
  Settle : Command

-- the world after these steps, lawful or not
world_after : World → List Step → World
world_after w [] = w
world_after w (s ∷ ss) = world_after (next w s) ss

-- the steps that a script does; a run that settles has at most a hundred thousand turns
script_steps : World → List Command → List Step
script_steps w [] = []
script_steps w (Do s ∷ cs) = s ∷ script_steps (next w s) cs
script_steps w (Settle ∷ cs) = let ss = settling_steps 100000 0 w in ss ++ script_steps (world_after w ss) cs

steps_of : Network → List Command → List Step
steps_of n cs = script_steps (opening n) cs

-- why a step of the script is refused; none where each is lawful
refused_in : Network → List Command → Option Refusal
refused_in n cs = (run (opening n) (steps_of n cs)).refused

-- what the script makes of the network
played : Network → List Command → History
played n cs = history n (steps_of n cs)

world_of : Network → List Command → World
world_of n cs = (played n cs).world

-- ---- what is seen of a network

-- a machine: whether it is in a computation and owes a reply, its distances and its row
record Line : Type 0 where
  active : Bool
  debt : Option ℕ
  rd : ℕ
  fd : ℕ
  entry : Entry

line_of : Router → Machine → Line
line_of r m = record {
  active = is_some m.computation;
  debt = option_and_then (λ c. c.debt) m.computation;
  rd = m.rd;
  fd = m.fd;
  entry = entry_of r.ports m;
}

-- a passive machine
passive : ℕ → ℕ → Entry → Line
passive rd fd entry = record { active = false; debt = None; rd = rd; fd = fd; entry = entry }

-- a machine in a computation
active : Option ℕ → ℕ → ℕ → Entry → Line
active debt rd fd entry = record { active = true; debt = debt; rd = rd; fd = fd; entry = entry }

line : World → ℕ → Prefix → Option Line
line w i p = option_and_then (λ r. option_map (line_of r) (row_of prefix_cmp p r.machines)) (slice_get w.routers i)

trace_is : List ℕ → Ending → Trace
trace_is path end = record { path = path; end = Some end }

-- ---- the networks

-- 10.0.0.0/8, 10.1.0.0/16 and 0.0.0.0/0
ten : Prefix
ten = record { addr = 0x0a000000; len = 8 }

ten_one : Prefix
ten_one = record { addr = 0x0a010000; len = 16 }

everything : Prefix
everything = record { addr = 0; len = 0 }

-- 10.0.0.1
address : ℕ
address = 0x0a000001

link : ℕ → ℕ → ℕ → ℕ → LinkSpec
link a b from_a from_b = record { a = a; b = b; from_a = from_a; from_b = from_b }

network : ℕ → List LinkSpec → List (Prefix × ℕ × ℕ) → Network
network routers links attachments = record { routers = routers; links = links; attachments = attachments; offer = One }

-- ---- two routers

two : Network
two = network 2 (link 0 1 5 5 ∷ []) ((ten, 0, 1) ∷ [])

abbrev report_of_link : Link → Bool × ℕ × ℕ × ℕ × ℕ × ℕ
report_of_link k = (k.up, k.session, (k.a).cost, (k.b).cost, length (k.a).inbox, length (k.b).inbox)

abbrev report_of_router : Router → ℕ × ℕ × ℕ
report_of_router r = (r.generation, length (r.gate).held, (r.gate).ripe)

-- the first seven steps: b knows the way to a's prefix
first_seven : List Command
first_seven = Do (LinkUp 0) ∷ Do (Deliver 0 0) ∷ Do (Deliver 1 0) ∷ Do (Publish 0) ∷ Do (Release 0) ∷ Do (Deliver 1 0) ∷ Do (Publish 1) ∷ []

first_seven_seen : (refused_in two first_seven ≡ None)
    × (map report_of_link (world_of two first_seven).links ≡ (true, 1, 5, 5, 0, 0) ∷ [])
    × (map report_of_router (world_of two first_seven).routers ≡ (1, 0, 0) ∷ (1, 1, 1) ∷ [])
    × (row_for (world_of two first_seven) 1 address ≡ Some (ten, Via 0 1))
unfolding first_seven refused_in world_of played steps_of script_steps two network link ten address
first_seven_seen = (refl, refl, refl, refl)

two_settled : List Command
two_settled = Do (LinkUp 0) ∷ Settle ∷ []

two_seen : (steps_of two two_settled ≡ LinkUp 0 ∷ Deliver 0 0 ∷ Deliver 1 0 ∷ Publish 0 ∷ Release 0 ∷ Deliver 1 0 ∷ Publish 1 ∷ Release 1 ∷ Deliver 0 0 ∷ [])
    × (refused_in two two_settled ≡ None)
    × (map report_of_link (world_of two two_settled).links ≡ (true, 1, 5, 5, 0, 0) ∷ [])
    × (map report_of_router (world_of two two_settled).routers ≡ (1, 0, 0) ∷ (1, 0, 0) ∷ [])
    × (line (world_of two two_settled) 0 ten ≡ Some (passive 1 1 Local))
    × (line (world_of two two_settled) 1 ten ≡ Some (passive 6 6 (Via 0 1)))
    × (is_settled (world_of two two_settled) ≡ true)
    × (is_quiet (world_of two two_settled) ≡ true)
unfolding two_settled refused_in world_of played steps_of script_steps world_after two network link ten line line_of passive
two_seen = (refl, refl, refl, refl, refl, refl, refl, refl)

-- each step, one after another, where it is lawful; and why each is refused, none for a step done
tried : World → List Step → List (Option Refusal)
tried w [] = []
tried w (s ∷ ss) = refusal w s ∷ tried (if is_none (refusal w s) then next w s else w) ss

two_tried : tried (opening two) (LinkUp 0 ∷ Deliver 0 0 ∷ Deliver 0 0 ∷ Release 0 ∷ Publish 0 ∷ Publish 0 ∷ Release 0 ∷ Release 0 ∷ LinkUp 0 ∷ LinkDown 0 ∷ LinkDown 0 ∷ [])
    ≡ None ∷ None ∷ Some NothingToDeliver ∷ Some NothingRipe ∷ None ∷ Some NothingDue ∷ None ∷ Some NothingRipe ∷ Some AlreadyUp ∷ None ∷ Some IsDown ∷ []
unfolding tried two network link ten
two_tried = refl

-- at the opening nothing can be delivered, published or released, and what is not there is named first
two_refused : map (refusal (opening two)) (Publish 0 ∷ Deliver 0 0 ∷ Release 0 ∷ SetCost 0 0 9 ∷ Publish 2 ∷ Deliver 2 0 ∷ Deliver 0 1 ∷ Deliver 0 2 ∷ LinkUp 1 ∷ LinkDown 0 ∷ [])
    ≡ Some NothingDue ∷ Some NothingToDeliver ∷ Some NothingRipe ∷ Some IsDown ∷ Some UnknownRouter ∷ Some UnknownRouter ∷ Some NothingToDeliver ∷ Some UnknownLink ∷ Some UnknownLink ∷ Some IsDown ∷ []
unfolding two network link ten
two_refused = refl

-- a release over an ended session is done, and the message discarded
two_flapped : List Command
two_flapped = Do (LinkUp 0) ∷ Do (Deliver 0 0) ∷ Do (Publish 0) ∷ Do (LinkDown 0) ∷ Do (LinkUp 0) ∷ Do (Release 0) ∷ []

two_flapped_seen : (refused_in two two_flapped ≡ None)
    × (map report_of_link (world_of two two_flapped).links ≡ (true, 2, 5, 5, 2, 3) ∷ [])
    × (map report_of_router (world_of two two_flapped).routers ≡ (1, 0, 0) ∷ (0, 0, 0) ∷ [])
    × (length (steps_of two (two_flapped ++ Settle ∷ [])) ≡ 17)
    × (row_for (world_of two (two_flapped ++ Settle ∷ [])) 1 address ≡ Some (ten, Via 0 2))
unfolding two_flapped refused_in world_of played steps_of script_steps world_after two network link ten address
two_flapped_seen = (refl, refl, refl, refl, refl)

-- a message on its way is lost with its link, and the notices stay
two_lost : List Command
two_lost = Do (LinkUp 0) ∷ Do (Deliver 0 0) ∷ Do (Publish 0) ∷ Do (Release 0) ∷ Do (LinkDown 0) ∷ []

two_lost_seen : (refused_in two two_lost ≡ None) × (map report_of_link (world_of two two_lost).links ≡ (false, 1, 5, 5, 1, 2) ∷ [])
unfolding two_lost refused_in world_of played steps_of script_steps two network link ten
two_lost_seen = (refl, refl)

-- ---- a triangle

-- routers a, b and c; the link of a and c costs x each way
triangle : ℕ → Network
triangle x = network 3 (link 0 1 1 1 ∷ link 1 2 1 1 ∷ link 0 2 x x ∷ []) ((ten, 0, 1) ∷ [])

triangle_settled : List Command
triangle_settled = Do (LinkUp 0) ∷ Do (LinkUp 1) ∷ Do (LinkUp 2) ∷ Settle ∷ []

-- the link of a and b is lost
lost : List Command
lost = triangle_settled ++ Do (LinkDown 0) ∷ []

lost_noticed : List Command
lost_noticed = lost ++ Do (Deliver 1 0) ∷ []

lost_published : List Command
lost_published = lost_noticed ++ Do (Publish 1) ∷ []

lost_told : List Command
lost_told = lost_published ++ Do (Release 1) ∷ Do (Deliver 2 0) ∷ []

lost_turned : List Command
lost_turned = lost_told ++ Do (Publish 2) ∷ []

lost_settled : List Command
lost_settled = lost_turned ++ Settle ∷ []

lost_seen : (refused_in (triangle 5) lost_settled ≡ None)
    × (line (world_of (triangle 5) triangle_settled) 1 ten ≡ Some (passive 2 2 (Via 0 1)))
    × (line (world_of (triangle 5) triangle_settled) 2 ten ≡ Some (passive 3 3 (Via 0 1)))
    × (trace (world_of (triangle 5) lost) 2 address ≡ trace_is (2 ∷ 1 ∷ []) DeadLink)
    × (line (world_of (triangle 5) lost_noticed) 1 ten ≡ Some (active None infinity 2 Entry.Unreachable))
    × (trace (world_of (triangle 5) lost_published) 2 address ≡ trace_is (2 ∷ 1 ∷ []) Ending.Unreachable)
    × (trace (world_of (triangle 5) lost_told) 2 address ≡ trace_is (2 ∷ 1 ∷ []) Ending.Unreachable)
    × (trace (world_of (triangle 5) lost_turned) 2 address ≡ trace_is (2 ∷ 0 ∷ []) Delivered)
    × (trace (world_of (triangle 5) lost_settled) 1 address ≡ trace_is (1 ∷ 2 ∷ 0 ∷ []) Delivered)
    × (line (world_of (triangle 5) lost_settled) 1 ten ≡ Some (passive 7 7 (Via 1 1)))
    × (line (world_of (triangle 5) lost_settled) 2 ten ≡ Some (passive 6 3 (Via 1 1)))
unfolding lost lost_noticed lost_published lost_told lost_turned lost_settled triangle_settled triangle refused_in world_of played steps_of script_steps world_after network link ten address line line_of passive active trace_is
lost_seen = (refl, refl, refl, refl, refl, refl, refl, refl, refl, refl, refl)

-- a publication makes all that is held ripe
two_greeted : List Command
two_greeted = Do (LinkUp 0) ∷ Do (LinkUp 2) ∷ Do (Deliver 0 0) ∷ Do (Deliver 0 1) ∷ Do (Publish 0) ∷ []

two_greeted_seen : (refused_in (triangle 5) two_greeted ≡ None)
    × (map report_of_router (world_of (triangle 5) two_greeted).routers ≡ (1, 2, 2) ∷ (0, 0, 0) ∷ (0, 0, 0) ∷ [])
unfolding two_greeted triangle refused_in world_of played steps_of script_steps network link ten
two_greeted_seen = (refl, refl)

-- the cost from b to a rises, and rises again while b asks
dearer : List Command
dearer = triangle_settled ++ Do (SetCost 1 0 10) ∷ Do (Deliver 1 0) ∷ []

dearer_still : List Command
dearer_still = dearer ++ Do (SetCost 1 0 20) ∷ Do (Deliver 1 0) ∷ []

dearer_settled : List Command
dearer_settled = dearer_still ++ Settle ∷ []

dearer_seen : (refused_in (triangle 12) dearer_settled ≡ None)
    × (line (world_of (triangle 12) dearer) 1 ten ≡ Some (active None 11 2 (Via 0 1)))
    × (line (world_of (triangle 12) dearer_still) 1 ten ≡ Some (active None 11 2 (Via 0 1)))
    × (line (world_of (triangle 12) dearer_settled) 1 ten ≡ Some (passive 14 14 (Via 1 1)))
    × (line (world_of (triangle 12) dearer_settled) 2 ten ≡ Some (passive 13 12 (Via 1 1)))
unfolding dearer dearer_still dearer_settled triangle_settled triangle refused_in world_of played steps_of script_steps world_after network link ten line line_of passive active
dearer_seen = (refl, refl, refl, refl, refl)

-- the link of a and b comes back in another session
flapped : List Command
flapped = triangle_settled ++ Do (LinkDown 0) ∷ Do (LinkUp 0) ∷ []

flapped_seen : (refused_in (triangle 5) (flapped ++ Settle ∷ []) ≡ None)
    × (trace (world_of (triangle 5) flapped) 1 address ≡ trace_is (1 ∷ []) DeadLink)
    × (trace (world_of (triangle 5) (flapped ++ Settle ∷ [])) 1 address ≡ trace_is (1 ∷ 0 ∷ []) Delivered)
    × (line (world_of (triangle 5) (flapped ++ Settle ∷ [])) 1 ten ≡ Some (passive 2 2 (Via 0 2)))
unfolding flapped triangle_settled triangle refused_in world_of played steps_of script_steps world_after network link ten address line line_of passive trace_is
flapped_seen = (refl, refl, refl, refl)

-- three flaps of a link
flapping : List Command
flapping = triangle_settled ++ Do (LinkDown 0) ∷ Do (LinkUp 0) ∷ Do (LinkDown 0) ∷ Do (LinkUp 0) ∷ Do (LinkDown 0) ∷ Do (LinkUp 0) ∷ Settle ∷ []

flapping_seen : (refused_in (triangle 5) flapping ≡ None)
    × (line (world_of (triangle 5) flapping) 1 ten ≡ Some (passive 2 2 (Via 0 4)))
    × (line (world_of (triangle 5) flapping) 2 ten ≡ Some (passive 3 3 (Via 0 1)))
unfolding flapping triangle_settled triangle refused_in world_of played steps_of script_steps world_after network link ten line line_of passive
flapping_seen = (refl, refl, refl)

-- ---- lines of routers

-- three routers in a line, each link at cost 1; the last is attached to the default route
three : Network
three = network 3 (link 0 1 1 1 ∷ link 1 2 1 1 ∷ []) ((ten, 0, 1) ∷ (everything, 2, 1) ∷ [])

three_asked : List Command
three_asked = Do (LinkUp 0) ∷ Do (LinkUp 1) ∷ Settle ∷ Do (LinkDown 0) ∷ Do (Deliver 1 0) ∷ Do (Publish 1) ∷ Do (Release 1) ∷ Do (Deliver 2 0) ∷ []

three_settled : List Command
three_settled = three_asked ++ Settle ∷ []

three_seen : (refused_in three three_settled ≡ None)
    × (line (world_of three three_asked) 2 ten ≡ Some (active (Some 0) infinity 3 (Via 0 1)))
    × (row_for (world_of three three_settled) 1 address ≡ Some (ten, Entry.Unreachable))
    × (row_for (world_of three three_settled) 1 0x0b000001 ≡ Some (everything, Via 1 1))
    × (line (world_of three three_settled) 2 ten ≡ Some (passive infinity infinity Entry.Unreachable))
    × (line (world_of three three_settled) 0 everything ≡ Some (passive infinity infinity Entry.Unreachable))
unfolding three three_asked three_settled refused_in world_of played steps_of script_steps world_after network link ten everything address line line_of passive active
three_seen = (refl, refl, refl, refl, refl, refl)

four : Network
four = network 4 (link 0 1 1 1 ∷ link 1 2 1 1 ∷ link 2 3 1 1 ∷ []) ((ten, 0, 1) ∷ [])

four_asked : List Command
four_asked = Do (LinkUp 0) ∷ Do (LinkUp 1) ∷ Do (LinkUp 2) ∷ Settle ∷ Do (LinkDown 0) ∷ Do (Deliver 1 0) ∷ Do (Publish 1) ∷ Do (Release 1) ∷ Do (Deliver 2 0) ∷ []

-- the asker's link is lost, and with it the debt
four_cut : List Command
four_cut = four_asked ++ Do (LinkDown 1) ∷ Do (Deliver 2 0) ∷ []

four_seen : (refused_in four (four_cut ++ Settle ∷ []) ≡ None)
    × (line (world_of four four_asked) 2 ten ≡ Some (active (Some 0) infinity 3 (Via 0 1)))
    × (line (world_of four four_cut) 2 ten ≡ Some (active None infinity 3 Entry.Unreachable))
    × (line (world_of four (four_cut ++ Settle ∷ [])) 3 ten ≡ Some (passive infinity infinity Entry.Unreachable))
unfolding four four_asked four_cut refused_in world_of played steps_of script_steps world_after network link ten line line_of passive active
four_seen = (refl, refl, refl, refl)

-- a packet that another prefix matches on its way
crossing : Network
crossing = network 3 (link 0 1 1 1 ∷ link 1 2 1 1 ∷ []) ((ten, 0, 1) ∷ (ten_one, 1, 1) ∷ [])

crossed : List Command
crossed = Do (LinkUp 0) ∷ Settle ∷ Do (LinkUp 1) ∷ Do (Deliver 1 1) ∷ Do (Publish 1) ∷ Do (Release 1) ∷ Do (Deliver 2 0) ∷ Do (Deliver 2 0) ∷ Do (Publish 2) ∷ []

crossed_seen : (refused_in crossing crossed ≡ None) × (trace (world_of crossing crossed) 2 0x0a010001 ≡ trace_is (2 ∷ 1 ∷ []) Crossed)
unfolding crossing crossed refused_in world_of played steps_of script_steps world_after network link ten ten_one trace_is
crossed_seen = (refl, refl)

-- ---- least costs

uneven : Network
uneven = network 3 (link 0 1 1 10 ∷ link 1 2 2 1 ∷ link 0 2 9 3 ∷ []) ((ten, 0, 1) ∷ [])

uneven_dearer : List Command
uneven_dearer = triangle_settled ++ Do (SetCost 2 1 20) ∷ Settle ∷ []

uneven_seen : (refused_in uneven uneven_dearer ≡ None)
    × (line (world_of uneven triangle_settled) 1 ten ≡ Some (passive 6 6 (Via 1 1)))
    × (line (world_of uneven triangle_settled) 2 ten ≡ Some (passive 4 4 (Via 1 1)))
    × (trace (world_of uneven triangle_settled) 1 address ≡ trace_is (1 ∷ 2 ∷ 0 ∷ []) Delivered)
    × (line (world_of uneven uneven_dearer) 1 ten ≡ Some (passive 11 6 (Via 0 1)))
    × (line (world_of uneven uneven_dearer) 2 ten ≡ Some (passive 12 12 (Via 0 1)))
    × (trace (world_of uneven uneven_dearer) 2 address ≡ trace_is (2 ∷ 1 ∷ 0 ∷ []) Delivered)
unfolding uneven uneven_dearer triangle_settled refused_in world_of played steps_of script_steps world_after network link ten address line line_of passive trace_is
uneven_seen = (refl, refl, refl, refl, refl, refl, refl)

-- ---- attachments

-- three routers in a line, two of which are attached to the prefix: a at cost 1, c at cost 10
both_ends : Network
both_ends = network 3 (link 0 1 1 1 ∷ link 1 2 1 1 ∷ []) ((ten, 0, 1) ∷ (ten, 2, 10) ∷ [])

ends_settled : List Command
ends_settled = Do (LinkUp 0) ∷ Do (LinkUp 1) ∷ Settle ∷ []

ends_detached : List Command
ends_detached = ends_settled ++ Do (Detach 0 ten) ∷ Settle ∷ []

ends_attached : List Command
ends_attached = ends_detached ++ Do (Attach 0 ten 1) ∷ Settle ∷ []

-- the notices that each router has yet to take
notices_left : World → List ℕ
notices_left w = map (λ a. length a.notices) w.attachments

ends_seen : (refused_in both_ends ends_attached ≡ None)
    × (line (world_of both_ends ends_settled) 2 ten ≡ Some (passive 3 3 (Via 0 1)))
    × (line (world_of both_ends ends_detached) 0 ten ≡ Some (passive 12 12 (Via 0 1)))
    × (line (world_of both_ends ends_detached) 1 ten ≡ Some (passive 11 11 (Via 1 1)))
    × (line (world_of both_ends ends_detached) 2 ten ≡ Some (passive 10 3 Local))
    × (trace (world_of both_ends ends_detached) 0 address ≡ trace_is (0 ∷ 1 ∷ 2 ∷ []) Delivered)
    × (refusal (world_of both_ends ends_detached) (Detach 0 ten) ≡ Some NotAttached)
    × (line (world_of both_ends ends_attached) 0 ten ≡ Some (passive 1 1 Local))
    × (is_quiet (world_of both_ends ends_attached) ≡ true)
unfolding both_ends ends_settled ends_detached ends_attached refused_in world_of played steps_of script_steps world_after network link ten address line line_of passive trace_is
ends_seen = (refl, refl, refl, refl, refl, refl, refl, refl, refl)

-- once a is no longer attached, the walk from a to c costs 12, the cost of c's attachment included
ends_walk : IsWalkHome (world_of both_ends ends_detached) ten 0 (record { link = 0; end = A } ∷ record { link = 1; end = A } ∷ []) 2 12
unfolding both_ends ends_settled ends_detached world_of played steps_of script_steps world_after network link ten
ends_walk = record { walk = (_, refl, refl, refl, (_, refl, refl, refl, refl)); attachment = 10; attached = refl; cost_is = refl }

-- a notice is taken at the port numbered by the degree, and waits there until then: the machine is as it was, and the network neither settled nor quiet
told_home : List Command
told_home = ends_settled ++ Do (Attach 1 ten 1) ∷ Do (Attach 1 ten 7) ∷ []

told_home_seen : (refused_in both_ends (told_home ++ Do (Deliver 1 2) ∷ Do (Deliver 1 2) ∷ Settle ∷ []) ≡ None)
    × (notices_left (world_of both_ends told_home) ≡ 0 ∷ 2 ∷ 0 ∷ [])
    × (attachment_at (world_of both_ends told_home) 1 ten ≡ Some 7)
    × (line (world_of both_ends told_home) 1 ten ≡ Some (passive 2 2 (Via 0 1)))
    × (is_settled (world_of both_ends told_home) ≡ false)
    × (is_quiet (world_of both_ends told_home) ≡ false)
    × (line (world_of both_ends (told_home ++ Do (Deliver 1 2) ∷ [])) 1 ten ≡ Some (passive 1 1 Local))
    × (notices_left (world_of both_ends (told_home ++ Do (Deliver 1 2) ∷ [])) ≡ 0 ∷ 1 ∷ 0 ∷ [])
    × (line (world_of both_ends (told_home ++ Do (Deliver 1 2) ∷ Do (Deliver 1 2) ∷ Settle ∷ [])) 1 ten ≡ Some (passive 2 2 (Via 0 1)))
    × (line (world_of both_ends (told_home ++ Do (Deliver 1 2) ∷ Do (Deliver 1 2) ∷ Settle ∷ [])) 0 ten ≡ Some (passive 1 1 Local))
unfolding told_home notices_left both_ends ends_settled refused_in world_of played steps_of script_steps world_after network link ten line line_of passive
told_home_seen = (refl, refl, refl, refl, refl, refl, refl, refl, refl, refl)

-- a prefix that is none of the network's, an attachment that is not there, a port past that of the attachments, and an empty list of notices
home_refused : map (refusal (opening both_ends)) (Attach 3 ten 1 ∷ Attach 0 everything 1 ∷ Detach 3 ten ∷ Detach 0 everything ∷ Detach 1 ten ∷ Detach 2 ten ∷ Attach 1 ten 65535 ∷ Deliver 0 1 ∷ Deliver 1 2 ∷ Deliver 1 3 ∷ Deliver 3 0 ∷ [])
    ≡ Some UnknownRouter ∷ Some UnknownPrefix ∷ Some UnknownRouter ∷ Some UnknownPrefix ∷ Some NotAttached ∷ None ∷ None ∷ Some NothingToDeliver ∷ Some NothingToDeliver ∷ Some UnknownLink ∷ Some UnknownRouter ∷ []
unfolding both_ends network link ten everything
home_refused = refl

-- ---- what one prefix sees

-- after a's publication and release, b's port has the update to take, and b's published row is none
half_way : List Command
half_way = Do (LinkUp 0) ∷ Do (Deliver 0 0) ∷ Do (Deliver 1 0) ∷ Do (Publish 0) ∷ Do (Release 0) ∷ []

told_one : List SeenItem
told_one = Reported (record { kind = Update; value = 1 }) ∷ []

-- what a prefix sees then
half_way_view : Prefix → State
half_way_view p = destination_view two p (played two half_way)

half_way_seen : (refused_in two half_way ≡ None)
    × ((half_way_view ten).inbox (at_port 1 0) ≡ told_one)
    × ((half_way_view ten).ripe (at_port 0 0) ≡ [])
    × ((half_way_view ten).unripe (at_port 0 0) ≡ [])
    × ((half_way_view everything).inbox (at_port 1 0) ≡ [])
    × (((half_way_view ten).machine 1).fd ≡ infinity)
    × ((half_way_view ten).published_fd 0 ≡ 1)
    × ((half_way_view ten).up (at_port 0 0) ≡ true)
    × ((half_way_view ten).session (at_port 1 0) ≡ 1)
    × ((half_way_view ten).seen (at_port 1 0) ≡ 1)
    × ((half_way_view ten).cost (at_port 1 0) ≡ 5)
    × ((half_way_view ten).up (at_port 2 0) ≡ false)
unfolding half_way half_way_view told_one refused_in played steps_of script_steps two network link ten everything
half_way_seen = (refl, refl, refl, refl, refl, refl, refl, refl, refl, refl, refl, refl)

-- b published its row at distance 6; its machine has none once the link is lost
cut_off : List Command
cut_off = two_settled ++ Do (LinkDown 0) ∷ Do (Deliver 1 0) ∷ []

cut_off_seen : (refused_in two cut_off ≡ None)
    × ((destination_view two ten (played two cut_off)).published 1 ≡ Some (record { port = 0; session = 1 }))
    × ((destination_view two ten (played two cut_off)).published_fd 1 ≡ 6)
    × (((destination_view two ten (played two cut_off)).machine 1).fd ≡ infinity)
    × (hop (world_of two cut_off) address 1 ≡ None)
    × (hop (world_of two two_settled) address 1 ≡ Some 0)
unfolding cut_off two_settled refused_in world_of played steps_of script_steps world_after two network link ten address
cut_off_seen = (refl, refl, refl, refl, refl, refl)

-- ---- not quiet yet, and what walks cost

-- a message is held, and no more; a row waits to be published, and no more
cut_off_noticed : List Command
cut_off_noticed = cut_off ++ Do (Deliver 0 0) ∷ []

unquiet_seen : (is_quiet (world_of two first_seven) ≡ false)
    × (is_quiet (world_of two cut_off_noticed) ≡ false)
    × (is_quiet (world_of two (cut_off_noticed ++ Do (Publish 1) ∷ [])) ≡ true)
unfolding first_seven cut_off_noticed cut_off two_settled world_of played steps_of script_steps world_after two network link ten
unquiet_seen = (refl, refl, refl)

-- the walk from b by way of c to a, each link at the cost from the router that sends
uneven_walk : walk_cost (world_of uneven triangle_settled) (record { link = 1; end = A } ∷ record { link = 2; end = B } ∷ []) ≡ 5
unfolding uneven triangle_settled world_of played steps_of script_steps world_after network link ten
uneven_walk = refl

-- ---- numbers of steps

numbers : map step_number (LinkUp 3 ∷ SetCost 1 2 5 ∷ Release 7 ∷ Attach 1 ten_one 5 ∷ Detach 2 ten ∷ [])
    ≡ (2 ^ 104 + 3 * 2 ^ 64) ∷ (2 ^ 104 + 2 * 2 ^ 80 + 2 ^ 64 + 2 * 2 ^ 56 + 5 * 2 ^ 40) ∷ (2 ^ 104 + 5 * 2 ^ 80 + 7 * 2 ^ 64)
    ∷ (2 ^ 104 + 6 * 2 ^ 80 + 2 ^ 64 + 5 * 2 ^ 40 + 0x0a010000 * 2 ^ 8 + 16) ∷ (2 ^ 104 + 7 * 2 ^ 80 + 2 * 2 ^ 64 + 0x0a000000 * 2 ^ 8 + 8) ∷ []
unfolding ten ten_one
numbers = refl

sum_of_nine : steps_in_sum (journal_sum (steps_of two two_settled)) ≡ 9
unfolding two_settled steps_of script_steps world_after two network link ten
sum_of_nine = refl

-- ---- what is no network

faults : map (network_fault program_limits) (
    network 0 [] []
    ∷ network 257 [] []
    ∷ network 1 (link 0 0 1 1 ∷ []) []
    ∷ network 2 (link 0 1 5 5 ∷ link 1 0 1 1 ∷ []) []
    ∷ network 2 (link 0 2 1 1 ∷ []) []
    ∷ network 2 (link 0 1 1 1 ∷ []) ((ten, 0, 1) ∷ (ten, 0, 2) ∷ [])
    ∷ network 2 (link 0 1 1 1 ∷ []) ((ten, 0, 1) ∷ (ten, 1, 1) ∷ [])
    ∷ network 2 (link 0 1 1 1 ∷ []) ((ten, 2, 1) ∷ [])
    ∷ two ∷ [])
    ≡ Some BadRouters ∷ Some BadRouters ∷ Some (BadLink 0) ∷ Some (BadLink 1) ∷ Some (BadLink 0) ∷ Some (BadOwner 1) ∷ None ∷ Some (BadOwner 0) ∷ None ∷ []
unfolding network link ten two
faults = refl

-- a star: one router more than a router has ports for
star : ℕ → ℕ → List LinkSpec
star zero i = []
star (suc n) i = link 0 i 1 1 ∷ star n (i + 1)

star_faults : map (network_fault program_limits) (network 33 (star 32 1) [] ∷ network 34 (star 33 1) [] ∷ []) ≡ None ∷ Some (TooManyLinks 32) ∷ []
unfolding network link star
star_faults = refl

-- attachments: routers 0 to 255 to each of n prefixes
at_all : Prefix → ℕ → ℕ → List (Prefix × ℕ × ℕ)
at_all p zero i = []
at_all p (suc n) i = (p, i, 1) ∷ at_all p n (i + 1)

-- every router may be attached to one prefix, and no router twice
attachments_seen : map (network_fault program_limits) (network 20 [] (at_all ten 20 0) ∷ network 20 [] (at_all ten 20 0 ++ (ten, 7, 2) ∷ []) ∷ []) ≡ None ∷ Some (BadOwner 20) ∷ []
unfolding network ten at_all
attachments_seen = refl

-- small limits: a network may meet each, and one past it is a fault
small : Limits
small = record { routers = 4; links = 3; ports = 2; prefixes = 2; attachments = 3 }

small_faults : map (network_fault small) (
    network 4 (link 0 1 1 1 ∷ link 1 2 1 1 ∷ link 2 3 1 1 ∷ []) ((ten, 0, 1) ∷ (ten_one, 0, 1) ∷ (ten, 1, 1) ∷ [])
    ∷ network 5 [] []
    ∷ network 4 (link 0 1 1 1 ∷ link 1 2 1 1 ∷ link 2 3 1 1 ∷ link 3 0 1 1 ∷ []) []
    ∷ network 4 (link 0 1 1 1 ∷ link 0 2 1 1 ∷ link 0 3 1 1 ∷ []) []
    ∷ network 4 (link 1 0 1 1 ∷ link 2 0 1 1 ∷ link 3 0 1 1 ∷ []) []
    ∷ network 4 [] ((ten, 0, 1) ∷ (ten_one, 0, 1) ∷ (everything, 0, 1) ∷ [])
    ∷ network 4 [] ((ten, 0, 1) ∷ (ten, 1, 1) ∷ (ten, 2, 1) ∷ (ten, 3, 1) ∷ [])
    ∷ [])
    ≡ None ∷ Some BadRouters ∷ Some (TooManyLinks 3) ∷ Some (TooManyLinks 2) ∷ Some (TooManyLinks 2) ∷ Some (BadOwner 2) ∷ Some (BadOwner 3) ∷ []
unfolding small network link ten ten_one everything
small_faults = refl

widest_faults : map (network_fault widest_limits) (network 65536 [] [] ∷ network 65537 [] [] ∷ network 65536 (link 65534 65535 1 1 ∷ []) ((ten, 65535, 1) ∷ []) ∷ network 33 (star 32 1) [] ∷ network 34 (star 33 1) [] ∷ [])
    ≡ None ∷ Some BadRouters ∷ None ∷ None ∷ Some (TooManyLinks 32) ∷ []
unfolding network link star ten
widest_faults = refl

-- ---- a long line

long_links : ℕ → ℕ → List LinkSpec
long_links zero i = []
long_links (suc n) i = link i (i + 1) 65535 65535 ∷ long_links n (i + 1)

all_up : ℕ → ℕ → List Command
all_up zero i = Settle ∷ []
all_up (suc n) i = Do (LinkUp i) ∷ all_up n (i + 1)

-- twenty links in a line, each at the greatest cost
long : Network
long = network 21 (long_links 20 0) ((ten, 0, 1) ∷ [])

long_seen : (refused_in long (all_up 20 0) ≡ None) × (line (world_of long (all_up 20 0)) 20 ten ≡ Some (passive 1310701 1310701 (Via 0 1)))
unfolding long long_links all_up refused_in world_of played steps_of script_steps world_after network link ten line line_of passive
long_seen = (refl, refl)

-- ---- many next hops

-- a square: router 0 is joined to 1 and 2, which are joined to 3. Router 3 is attached to the prefix
square : Offer → Network
square offer = record { routers = 4; links = link 0 1 1 1 ∷ link 0 2 1 1 ∷ link 1 3 1 1 ∷ link 2 3 1 1 ∷ []; attachments = (ten, 3, 1) ∷ []; offer = offer }

-- a fan: router 0 is joined to 1, 2 and 3, each of which is joined to 4, from 1 at cost 3, from 2 at cost 2, from 3 at cost 3
fan : Offer → Network
fan offer = record { routers = 5; links = link 0 1 2 2 ∷ link 0 2 2 2 ∷ link 0 3 2 2 ∷ link 1 4 3 3 ∷ link 2 4 2 2 ∷ link 3 4 3 3 ∷ []; attachments = (ten, 4, 1) ∷ []; offer = offer }

square_up : List Command
square_up = Do (LinkUp 0) ∷ Do (LinkUp 1) ∷ Do (LinkUp 2) ∷ Do (LinkUp 3) ∷ Settle ∷ []

fan_up : List Command
fan_up = Do (LinkUp 0) ∷ Do (LinkUp 1) ∷ Do (LinkUp 2) ∷ Do (LinkUp 3) ∷ Do (LinkUp 4) ∷ Do (LinkUp 5) ∷ Settle ∷ []

-- what a router published for the prefix beside its row
hops_in_force : World → ℕ → List NextHop
hops_in_force w i = option_map_or (λ r. hops_at ten (r.hops).published) (slice_get w.routers i) []

hop_over : ℕ → NextHop
hop_over q = record { port = q; session = 1 }

-- where each row has one next hop, nothing is published beside it
square_one : (refused_in (square One) square_up ≡ None) × (is_quiet (world_of (square One) square_up) ≡ true)
    × (map (λ r. (r.hops).published) (world_of (square One) square_up).routers ≡ [] ∷ [] ∷ [] ∷ [] ∷ [])
unfolding square square_up refused_in world_of played steps_of script_steps world_after link ten
square_one = (refl, refl, refl)

-- of two equal neighbours both are in force, or the first where one is the most; a router at its attachment offers none
square_equal : (refused_in (square (Equal 8)) square_up ≡ None) × (is_quiet (world_of (square (Equal 8)) square_up) ≡ true)
    × (map (hops_in_force (world_of (square (Equal 8)) square_up)) (0 ∷ 1 ∷ 2 ∷ 3 ∷ []) ≡ (hop_over 0 ∷ hop_over 1 ∷ []) ∷ (hop_over 1 ∷ []) ∷ (hop_over 1 ∷ []) ∷ [] ∷ [])
    × (map (hops_in_force (world_of (square (Equal 1)) square_up)) (0 ∷ 1 ∷ []) ≡ (hop_over 0 ∷ []) ∷ (hop_over 1 ∷ []) ∷ [])
unfolding square square_up refused_in world_of played steps_of script_steps world_after hops_in_force hop_over link ten
square_equal = (refl, refl, refl, refl)

-- of three feasible neighbours the nearest is the first, and the others follow by port; two where two are the most
fan_feasible : (refused_in (fan (Feasible 8)) fan_up ≡ None) × (is_quiet (world_of (fan (Feasible 8)) fan_up) ≡ true)
    × (hops_in_force (world_of (fan (Feasible 8)) fan_up) 0 ≡ hop_over 1 ∷ hop_over 0 ∷ hop_over 2 ∷ [])
    × (hops_in_force (world_of (fan (Feasible 2)) fan_up) 0 ≡ hop_over 1 ∷ hop_over 0 ∷ [])
    × (hops_in_force (world_of (fan (Equal 8)) fan_up) 0 ≡ hop_over 1 ∷ [])
unfolding fan fan_up refused_in world_of played steps_of script_steps world_after hops_in_force hop_over link ten
fan_feasible = (refl, refl, refl, refl, refl)

-- what a router has to publish: whether it is due, how many rows, and which next hops
abbrev dues_of : Router → Bool × ℕ × List (Prefix × List NextHop)
dues_of r = (is_due r, length (changed_rows r.table), changed_hops r)

-- the link to an equal neighbour fails: the router has next hops to publish, and no row
square_lost : List Command
square_lost = square_up ++ Do (LinkDown 1) ∷ Do (Deliver 0 1) ∷ []

square_due : (refused_in (square (Equal 8)) square_lost ≡ None)
    × (option_map dues_of (slice_get (world_of (square (Equal 8)) square_lost).routers 0) ≡ Some (true, 0, (ten, hop_over 0 ∷ []) ∷ []))
    × (option_map dues_of (slice_get (world_of (square One) square_lost).routers 0) ≡ Some (false, 0, []))
unfolding square square_up square_lost refused_in world_of played steps_of script_steps world_after hop_over link ten
square_due = (refl, refl, refl)

-- the successor comes first of equal neighbours: one at a lower port that comes back does not take its place
square_back : List Command
square_back = square_up ++ Do (LinkDown 0) ∷ Settle ∷ Do (LinkUp 0) ∷ Settle ∷ []

square_keeps : (refused_in (square (Equal 8)) square_back ≡ None) × (line (world_of (square (Equal 8)) square_back) 0 ten ≡ Some (passive 3 3 (Via 1 1)))
    × (hops_in_force (world_of (square (Equal 8)) square_back) 0 ≡ hop_over 1 ∷ record { port = 0; session = 2 } ∷ [])
    × (hops_in_force (world_of (square (Equal 1)) square_back) 0 ≡ hop_over 1 ∷ [])
unfolding square square_up square_back refused_in world_of played steps_of script_steps world_after hops_in_force hop_over link ten line line_of passive
square_keeps = (refl, refl, refl, refl)

-- a triangle, of which two routers are level: neither offers the other, which reported its feasible distance
level_triangle : Network
level_triangle = record { routers = 3; links = link 0 1 1 1 ∷ link 0 2 1 1 ∷ link 1 2 1 1 ∷ []; attachments = (ten, 0, 1) ∷ []; offer = Feasible 8 }

triangle_level : (refused_in level_triangle (Do (LinkUp 0) ∷ Do (LinkUp 1) ∷ Do (LinkUp 2) ∷ Settle ∷ []) ≡ None)
    × (map (hops_in_force (world_of level_triangle (Do (LinkUp 0) ∷ Do (LinkUp 1) ∷ Do (LinkUp 2) ∷ Settle ∷ []))) (1 ∷ 2 ∷ []) ≡ (hop_over 0 ∷ []) ∷ (hop_over 0 ∷ []) ∷ [])
unfolding level_triangle refused_in world_of played steps_of script_steps world_after hops_in_force hop_over link ten
triangle_level = (refl, refl)
