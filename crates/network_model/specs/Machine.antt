-- The machine of one router for one prefix: what each event makes of it, and what it sends.
-- (DUAL, as in Garcia-Luna-Aceves, Loop-Free Routing Using Diffusing Computations, 1993, in this project's profile:
-- docs/model.md says where the two differ.)
-- What the paper leaves open: a port that goes down keeps what was reported there until it comes up, which sets it to
-- infinity. Whether the distance by way of the successor has risen is judged on the state after the event. That no
-- one is up to be asked is said of the links alone, because otherwise an attached router with no link up would begin
-- a computation that awaits no reply and never ends. In a sound machine that makes no difference, because with no
-- neighbour up an attachment may always be taken (`least_ways-none_up`).
use Rattle.std.specs.Prelude.{ℕ, zero, suc, min, Bool, true, false, not, ◌&&◌, nat_lt, ◌==◌, if◌then◌else◌, List, [], ◌∷◌, ◌++◌, Option, Some, None, map, slice_get, option_and_then, length}
use Rattle.std.specs.{List.list_any, List.position_from, Option.option_map_or}
use Rattle.metric.specs.{Distance.infinity, Distance.plus, declared.kind.Kind.Kind, declared.kind.Kind.TheVariants.Update, declared.kind.Kind.TheVariants.Query, declared.kind.Kind.TheVariants.Reply}
use Rattle.network_model.specs.{declared.machine.Event.Event, declared.machine.Neighbour.Neighbour, declared.machine.Outgoing.Outgoing}
use Rattle.network_model.specs.declared.machine.Event.TheVariants.{Message, Up, Down, Cost, Attached, Detached}

-- ---- the state

-- a diffusing computation under way: by port, whether the neighbour's reply is awaited; and the port to which a reply is owed, if one is
pub record Computation : Type 0 where
  pub awaited : List Bool
  pub debt : Option ℕ

-- the state of a machine: the cost of the router's own attachment to the prefix, if it has one, what it keeps of the
-- neighbour at each port, its reported distance, its feasible distance, its successor (a port, or the attachment), and the
-- computation under way. Without one it is passive. While a computation runs, the reported distance is the distance with
-- which it began
pub record Machine : Type 0 where
  pub attachment : Option ℕ
  pub ports : List Neighbour
  pub rd : ℕ
  pub fd : ℕ
  pub successor : Option ℕ
  pub computation : Option Computation

-- a machine that has heard nothing over these ports: at the cost of its attachment, by way of it, where there is one; else without a route
abbrev pub opening_machine : Option ℕ → List Neighbour → Machine
opening_machine attachment ns = record {
  attachment = attachment;
  ports = ns;
  rd = option_map_or (λ cost. cost) attachment infinity;
  fd = option_map_or (λ cost. cost) attachment infinity;
  successor = option_map_or (λ cost. Some (length ns)) attachment None;
  computation = None;
}

-- what an event did to a machine: the state after it, and what it sent, in order
pub record Reaction : Type 0 where
  pub machine : Machine
  pub sends : List Outgoing

-- ---- distances

-- an attachment, as a neighbour that is up and reported 0
abbrev pub at_home : ℕ → Neighbour
at_home cost = record { up = true; cost = cost; reported = 0 }

-- an attachment as a list of such neighbours, of one or of none
abbrev pub home_ways : Option ℕ → List Neighbour
home_ways attachment = option_map_or (λ cost. at_home cost ∷ []) attachment []

-- the ways out of a router, over which it decides: its ports, and after them its attachment, as one more port
abbrev pub ways : Machine → List Neighbour
ways m = m.ports ++ home_ways m.attachment

-- how many ports a router has: the number that its attachment has among the ways
abbrev pub port_count : Machine → ℕ
port_count m = length m.ports

-- the successor where it is a port of a link; none where it is the attachment
abbrev pub port_successor : Machine → Option ℕ
port_successor m = option_and_then (λ q. if q == port_count m then None else Some q) m.successor

-- the distance by way of a neighbour; infinity while its link is down, whatever it reported before
abbrev pub distance : Neighbour → ℕ
distance n = if n.up then plus n.reported n.cost else infinity

-- the least distance by way of any neighbour
abbrev pub least : List Neighbour → ℕ
least [] = infinity
least (n ∷ ns) = min (distance n) (least ns)

-- the distance by way of the successor; infinity without one
abbrev pub via_successor : List Neighbour → Option ℕ → ℕ
via_successor ns successor = option_map_or (λ n. distance n) (option_and_then (slice_get ns) successor) infinity

-- ---- the source node condition

-- of the neighbours at the least distance d, this one may be taken: it reported less than the feasible distance
abbrev pub is_feasible : ℕ → ℕ → Neighbour → Bool
is_feasible fd d n = n.up && (distance n == d) && nat_lt n.reported fd

-- some neighbour at the least distance may be taken; or there is no route, and none was feasible
abbrev pub condition_holds : ℕ → List Neighbour → Bool
condition_holds fd ns = if least ns == infinity then fd == infinity else list_any (is_feasible fd (least ns)) ns

-- the lowest port that may be taken
abbrev pub first_feasible : ℕ → List Neighbour → Option ℕ
first_feasible fd ns = position_from (is_feasible fd (least ns)) 0 ns

-- whether the neighbour at this port may be taken
abbrev pub is_feasible_at : ℕ → List Neighbour → ℕ → Bool
is_feasible_at fd ns q = option_map_or (is_feasible fd (least ns)) (slice_get ns q) false

-- the present successor where it may be taken, else the lowest port that may
abbrev pub kept_or_first : ℕ → List Neighbour → Option ℕ → Option ℕ
kept_or_first fd ns successor = option_map_or (λ q. if is_feasible_at fd ns q then Some q else first_feasible fd ns) successor (first_feasible fd ns)

-- the successor that a machine takes; none where there is no route
abbrev pub chosen_successor : ℕ → List Neighbour → Option ℕ → Option ℕ
chosen_successor fd ns successor = if least ns == infinity then None else kept_or_first fd ns successor

-- ---- what is sent

-- whether this is the port, if there is one
abbrev pub is_port : ℕ → Option ℕ → Bool
is_port q p = option_map_or (λ k. q == k) p false

-- one message, if there is a port to send it to
abbrev pub one_to : Option ℕ → Kind → ℕ → List Outgoing
one_to p kind value = option_map_or (λ q. record { port = q; kind = kind; value = value } ∷ []) p []

-- the same message to each neighbour that is up, by ascending port from q on, but not to the one left out
abbrev pub all_from : ℕ → Option ℕ → Kind → ℕ → List Neighbour → List Outgoing
all_from q but kind value [] = []
all_from q but kind value (n ∷ ns) =
    if n.up && not (is_port q but)
    then record { port = q; kind = kind; value = value } ∷ all_from (suc q) but kind value ns
    else all_from (suc q) but kind value ns

-- an update of a new distance to each neighbour that is up, but not to the one left out; nothing where the distance is the old one
abbrev pub news_to_others : Option ℕ → ℕ → ℕ → List Neighbour → List Outgoing
news_to_others but old new ns = if old == new then [] else all_from 0 but Update new ns

-- a reaction that sends this first
abbrev pub with_first : List Outgoing → Reaction → Reaction
with_first sends r = record { machine = r.machine; sends = sends ++ r.sends }

-- ---- the records after an event

-- the list with f of the element at place k
abbrev pub changed_at : {A : Type 0} → ℕ → (A → A) → List A → List A
changed_at k f [] = []
changed_at zero f (x ∷ xs) = f x ∷ xs
changed_at (suc k) f (x ∷ xs) = x ∷ changed_at k f xs

-- a message changes what was reported; Up makes the port up with its cost and nothing reported; Down makes it down; Cost changes its cost. An event of the attachment leaves the ports
abbrev pub records_after : Event → List Neighbour → List Neighbour
records_after (Message q kind value) ns = changed_at q (λ n. record { up = n.up; cost = n.cost; reported = value }) ns
records_after (Up q cost) ns = changed_at q (λ n. record { up = true; cost = cost; reported = infinity }) ns
records_after (Down q) ns = changed_at q (λ n. record { up = false; cost = n.cost; reported = n.reported }) ns
records_after (Cost q cost) ns = changed_at q (λ n. record { up = n.up; cost = cost; reported = n.reported }) ns
records_after (Attached cost) ns = ns
records_after Detached ns = ns

-- the attachment is as it was told last
abbrev pub attachment_after : Event → Option ℕ → Option ℕ
attachment_after (Attached cost) attachment = Some cost
attachment_after Detached attachment = None
attachment_after _ attachment = attachment

-- a successor whose link is lost is none, and so is a lost attachment, whose number is the degree
abbrev pub successor_after : ℕ → Event → Option ℕ → Option ℕ
successor_after port_count (Down q) successor = if is_port q successor then None else successor
successor_after port_count Detached successor = if is_port port_count successor then None else successor
successor_after port_count _ successor = successor

-- the machine with its records after an event, before it decides
abbrev pub with_records : Machine → Event → Machine
with_records m e = record m { attachment = attachment_after e m.attachment; ports = records_after e m.ports; successor = successor_after (port_count m) e m.successor }

-- the port whose query the event is
abbrev pub asker : Event → Option ℕ
asker (Message q Query value) = Some q
asker _ = None

-- ---- a passive machine

-- passive at the least distance: the condition holds for this feasible distance. A reply goes to the port to which one is owed, and news to the others
abbrev pub passive_result : Machine → ℕ → Option ℕ → Reaction
passive_result m fd owed = record {
  machine = record m {
    rd = least (ways m);
    fd = min fd (least (ways m));
    successor = chosen_successor fd (ways m) m.successor;
    computation = None;
  };
  sends = one_to owed Reply (least (ways m)) ++ news_to_others owed m.rd (least (ways m)) m.ports;
}

-- a computation that begins, at the distance by way of the successor: everyone who is up is asked, and awaited, but never
-- the attachment. With no one to ask it completes at once. It began because no way may be taken, and an attachment, which
-- reported 0, may always be taken where it is the least; so every distance is infinity then, the condition holds, and the
-- machine is passive without a route
abbrev pub new_computation : Machine → ℕ → Option ℕ → Reaction
new_computation m fd debt =
    let v = via_successor (ways m) m.successor in
    if list_any (λ n. n.up) m.ports
    then record {
      machine = record m { rd = v; fd = fd; computation = Some (record { awaited = map (λ n. n.up) m.ports; debt = debt }) };
      sends = all_from 0 None Query v m.ports;
    }
    else record { machine = record m { rd = infinity; fd = infinity; successor = None; computation = None }; sends = [] }

-- a computation that an event begins: a query from the successor leaves a debt; one from another port is answered first, with the new distance
abbrev pub started_computation : Machine → Option ℕ → Reaction
started_computation m None = new_computation m m.fd None
started_computation m (Some q) =
    if is_port q m.successor
    then new_computation m m.fd (Some q)
    else with_first (one_to (Some q) Reply (via_successor (ways m) m.successor)) (new_computation m m.fd None)

-- a passive machine stays passive where the condition holds, and else begins a computation
abbrev pub passive_reaction : Machine → Event → Reaction
passive_reaction m e = if condition_holds m.fd (ways m) then passive_result m m.fd (asker e) else started_computation m (asker e)

-- ---- an active machine

-- a computation that is over: its distance becomes the feasible distance. Where the condition holds then, the machine is
-- passive; where it fails, a new computation begins with the same debt
abbrev pub completion : Machine → Option ℕ → Reaction
completion m debt = if condition_holds m.rd (ways m) then passive_result m m.rd debt else new_computation m m.rd debt

-- a reply ends the wait for its port, and so does the loss of the link
abbrev pub awaited_after : Event → List Bool → List Bool
awaited_after (Message q Reply value) awaited = changed_at q (λ b. false) awaited
awaited_after (Down q) awaited = changed_at q (λ b. false) awaited
awaited_after _ awaited = awaited

-- a query from the successor leaves a debt; the loss of the link drops a debt to the neighbour there
abbrev pub debt_after : Option ℕ → Event → Option ℕ → Option ℕ
debt_after successor (Message q Query value) debt = if is_port q successor then Some q else debt
debt_after successor (Down q) debt = if is_port q debt then None else debt
debt_after successor _ debt = debt

-- a query from another port than the successor's is answered at once
abbrev pub answers_at_once : Machine → Event → List Outgoing
answers_at_once m (Message q Query value) = if is_port q m.successor then [] else one_to (Some q) Reply m.rd
answers_at_once m _ = []

-- an active machine waits on while someone is awaited, and else its computation is over
abbrev pub active_reaction : Machine → Event → Computation → Reaction
active_reaction m e c =
    if list_any (λ b. b) (awaited_after e c.awaited)
    then record {
      machine = record m { computation = Some (record { awaited = awaited_after e c.awaited; debt = debt_after m.successor e c.debt }) };
      sends = answers_at_once m e;
    }
    else with_first (answers_at_once m e) (completion m (debt_after m.successor e c.debt))

-- ---- any machine

-- a neighbour that came up is told the distance, if there is one
abbrev pub greeting : Machine → ℕ → List Outgoing
greeting m q = if m.rd == infinity then [] else one_to (Some q) Update m.rd

-- what a machine decides once its records have changed
abbrev pub decision : Machine → Event → Reaction
decision m e = option_map_or (active_reaction m e) m.computation (passive_reaction m e)

-- the event that the machine of a prefix meets where its router is told of its attachment: at this cost, or at none
abbrev pub event_at_home : Option ℕ → Event
event_at_home cost = option_map_or (λ c. Attached c) cost Detached

-- the state after an event, and what it sends. Where a link comes up, only the record changes and the neighbour is told:
-- a computation under way does not await it, and a passive machine would choose as before
abbrev pub reaction : Machine → Event → Reaction
reaction m (Up q cost) = record { machine = with_records m (Up q cost); sends = greeting m q }
reaction m e = decision (with_records m e) e

-- the state after these events
abbrev pub machine_after : Machine → List Event → Machine
machine_after m [] = m
machine_after m (e ∷ es) = machine_after (reaction m e).machine es
