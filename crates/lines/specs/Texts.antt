-- Lines for people.
use Rattle.std.specs.Prelude.{ℕ, Bool, true, false, if◌then◌else◌, List, [], ◌++◌, Option, Some, None, Result, Ok, Err, codes, decimal}
use Rattle.std.specs.List.{flat_map}
use Rattle.faults.specs.{Numbers.kind_number, Numbers.name_of, declared.kind.FaultKind.FaultKind}
use Rattle.metric.specs.{Distance.distance_text, declared.kind.Kind.Kind, declared.kind.Kind.TheVariants.Update, declared.kind.Kind.TheVariants.Query, declared.kind.Kind.TheVariants.Reply}
use Rattle.ipv4_prefix.specs.{Prefix.Prefix, Texts.address_text, Texts.prefix_text}
use Rattle.network_model.specs.{declared.item.Item.Item, declared.item.Message.Message, declared.item.Notice.Notice, declared.machine.Neighbour.Neighbour, declared.network.LinkSpec.LinkSpec, declared.route.Entry.Entry, declared.route.Entry.TheVariants.Local, declared.route.Entry.TheVariants.Via, declared.route.Entry.TheVariants.Unreachable, declared.step.Step.Step, declared.trace.Ending.Ending}
use Rattle.texts.specs.Words.{Text}
use Rattle.script.specs.Directories.{Directory, name_text, neighbour_at}
use Rattle.journal.specs.Steps.{step_text}
use Rattle.lines.specs.{declared.answers.Answer.Answer, declared.answers.Asked.Asked, declared.answers.Asked.TheVariants.Row, declared.answers.Asked.TheVariants.Lookup, declared.answers.Asked.TheVariants.Packet, declared.states.LinkLine.LinkLine, declared.states.RouterLine.RouterLine, declared.states.MachineLine.MachineLine, declared.records.MachineState.MachineState, declared.reasons.Known.Known, declared.reasons.Known.TheVariants.Owes, declared.reasons.Known.TheVariants.Attached, declared.reasons.Known.TheVariants.AtNeighbour, declared.waiting.Waiting.Waiting, declared.waiting.Waiting.TheVariants.Queued, declared.waiting.Waiting.TheVariants.Noticed, declared.waiting.Waiting.TheVariants.Kept, declared.ends.Counts.Counts, declared.ends.Ended.Ended, declared.times.Tally.Tally, declared.times.Effect.Effect, declared.times.ChangeLine.ChangeLine, declared.times.SpellLine.SpellLine}
use Rattle.lines.specs.declared.ends.Ended.TheVariants.{Done, AtRest, Agrees, StepsDone, Differs, Refused}

-- ---- values

-- the names of routers, each between two texts
abbrev pub each_name : Directory → Text → Text → List ℕ → Text
each_name d before after routers = flat_map (λ i. before ++ name_text d (Some i) ++ after) routers

-- where an entry of a router leads
abbrev pub entry_text : Directory → ℕ → Entry → Text
entry_text d router Local = codes "local"
entry_text d router (Via port session) = codes "via " ++ name_text d (neighbour_at d router port) ++ codes " " ++ decimal session
entry_text d router Unreachable = codes "unreachable"

-- what a message is
abbrev pub kind_text : Kind → Text
kind_text Update = codes "update"
kind_text Query = codes "query"
kind_text Reply = codes "reply"

-- a fault: its number and its name
abbrev pub fault_text : FaultKind → Text
fault_text fault = decimal (kind_number fault) ++ codes " " ++ name_of fault

-- ---- rows, look-ups, jobs, traces

-- the row of a router that a look-up found, without its router
abbrev pub found_text : Directory → ℕ → Option (Prefix × Entry) → Text
found_text d router None = codes "none"
found_text d router (Some row) = prefix_text row.0 ++ codes " " ++ entry_text d router row.1

-- a router, an address, and what the router found for it
abbrev pub answer_text : Directory → Answer → Text
answer_text d a = name_text d (Some a.router) ++ codes " " ++ address_text a.addr ++ codes ": " ++ found_text d a.router a.found

-- a row of a router: its prefix and its entry; what a look-up of an address at a router found; what a worker's job of a number found
abbrev pub asked_text : Directory → Asked → Text
asked_text d (Row router prefix entry) = name_text d (Some router) ++ codes " " ++ found_text d router (Some (prefix, entry))
asked_text d (Lookup answer) = codes "lookup " ++ answer_text d answer
asked_text d (Packet number answer) = codes "packet " ++ decimal number ++ codes " " ++ answer_text d answer

-- why a trace ends
abbrev pub end_text : Ending → Text
end_text Ending.Delivered = codes "delivered"
end_text Ending.NoRoute = codes "no route"
end_text Ending.Unreachable = codes "unreachable"
end_text Ending.DeadLink = codes "dead link"
end_text Ending.Crossed = codes "crossed"

-- the option of a trace that goes on whichever prefixes match
abbrev pub through_text : Bool → Text
through_text true = codes " --through"
through_text false = []

-- the trace of a packet for an address from a router: the routers that it passes, and why it ends
abbrev pub trace_text : Directory → ℕ → ℕ → Bool → List ℕ → Ending → Text
trace_text d router addr through path end =
    codes "trace " ++ name_text d (Some router) ++ codes " " ++ address_text addr ++ through_text through
    ++ codes ": " ++ each_name d [] (codes " ") path ++ end_text end

-- ---- links, routers, machines

-- whether a link is up
abbrev pub up_text : Bool → Text
up_text true = codes "up"
up_text false = codes "down"

-- whether a computation is under way, and in which origin state
abbrev pub origin_text : Option ℕ → Text
origin_text None = codes "passive"
origin_text (Some origin) = codes "active " ++ decimal origin

-- the costs of a link from its ends, and how many items these have yet to take
abbrev pub loads_text : LinkLine → Text
loads_text l = decimal (l.at).from_a ++ codes " " ++ decimal (l.at).from_b ++ codes " queued " ++ decimal l.queued_a ++ codes " " ++ decimal l.queued_b

-- a link: its ends, whether it is up, its session, its cost from each end, and how many items each end has yet to take
abbrev pub link_text : Directory → LinkLine → Text
link_text d l =
    codes "link " ++ name_text d (Some l.a) ++ codes " " ++ name_text d (Some l.b)
    ++ codes " " ++ up_text (l.at).up ++ codes " " ++ decimal (l.at).session ++ codes " " ++ loads_text l

-- a router: how often it published, how many messages it holds, how many of them are ripe, and how many notices of its own attachments it has yet to take
abbrev pub router_text : Directory → RouterLine → Text
router_text d r =
    name_text d (Some r.router)
    ++ codes " gen " ++ decimal (r.at).generation ++ codes " held " ++ decimal (r.at).held ++ codes " ripe " ++ decimal (r.at).ripe
    ++ codes " attach " ++ decimal (r.at).notices

-- what a machine is at: its state, its reported and its feasible distance
abbrev pub state_text : MachineState → Text
state_text s = origin_text s.origin ++ codes " RD " ++ distance_text s.rd ++ codes " FD " ++ distance_text s.fd

-- a router's machine for a prefix: its state, its reported and its feasible distance, and the entry that the router chose
abbrev pub machine_text : Directory → MachineLine → Text
machine_text d m =
    name_text d (Some m.router) ++ codes " " ++ prefix_text m.prefix ++ codes " " ++ state_text m.at ++ codes " " ++ entry_text d m.router m.entry

-- a prefix that a router has not heard of
abbrev pub unheard_text : Directory → ℕ → Prefix → Text
unheard_text d router prefix = name_text d (Some router) ++ codes " " ++ prefix_text prefix ++ codes " unheard"

-- ---- what a machine knows

-- what is known over a link: nothing more where it is down
abbrev pub over_link_text : Neighbour → Text
over_link_text n =
    if n.up then codes "up, cost " ++ decimal n.cost ++ codes ", reported " ++ distance_text n.reported
    else codes "down"

-- the neighbours whose replies a router's machine for a prefix awaits
abbrev pub awaits_text : Directory → List ℕ → Text
awaits_text d neighbours = codes "  awaits the reply of" ++ each_name d (codes " ") [] neighbours

-- the neighbour to whom it owes a reply
abbrev pub owed_text : Directory → Option ℕ → Text
owed_text d None = codes "  owes no reply"
owed_text d (Some neighbour) = codes "  owes a reply to " ++ name_text d (Some neighbour)

-- what else it knows: to whom it owes a reply, the cost of the router's own attachment, and a neighbour
abbrev pub known_text : Directory → Known → Text
known_text d (Owes owed) = owed_text d owed
known_text d (Attached cost) = codes "  attached, cost " ++ decimal cost
known_text d (AtNeighbour neighbour known) = codes "  " ++ name_text d neighbour ++ codes ": " ++ over_link_text known

-- ---- what waits to be taken, and what is held

-- a message, and the session in which it was sent
abbrev pub message_text : ℕ → Message → Text
message_text session m =
    kind_text m.kind ++ codes " " ++ prefix_text m.prefix ++ codes " RD " ++ distance_text m.value ++ codes " session " ++ decimal session

-- an item on a link, whose messages are of this session
abbrev pub item_text : ℕ → Item → Text
item_text now (Item.Up session cost) = codes "up cost " ++ decimal cost ++ codes " session " ++ decimal session
item_text now (Item.Down session) = codes "down session " ++ decimal session
item_text now (Item.Cost session cost) = codes "cost " ++ decimal cost ++ codes " session " ++ decimal session
item_text now (Item.Message m) = message_text now m

-- a router's own attachment to a prefix, which has this cost or is gone
abbrev pub attachment_text : Prefix → Option ℕ → Text
attachment_text p None = codes "detached " ++ prefix_text p
attachment_text p (Some cost) = codes "attached " ++ prefix_text p ++ codes " cost " ++ decimal cost

-- a notice of it
abbrev pub notice_text : Notice → Text
notice_text n = attachment_text n.prefix n.cost

-- whether a message that is held may leave
abbrev pub ripe_text : Bool → Text
ripe_text true = codes " ripe"
ripe_text false = codes " not ripe"

-- an item that a router has yet to take from its port, on a link in a session; a notice of its own attachments; a message that it holds
abbrev pub waiting_text : Directory → Waiting → Text
waiting_text d (Queued router port session item) =
    codes "queue " ++ name_text d (Some router) ++ codes " from " ++ name_text d (neighbour_at d router port) ++ codes ": " ++ item_text session item
waiting_text d (Noticed router notice) =
    codes "queue " ++ name_text d (Some router) ++ codes " from " ++ name_text d (Some router) ++ codes ": " ++ notice_text notice
waiting_text d (Kept router ripe h) =
    codes "held " ++ name_text d (Some router) ++ codes " to " ++ name_text d (neighbour_at d router h.port) ++ codes ": "
    ++ message_text h.session h.message ++ ripe_text ripe

-- ---- steps

-- what a router has to do next
abbrev pub next_text : Directory → List LinkSpec → ℕ → Option Step → Text
next_text d links router None = codes "next " ++ name_text d (Some router) ++ codes ": nothing"
next_text d links router (Some step) = codes "next " ++ name_text d (Some router) ++ codes ": " ++ step_text d links step

-- what came of a step that was tried
abbrev pub tried_text : Option FaultKind → Text
tried_text None = codes "done"
tried_text (Some fault) = codes "refused " ++ fault_text fault

-- how many steps were done, and how many messages of each kind they put on links
abbrev pub counts_text : Counts → Text
counts_text c =
    decimal c.steps ++ codes " steps, " ++ decimal (c.sent).updates ++ codes " updates "
    ++ decimal (c.sent).queries ++ codes " queries " ++ decimal (c.sent).replies ++ codes " replies"

-- how a run or a replay ended: all steps were done; the last of them at a moment of simulated time; all were done, and the report of a journal agrees; they were done alone, since the report is of the first version; the report differs at a line; or a step was refused
abbrev pub ended_text : Ended → Text
ended_text (Done steps) = codes "done: " ++ decimal steps ++ codes " steps"
ended_text (AtRest steps moment) = codes "done: " ++ decimal steps ++ codes " steps, at rest at " ++ decimal moment
ended_text (Agrees steps) = codes "replay agrees: " ++ decimal steps ++ codes " steps"
ended_text (StepsDone steps) = codes "replay done: " ++ decimal steps ++ codes " steps"
ended_text (Differs line) = codes "replay differs: report line " ++ decimal line
ended_text (Refused step fault) = codes "step " ++ decimal step ++ codes " refused: " ++ fault_text fault

-- ---- simulated time

-- how much later a network was at rest, if it was
abbrev pub rest_text : Option ℕ → Text
rest_text None = codes "not at rest"
rest_text (Some rest) = codes "at rest " ++ decimal rest ++ codes " later"

-- how many computations and outages began, and how long the longest of each was, if they are recorded
abbrev pub tallies_text : Option (Tally × Tally) → Text
tallies_text None = []
tallies_text (Some t) =
    codes ", " ++ decimal (t.0).count ++ codes " computations of at most " ++ decimal (t.0).longest
    ++ codes ", " ++ decimal (t.1).count ++ codes " outages of at most " ++ decimal (t.1).longest

-- what came of a change
abbrev pub effect_text : Effect → Text
effect_text e = rest_text e.rest ++ codes ", " ++ counts_text e.counts ++ tallies_text e.spells

-- the same, or why it was refused
abbrev pub came_text : Result Effect FaultKind → Text
came_text (Ok effect) = effect_text effect
came_text (Err fault) = codes "refused " ++ fault_text fault

-- a change, and what came of it
abbrev pub change_text : Directory → ChangeLine → Text
change_text d c = decimal c.moment ++ codes " " ++ step_text d (c.links).now c.step ++ codes ": " ++ came_text c.came

-- what a spell is: an outage, or else a computation
abbrev pub spell_word : Bool → Text
spell_word true = codes "outage"
spell_word false = codes "computation"

-- a computation or an outage that has ended
abbrev pub spell_text : Directory → SpellLine → Text
spell_text d s =
    codes "  " ++ spell_word s.outage ++ codes " at " ++ name_text d (Some s.router) ++ codes " for " ++ prefix_text s.prefix
    ++ codes " from " ++ decimal s.from ++ codes " to " ++ decimal s.to
