-- Lines of JSON, each an object with no spaces between its parts. Names are small letters and digits, prefixes and addresses digits, dots and slashes: no text needs an escape.
use Rattle.std.specs.Prelude.{ℕ, Bool, true, false, ◌==◌, if◌then◌else◌, List, [], ◌∷◌, ◌++◌, Option, Some, None, Result, Ok, Err, codes, decimal}
use Rattle.faults.specs.declared.kind.FaultKind.{FaultKind}
use Rattle.metric.specs.Distance.{infinity}
use Rattle.ipv4_prefix.specs.{Prefix.Prefix, Texts.address_text, Texts.prefix_text}
use Rattle.network_model.specs.{declared.item.Item.Item, declared.item.Message.Message, declared.item.Notice.Notice, declared.machine.Neighbour.Neighbour, declared.network.LinkSpec.LinkSpec, declared.route.Entry.Entry, declared.route.Entry.TheVariants.Local, declared.route.Entry.TheVariants.Via, declared.route.Entry.TheVariants.Unreachable, declared.step.Step.Step, declared.trace.Ending.Ending}
use Rattle.texts.specs.Words.{Text}
use Rattle.script.specs.Directories.{Directory, name_text, neighbour_at}
use Rattle.journal.specs.Steps.{step_text}
use Rattle.lines.specs.Texts.{each_name, end_text, fault_text, kind_text, spell_word}
use Rattle.lines.specs.{declared.answers.Answer.Answer, declared.answers.Asked.Asked, declared.answers.Asked.TheVariants.Row, declared.answers.Asked.TheVariants.Lookup, declared.answers.Asked.TheVariants.Packet, declared.states.LinkLine.LinkLine, declared.states.RouterLine.RouterLine, declared.states.MachineLine.MachineLine, declared.records.MachineState.MachineState, declared.reasons.Known.Known, declared.reasons.Known.TheVariants.Owes, declared.reasons.Known.TheVariants.Attached, declared.reasons.Known.TheVariants.AtNeighbour, declared.waiting.Waiting.Waiting, declared.waiting.Waiting.TheVariants.Queued, declared.waiting.Waiting.TheVariants.Noticed, declared.waiting.Waiting.TheVariants.Kept, declared.ends.Counts.Counts, declared.ends.Ended.Ended, declared.times.Tally.Tally, declared.times.Effect.Effect, declared.times.ChangeLine.ChangeLine, declared.times.SpellLine.SpellLine}
use Rattle.lines.specs.declared.ends.Ended.TheVariants.{Done, AtRest, Agrees, StepsDone, Differs, Refused}

-- ---- values

-- a boolean
abbrev pub flag_json : Bool → Text
flag_json is = if is then codes "true" else codes "false"

-- a number that may not be there
abbrev pub number_json : Option ℕ → Text
number_json None = codes "null"
number_json (Some n) = decimal n

-- a distance; none where no way is known
abbrev pub distance_json : ℕ → Text
distance_json d = if d == infinity then codes "null" else decimal d

-- a router that may not be there
abbrev pub router_name_json : Directory → Option ℕ → Text
router_name_json d None = codes "null"
router_name_json d (Some router) = codes "\"" ++ name_text d (Some router) ++ codes "\""

-- the names of routers, with a comma between two
abbrev pub names_json : Directory → List ℕ → Text
names_json d [] = []
names_json d (first ∷ rest) = codes "\"" ++ name_text d (Some first) ++ codes "\"" ++ each_name d (codes ",\"") (codes "\"") rest

-- ---- rows, look-ups, jobs

-- where an entry of a router leads
abbrev pub entry_json : Directory → ℕ → Entry → Text
entry_json d router Local = codes "\"entry\":\"local\""
entry_json d router (Via port session) =
    codes "\"entry\":\"via\",\"neighbour\":\"" ++ name_text d (neighbour_at d router port) ++ codes "\",\"session\":" ++ decimal session
entry_json d router Unreachable = codes "\"entry\":\"unreachable\""

-- a row of a router, without its router
abbrev pub found_json : Directory → ℕ → Option (Prefix × Entry) → Text
found_json d router None = codes "\"prefix\":null,\"entry\":null"
found_json d router (Some row) = codes "\"prefix\":\"" ++ prefix_text row.0 ++ codes "\"," ++ entry_json d router row.1

-- a router, an address, and what the router found for it
abbrev pub answer_json : Directory → Answer → Text
answer_json d a =
    codes "\"router\":\"" ++ name_text d (Some a.router) ++ codes "\",\"address\":\"" ++ address_text a.addr ++ codes "\"," ++ found_json d a.router a.found

-- a row; what a look-up of an address at a router found; what a worker's job of a number found
abbrev pub asked_json : Directory → Asked → Text
asked_json d (Row router prefix entry) =
    codes "{\"kind\":\"row\",\"router\":\"" ++ name_text d (Some router) ++ codes "\"," ++ found_json d router (Some (prefix, entry)) ++ codes "}"
asked_json d (Lookup answer) = codes "{\"kind\":\"lookup\"," ++ answer_json d answer ++ codes "}"
asked_json d (Packet number answer) = codes "{\"kind\":\"packet\",\"job\":" ++ decimal number ++ codes "," ++ answer_json d answer ++ codes "}"

-- the member of a trace that goes on whichever prefixes match
abbrev pub through_json : Bool → Text
through_json true = codes "\"through\":true,"
through_json false = []

-- the trace of a packet for an address from a router: the routers that it passes, and why it ends
abbrev pub trace_json : Directory → ℕ → ℕ → Bool → List ℕ → Ending → Text
trace_json d router addr through path end =
    codes "{\"kind\":\"trace\",\"router\":\"" ++ name_text d (Some router) ++ codes "\",\"address\":\"" ++ address_text addr
    ++ codes "\"," ++ through_json through ++ codes "\"path\":[" ++ names_json d path ++ codes "],\"end\":\"" ++ end_text end ++ codes "\"}"

-- ---- links, routers, machines

-- the costs of a link from its ends, and how many items these have yet to take
abbrev pub loads_json : LinkLine → Text
loads_json l =
    codes "\"costs\":[" ++ decimal (l.at).from_a ++ codes "," ++ decimal (l.at).from_b
    ++ codes "],\"queued\":[" ++ decimal l.queued_a ++ codes "," ++ decimal l.queued_b ++ codes "]"

-- a link: its ends, whether it is up, its session, its cost from each end, and how many items each end has yet to take
abbrev pub link_json : Directory → LinkLine → Text
link_json d l =
    codes "{\"kind\":\"link\",\"a\":\"" ++ name_text d (Some l.a) ++ codes "\",\"b\":\"" ++ name_text d (Some l.b)
    ++ codes "\",\"up\":" ++ flag_json (l.at).up ++ codes ",\"session\":" ++ decimal (l.at).session
    ++ codes "," ++ loads_json l ++ codes "}"

-- a router: how often it published, how many messages it holds, how many of them are ripe, and how many notices of its own attachments it has yet to take
abbrev pub router_json : Directory → RouterLine → Text
router_json d r =
    codes "{\"kind\":\"router\",\"router\":\"" ++ name_text d (Some r.router) ++ codes "\",\"generation\":" ++ decimal (r.at).generation
    ++ codes ",\"held\":" ++ decimal (r.at).held ++ codes ",\"ripe\":" ++ decimal (r.at).ripe ++ codes ",\"notices\":" ++ decimal (r.at).notices ++ codes "}"

-- what a machine is at: its state and its distances
abbrev pub state_json : MachineState → Text
state_json s = codes "\"active\":" ++ number_json s.origin ++ codes ",\"rd\":" ++ distance_json s.rd ++ codes ",\"fd\":" ++ distance_json s.fd

-- a router's machine for a prefix: its state and its distances, and the entry that the router chose
abbrev pub machine_json : Directory → MachineLine → Text
machine_json d m =
    codes "{\"kind\":\"machine\",\"router\":\"" ++ name_text d (Some m.router) ++ codes "\",\"prefix\":\"" ++ prefix_text m.prefix
    ++ codes "\"," ++ state_json m.at ++ codes "," ++ entry_json d m.router m.entry ++ codes "}"

-- a prefix that a router has not heard of
abbrev pub unheard_json : Directory → ℕ → Prefix → Text
unheard_json d router prefix =
    codes "{\"kind\":\"unheard\",\"router\":\"" ++ name_text d (Some router) ++ codes "\",\"prefix\":\"" ++ prefix_text prefix ++ codes "\"}"

-- ---- what a machine knows

-- what is known over a link: nothing more where it is down
abbrev pub over_link_json : Neighbour → Text
over_link_json n =
    if n.up then codes "true,\"cost\":" ++ decimal n.cost ++ codes ",\"reported\":" ++ distance_json n.reported
    else codes "false"

-- the neighbours whose replies a router's machine for a prefix awaits
abbrev pub awaits_json : Directory → ℕ → Prefix → List ℕ → Text
awaits_json d router prefix neighbours =
    codes "{\"kind\":\"awaits\",\"router\":\"" ++ name_text d (Some router) ++ codes "\",\"prefix\":\"" ++ prefix_text prefix
    ++ codes "\",\"neighbours\":[" ++ names_json d neighbours ++ codes "]}"

-- what else it knows: to whom it owes a reply, the cost of the router's own attachment, and a neighbour
abbrev pub known_json : Directory → ℕ → Prefix → Known → Text
known_json d router prefix (Owes neighbour) =
    codes "{\"kind\":\"owes\",\"router\":\"" ++ name_text d (Some router) ++ codes "\",\"prefix\":\"" ++ prefix_text prefix
    ++ codes "\",\"neighbour\":" ++ router_name_json d neighbour ++ codes "}"
known_json d router prefix (Attached cost) =
    codes "{\"kind\":\"attached\",\"router\":\"" ++ name_text d (Some router) ++ codes "\",\"prefix\":\"" ++ prefix_text prefix
    ++ codes "\",\"cost\":" ++ decimal cost ++ codes "}"
known_json d router prefix (AtNeighbour neighbour known) =
    codes "{\"kind\":\"neighbour\",\"router\":\"" ++ name_text d (Some router) ++ codes "\",\"prefix\":\"" ++ prefix_text prefix
    ++ codes "\",\"neighbour\":" ++ router_name_json d neighbour ++ codes ",\"up\":" ++ over_link_json known ++ codes "}"

-- ---- what waits to be taken, and what is held

-- a message, and the session in which it was sent
abbrev pub message_json : ℕ → Message → Text
message_json session m =
    codes "\"item\":\"" ++ kind_text m.kind ++ codes "\",\"prefix\":\"" ++ prefix_text m.prefix
    ++ codes "\",\"rd\":" ++ distance_json m.value ++ codes ",\"session\":" ++ decimal session

-- an item on a link, whose messages are of this session
abbrev pub item_json : ℕ → Item → Text
item_json now (Item.Up session cost) = codes "\"item\":\"up\",\"cost\":" ++ decimal cost ++ codes ",\"session\":" ++ decimal session
item_json now (Item.Down session) = codes "\"item\":\"down\",\"session\":" ++ decimal session
item_json now (Item.Cost session cost) = codes "\"item\":\"cost\",\"cost\":" ++ decimal cost ++ codes ",\"session\":" ++ decimal session
item_json now (Item.Message m) = message_json now m

-- a router's own attachment to a prefix, which has this cost or is gone
abbrev pub attachment_json : Prefix → Option ℕ → Text
attachment_json p None = codes "\"item\":\"detached\",\"prefix\":\"" ++ prefix_text p ++ codes "\""
attachment_json p (Some cost) = codes "\"item\":\"attached\",\"prefix\":\"" ++ prefix_text p ++ codes "\",\"cost\":" ++ decimal cost

-- a notice of it
abbrev pub notice_json : Notice → Text
notice_json n = attachment_json n.prefix n.cost

-- an item that a router has yet to take from its port, on a link in a session; a notice of its own attachments; a message that it holds, and whether it may leave
abbrev pub waiting_json : Directory → Waiting → Text
waiting_json d (Queued router port session item) =
    codes "{\"kind\":\"queued\",\"router\":\"" ++ name_text d (Some router) ++ codes "\",\"neighbour\":\"" ++ name_text d (neighbour_at d router port)
    ++ codes "\"," ++ item_json session item ++ codes "}"
waiting_json d (Noticed router notice) =
    codes "{\"kind\":\"queued\",\"router\":\"" ++ name_text d (Some router) ++ codes "\",\"neighbour\":\"" ++ name_text d (Some router)
    ++ codes "\"," ++ notice_json notice ++ codes "}"
waiting_json d (Kept router ripe h) =
    codes "{\"kind\":\"held\",\"router\":\"" ++ name_text d (Some router) ++ codes "\",\"neighbour\":\"" ++ name_text d (neighbour_at d router h.port)
    ++ codes "\"," ++ message_json h.session h.message ++ codes ",\"ripe\":" ++ flag_json ripe ++ codes "}"

-- ---- steps

-- what a router has to do next
abbrev pub next_json : Directory → List LinkSpec → ℕ → Option Step → Text
next_json d links router None = codes "{\"kind\":\"next\",\"router\":\"" ++ name_text d (Some router) ++ codes "\",\"step\":null}"
next_json d links router (Some step) =
    codes "{\"kind\":\"next\",\"router\":\"" ++ name_text d (Some router) ++ codes "\",\"step\":\"" ++ step_text d links step ++ codes "\"}"

-- what came of a step that was tried
abbrev pub tried_json : Option FaultKind → Text
tried_json None = codes "{\"kind\":\"try\",\"refused\":null}"
tried_json (Some fault) = codes "{\"kind\":\"try\",\"refused\":\"" ++ fault_text fault ++ codes "\"}"

-- how many steps were done, and how many messages of each kind they put on links
abbrev pub counts_json : Counts → Text
counts_json c =
    codes "\"steps\":" ++ decimal c.steps ++ codes ",\"updates\":" ++ decimal (c.sent).updates
    ++ codes ",\"queries\":" ++ decimal (c.sent).queries ++ codes ",\"replies\":" ++ decimal (c.sent).replies

-- how a run or a replay ended
abbrev pub ended_json : Ended → Text
ended_json (Done steps) = codes "{\"kind\":\"done\",\"steps\":" ++ decimal steps ++ codes "}"
ended_json (AtRest steps moment) = codes "{\"kind\":\"rest\",\"steps\":" ++ decimal steps ++ codes ",\"moment\":" ++ decimal moment ++ codes "}"
ended_json (Agrees steps) = codes "{\"kind\":\"replay\",\"result\":\"agrees\",\"steps\":" ++ decimal steps ++ codes "}"
ended_json (StepsDone steps) = codes "{\"kind\":\"replay\",\"result\":\"done\",\"steps\":" ++ decimal steps ++ codes "}"
ended_json (Differs line) = codes "{\"kind\":\"replay\",\"result\":\"differs\",\"report_line\":" ++ decimal line ++ codes "}"
ended_json (Refused step fault) =
    codes "{\"kind\":\"replay\",\"result\":\"refused\",\"step\":" ++ decimal step ++ codes ",\"refused\":\"" ++ fault_text fault ++ codes "\"}"

-- ---- simulated time

-- how much later a network was at rest, if it was
abbrev pub rest_json : Option ℕ → Text
rest_json None = codes "\"rest\":null"
rest_json (Some rest) = codes "\"rest\":" ++ decimal rest

-- how many computations and outages began, and how long the longest of each was, if they are recorded
abbrev pub tallies_json : Option (Tally × Tally) → Text
tallies_json None = []
tallies_json (Some t) =
    codes ",\"computations\":" ++ decimal (t.0).count ++ codes ",\"longest_computation\":" ++ decimal (t.0).longest
    ++ codes ",\"outages\":" ++ decimal (t.1).count ++ codes ",\"longest_outage\":" ++ decimal (t.1).longest

-- what came of a change
abbrev pub effect_json : Effect → Text
effect_json e = rest_json e.rest ++ codes "," ++ counts_json e.counts ++ tallies_json e.spells

-- the same, or why it was refused
abbrev pub came_json : Result Effect FaultKind → Text
came_json (Ok effect) = effect_json effect
came_json (Err fault) = codes "\"refused\":\"" ++ fault_text fault ++ codes "\""

-- a change, and what came of it
abbrev pub change_json : Directory → ChangeLine → Text
change_json d c =
    codes "{\"kind\":\"change\",\"moment\":" ++ decimal c.moment ++ codes ",\"step\":\"" ++ step_text d (c.links).now c.step
    ++ codes "\"," ++ came_json c.came ++ codes "}"

-- a computation or an outage that has ended
abbrev pub spell_json : Directory → SpellLine → Text
spell_json d s =
    codes "{\"kind\":\"" ++ spell_word s.outage ++ codes "\",\"router\":\"" ++ name_text d (Some s.router) ++ codes "\",\"prefix\":\"" ++ prefix_text s.prefix
    ++ codes "\",\"from\":" ++ decimal s.from ++ codes ",\"to\":" ++ decimal s.to ++ codes "}"
