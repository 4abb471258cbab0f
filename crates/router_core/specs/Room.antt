-- The room that every router keeps for messages, and what may need more.
use Rattle.std.specs.Prelude.{◌≡◌, ℕ, ◌+◌, ◌*◌, ◌<◌, ◌⊎◌, None, length}
use Rattle.std.specs.FinMap.{find as row_of}
use Rattle.ipv4_prefix.specs.Prefix.{Prefix, prefix_cmp}
use Rattle.network_model.specs.{Network.most_ports, World.Router, declared.item.Item.Item}

-- so many messages a router has memory for, sent in one reaction or held: one more than it can have ports
abbrev pub kept_room : ℕ
kept_room = most_ports + 1

-- with n messages more the router would hold more than it always has memory for
abbrev pub OutgrowsRoom : ℕ → Router → Type 0
OutgrowsRoom n r = kept_room < length (r.gate).held + n

-- an event of one prefix may need memory: the router has not heard of the prefix, or holds messages already, so many that one
-- more than it has ports may not fit
abbrev pub MeetingNeedsMemory : Prefix → Router → Type 0
MeetingNeedsMemory p r = (row_of prefix_cmp p r.machines ≡ None) ⊎ OutgrowsRoom (length r.ports + 1) r

-- a notice of a link, which each machine meets, may need memory: each may send one message more than there are ports
abbrev pub NoticeNeedsMemory : Router → Type 0
NoticeNeedsMemory r = OutgrowsRoom (length r.machines * (length r.ports + 1)) r

-- an item from a port may need memory
abbrev pub ItemNeedsMemory : Item → Router → Type 0
ItemNeedsMemory (Item.Message message) r = MeetingNeedsMemory message.prefix r
ItemNeedsMemory _ r = NoticeNeedsMemory r
