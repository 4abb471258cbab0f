-- The JSON of what changed. A router, a link, a prefix and an end of a link go by their numbers.
use Rattle.std.specs.Prelude.{ℕ, List, [], ◌∷◌, ◌++◌, Bool, true, ◌==◌, nat_lt, if◌then◌else◌, Option, Some, None, map, filter, length, position, unwrap_or, codes, vec_len}
use Rattle.std.specs.{Option.option_map_or, List.flat_map, List.range_with_len, Ordering.nat_cmp}
use Rattle.std.specs.FinSet as set
use Rattle.ipv4_prefix.specs.{Prefix.Prefix, Prefix.prefix_eq, Texts.prefix_text}
use Rattle.metric.specs.Distance.{infinity}
use Rattle.network_model.specs.{World.Network, World.World, World.place_at, declared.route.Entry.Entry, declared.route.Entry.TheVariants.Local, declared.route.Entry.TheVariants.Via, declared.route.Entry.TheVariants.Unreachable, declared.item.Item.Item, declared.network.End.End}
use Rattle.serde_json.specs.Data.{Data, null, boolean, number, string, array, object, Members, no_members, member, put, unsigned}
use Rattle.serde_json.specs.{View.items_of, Written.compact_text}
use Rattle.texts.specs.Words.{Text}
use Rattle.script.specs.Directories.{Directory, name_text}
use Rattle.lines.specs.{Texts.kind_text, declared.records.LinkState.LinkState, declared.records.RouterState.RouterState}
use Rattle.run_states.specs.{declared.shown.MachineShown.MachineShown, declared.queue.QueueChange.QueueChange, declared.link_book.LinkChange.LinkChange, declared.router_book.RouterChange.RouterChange, declared.recorder.Changes.Changes, Queues.is_nothing}

-- a count, as a number
abbrev pub count_value : ℕ → Data
count_value n = number (unsigned n)

-- a word, as a string
abbrev pub word : Text → Data
word text = string text

-- values one after another, as an array
abbrev pub list : List Data → Data
list ds = array (items_of ds)

-- what is shown of a link: the costs from its ends A and B
abbrev pub link_data : ℕ → LinkState → Data
link_data l k =
    object (member (codes "costs") (list (count_value k.from_a ∷ count_value k.from_b ∷ []))
    (member (codes "link") (count_value l)
    (member (codes "session") (count_value k.session)
    (member (codes "up") (boolean k.up) no_members))))

-- what is shown of a router, with its number
abbrev pub router_data : ℕ → RouterState → Data
router_data i r =
    object (member (codes "generation") (count_value r.generation)
    (member (codes "held") (count_value r.held)
    (member (codes "notices") (count_value r.notices)
    (member (codes "ripe") (count_value r.ripe)
    (member (codes "router") (count_value i) no_members)))))

-- a distance; null where it is infinite
abbrev pub distance_data : ℕ → Data
distance_data d = if d == infinity then null else count_value d

-- the link at a router's port; null where there is no such port
abbrev pub port_data : World → ℕ → ℕ → Data
port_data w i q = option_map_or (λ p. count_value p.link) (place_at w i q) null

-- an entry: a word, or the link and the session that it leads over; null where there is none
abbrev pub entry_data : World → ℕ → Option Entry → Data
entry_data w i None = null
entry_data w i (Some Local) = word (codes "local")
entry_data w i (Some Unreachable) = word (codes "unreachable")
entry_data w i (Some (Via q session)) = list (port_data w i q ∷ count_value session ∷ [])

-- the links at these ports of a router
abbrev pub ports_data : World → ℕ → set.FinSet nat_cmp → Data
ports_data w i ports = list (map (port_data w i) (filter (set.contains ports) (range_with_len 0 32)))

-- what is shown of a router's machine for a prefix, whether a computation is under way or not
abbrev pub machine_members : World → ℕ → ℕ → MachineShown → Members
machine_members w i p m =
    member (codes "chosen") (entry_data w i m.chosen)
    (member (codes "fd") (distance_data (m.at).fd)
    (member (codes "prefix") (count_value p)
    (member (codes "published") (entry_data w i m.published)
    (member (codes "rd") (distance_data (m.at).rd)
    (member (codes "router") (count_value i) no_members)))))

-- what is shown of a router's machine for a prefix: the state and who is awaited, where a computation is under way
abbrev pub machine_data : World → ℕ → ℕ → MachineShown → Data
machine_data w i p m =
    object (option_map_or (λ origin.
    member (codes "active") (count_value origin)
    (member (codes "awaits") (ports_data w i m.awaited) (machine_members w i p m))) (m.at).origin (machine_members w i p m))

-- ---- queues

-- the number of a prefix; of one that is not among them, how many they are
abbrev pub number_of_prefix : Prefix → List Prefix → ℕ
number_of_prefix p ps = unwrap_or (position (λ other. prefix_eq other p) ps) (length ps)

-- the number of an end of a link: A is 0, and B is 1
abbrev pub number_of_end : End → ℕ
number_of_end End.A = 0
number_of_end End.B = 1

-- an item of a link: a word for its kind, and then a message's prefix and distance, or a cost
abbrev pub item_data : List Prefix → Item → Data
item_data ps (Item.Up session cost) = list (word (codes "up") ∷ count_value cost ∷ [])
item_data ps (Item.Down session) = list (word (codes "down") ∷ [])
item_data ps (Item.Cost session cost) = list (word (codes "cost") ∷ count_value cost ∷ [])
item_data ps (Item.Message m) = list (word (kind_text m.kind) ∷ count_value (number_of_prefix m.prefix ps) ∷ distance_data m.value ∷ [])

-- the items on their way, oldest first
abbrev pub items_data : List Prefix → List Item → Data
items_data ps items = list (map (item_data ps) items)

-- the members, and one more where something happened
abbrev pub put_if : Bool → Text → Data → Members → Members
put_if happened key d ms = if happened then put key d ms else ms

-- what became of the items that an end of a link has yet to take: what did not happen is not named
abbrev pub queue_data : List Prefix → ℕ → End → QueueChange → Data
queue_data ps l e c =
    object (put_if (nat_lt 0 (vec_len c.put)) (codes "put") (items_data ps (c.put).items)
    (put_if c.lose (codes "lose") (boolean true)
    (put_if (nat_lt 0 c.take) (codes "take") (count_value c.take)
    (put (codes "end") (count_value (number_of_end e))
    (put (codes "link") (count_value l) no_members)))))

-- ---- states

-- what is made of a value, where there is one
abbrev pub listed : {X : Type 0} → (X → Data) → Option X → List Data
listed f None = []
listed f (Some x) = f x ∷ []

-- the links that are others
abbrev pub links_data : List (ℕ × LinkChange) → List Data
links_data cs = flat_map (λ c. listed (link_data c.0) (c.1).shown) cs

-- the routers that are others
abbrev pub routers_data : List (ℕ × RouterChange) → List Data
routers_data cs = flat_map (λ c. listed (router_data c.0) (c.1).shown) cs

-- the machines that are others
abbrev pub machines_data : World → List (ℕ × RouterChange) → List Data
machines_data w cs = flat_map (λ c. map (λ m. machine_data w c.0 m.0 m.1) ((c.1).machines).items) cs

-- a queue, where something became of it
abbrev pub queue_listed : List Prefix → ℕ → End → QueueChange → List Data
queue_listed ps l e c = if is_nothing c then [] else queue_data ps l e c ∷ []

-- the queues of which something became, of a link those to its ends A and B
abbrev pub queues_data : List Prefix → List (ℕ × LinkChange) → List Data
queues_data ps cs = flat_map (λ c. queue_listed ps c.0 End.A (c.1).to_a ++ queue_listed ps c.0 End.B (c.1).to_b) cs

-- the members, and a list where it is not empty
abbrev pub put_list : Text → List Data → Members → Members
put_list key ds ms = put_if (nat_lt 0 (length ds)) key (list ds) ms

-- the members, and the text of a step where there is one
abbrev pub put_step : Option Text → Members → Members
put_step None ms = ms
put_step (Some text) ms = put (codes "step") (word text) ms

-- the members, and the moment of a step where one is known
abbrev pub put_moment : Option ℕ → Members → Members
put_moment None ms = ms
put_moment (Some moment) ms = put (codes "moment") (count_value moment) ms

-- a state: after how many steps it is, the last of them and its moment, and what has changed
abbrev pub state_data : World → List Prefix → ℕ → Option Text → Option ℕ → Changes → Data
state_data w ps k step moment c =
    object (put_list (codes "queues") (queues_data ps (c.links).items)
    (put_list (codes "machines") (machines_data w (c.routers).items)
    (put_list (codes "routers") (routers_data (c.routers).items)
    (put_list (codes "links") (links_data (c.links).items)
    (put_moment moment
    (put_step step
    (put (codes "number") (count_value k)
    (put (codes "kind") (word (codes "state")) no_members))))))))

-- what a network opens with: how many steps follow, and after how many of them there is a state each; the names of its routers, the routers
-- at the ends of its links, and its prefixes
abbrev pub opening_data : Network → Directory → List Prefix → ℕ → ℕ → Data
opening_data n d ps steps every =
    object (put (codes "prefixes") (list (map (λ p. word (prefix_text p)) ps))
    (put (codes "links") (list (map (λ k. list (count_value k.a ∷ count_value k.b ∷ [])) n.links))
    (put (codes "routers") (list (map (λ i. word (name_text d (Some i))) (range_with_len 0 n.routers)))
    (put (codes "every") (count_value every)
    (put (codes "steps") (count_value steps)
    (put (codes "format") (count_value 1)
    (put (codes "kind") (word (codes "opening")) no_members)))))))

-- a value on a line of its own
abbrev pub value_line : Data → Text
value_line d = compact_text d ++ 10 ∷ []
