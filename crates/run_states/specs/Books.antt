-- Books of what was shown: what a change makes of one, and when one shows its link or its router as it is.
use Rattle.std.specs.Prelude.{◌≡◌, ◌&&◌, ℕ, All, List, [], ◌∷◌, Bool, false, true, Option, Some, None, slice_get, slice_set, vec_len}
use Rattle.std.specs.{Option.option_map_or, FinMap.find as row_of}
use Rattle.ipv4_prefix.specs.Prefix.{Prefix, prefix_cmp, prefix_eq}
use Rattle.network_model.specs.{Machine.Machine, declared.item.Item.Item, World.Link, World.Router}
use Rattle.lines.specs.{declared.records.LinkState.LinkState, declared.records.RouterState.RouterState, States.link_state, States.router_state}
use Rattle.run_states.specs.{declared.shown.MachineShown.MachineShown, declared.link_book.LinkBook.LinkBook, declared.link_book.LinkChange.LinkChange, declared.router_book.RouterBook.RouterBook, declared.router_book.RouterChange.RouterChange, Queues.has_message, Queues.queue_after, Shown.ShowsMachine}

-- what is shown after a change: what it says, or where it says nothing what was shown before
abbrev pub shown_after : {X : Type 0} → Option X → Option X → Option X
shown_after None before = before
shown_after (Some now) before = Some now

-- ---- links

-- what a book shows of its link, whatever it marks: the link itself, and what its ends A and B have yet to take
abbrev pub link_shows : LinkBook → Option LinkState × List Item × List Item
link_shows b = (b.shown, (b.to_a).items, (b.to_b).items)

-- the book becomes this by the change. The messages of a queue are told as lost exactly if the book was cut and the queue had one
pub record LinkFollows (c : LinkChange) (before after : LinkBook) : Type 0 where
  pub shown : after.shown ≡ shown_after c.shown before.shown
  pub to_a : (after.to_a).items ≡ queue_after c.to_a (before.to_a).items
  pub to_b : (after.to_b).items ≡ queue_after c.to_b (before.to_b).items
  pub lost_a : (c.to_a).lose ≡ (before.is_cut && has_message (before.to_a).items)
  pub lost_b : (c.to_b).lose ≡ (before.is_cut && has_message (before.to_b).items)

-- the book shows the link as it is
pub record ShowsLink (k : Link) (b : LinkBook) : Type 0 where
  pub shown : b.shown ≡ Some (link_state k)
  pub to_a : (b.to_a).items ≡ (k.a).inbox
  pub to_b : (b.to_b).items ≡ (k.b).inbox

-- ---- routers

-- what a book shows of its router, whatever it marks: the router itself, and its machines
abbrev pub router_shows : RouterBook → Option RouterState × List (Option MachineShown)
router_shows b = (b.shown, (b.machines).items)

-- nothing was shown of a router, and of none of its machines
pub record IsBlankRouter (b : RouterBook) : Type 0 where
  pub shown : b.shown ≡ None
  pub machines : All (λ (m : Option MachineShown). m ≡ None) (b.machines).items

-- what is shown of machines after these changes, each of the machine at a place
abbrev pub machines_after : List (ℕ × MachineShown) → List (Option MachineShown) → List (Option MachineShown)
machines_after [] shown = shown
machines_after (c ∷ cs) shown = machines_after cs (slice_set shown c.0 (Some c.1))

-- the book becomes this by the change
pub record RouterFollows (c : RouterChange) (before after : RouterBook) : Type 0 where
  pub shown : after.shown ≡ shown_after c.shown before.shown
  pub machines : (after.machines).items ≡ machines_after (c.machines).items (before.machines).items

-- a place of a router's machines shows the machine for a prefix
abbrev pub ShowsPlace : Router → Prefix → ℕ → List (Option MachineShown) → Type 0
ShowsPlace r p j shown = (s : MachineShown) × (slice_get shown j ≡ Some (Some s)) × ShowsMachine r p s

-- for each of these prefixes that a router has not heard of, no machine is shown
abbrev pub ShowsNoOther : Router → List Prefix → List (Option MachineShown) → Type 0
ShowsNoOther r prefixes shown = (j : ℕ) (p : Prefix) → slice_get prefixes j ≡ Some p → row_of prefix_cmp p r.machines ≡ None → slice_get shown j ≡ Some None

-- what is shown of a router's machines for these prefixes: for those that it has heard of what they are, and for the others none
pub record ShowsMachines (r : Router) (prefixes : List Prefix) (shown : List (Option MachineShown)) : Type 0 where
  pub heard : (j : ℕ) (p : Prefix) (m : Machine) → slice_get prefixes j ≡ Some p → row_of prefix_cmp p r.machines ≡ Some m → ShowsPlace r p j shown
  pub unheard : ShowsNoOther r prefixes shown

-- the same of the machines that are not marked. For a prefix that the router has not heard of none is shown, also where the place is marked
pub record ShowsUnmarked (r : Router) (prefixes : List Prefix) (marks : List Bool) (shown : List (Option MachineShown)) : Type 0 where
  pub heard : (j : ℕ) (p : Prefix) (m : Machine) → slice_get prefixes j ≡ Some p → row_of prefix_cmp p r.machines ≡ Some m → slice_get marks j ≡ Some false
      → ShowsPlace r p j shown
  pub unheard : ShowsNoOther r prefixes shown

-- the book shows the router, which has yet to take so many notices, as it is
pub record ShowsRouter (prefixes : List Prefix) (r : Router) (notices : ℕ) (b : RouterBook) : Type 0 where
  pub shown : b.shown ≡ Some (router_state r notices)
  pub machines : ShowsMachines r prefixes (b.machines).items

-- a router's book has a place and a mark for each of so many prefixes
pub record HasPlaces (n : ℕ) (b : RouterBook) : Type 0 where
  pub machines : vec_len b.machines ≡ n
  pub marks : vec_len b.marks ≡ n

-- whether a prefix is the one that is given, or none is
abbrev pub matches_prefix : Option Prefix → Prefix → Bool
matches_prefix which p = option_map_or (prefix_eq p) which true

-- the router's book is marked, and some of its machines: those that are not marked now were not before, and this is so of their prefixes
pub record MachinesMarked (Spared : Prefix → Type 0) (prefixes : List Prefix) (before after : RouterBook) : Type 0 where
  pub shown : after.shown ≡ before.shown
  pub machines : after.machines ≡ before.machines
  pub places : vec_len after.marks ≡ vec_len before.marks
  pub is_marked : after.is_marked ≡ true
  pub spared : (j : ℕ) (p : Prefix) → slice_get prefixes j ≡ Some p → slice_get (after.marks).items j ≡ Some false
      → (slice_get (before.marks).items j ≡ Some false) × Spared p
