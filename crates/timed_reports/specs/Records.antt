-- What is recorded of one kind of thing that goes on at routers for prefixes, and how a look at a world changes that.
use Rattle.std.specs.Prelude.{ℕ, ◌≡◌, ◌≢◌, ◌<◌, ◌≤◌, ◌⊎◌, ◌↔◌, IsTrue, Bool, true, false, List, [], ◌∷◌, ◌++◌, map, flat_map, length, take, Option, Some, None, option_map, option_to_list, slice_get, slice_set, unwrap_or}
use Rattle.std.specs.List.{list_any, range_with_len}
use Rattle.ipv4_prefix.specs.Prefix.{Prefix, prefix_eq}
use Rattle.network_model.specs.{declared.item.Item.Item, declared.item.Message.Message, declared.step.Step.Step, Step.front_at, Step.next, World.World}
use Rattle.network_model.specs.declared.step.Step.TheVariants.{LinkUp, LinkDown, SetCost, Deliver, Publish, Release, Attach, Detach}
use Rattle.no_packet_loops.specs.Packets.{control_entry, published_entry}
use Rattle.timed_simulation.specs.declared.events.Event.{Event}
use Rattle.timed_reports.specs.{declared.spells.Spell.Spell, declared.spells.Watched.Watched, Spells.IsSpell}

-- what may hold of a world for a prefix and a router
abbrev pub Kind : Type 1
Kind = Prefix → ℕ → World → Type 0

-- the element stands in the list
abbrev pub IsListed : {X : Type 0} → X → List X → Type 0
IsListed x xs = (place : ℕ) × (slice_get xs place ≡ Some x)

-- a spell at a router, for a prefix, from a moment to a moment
abbrev pub spell : ℕ → Prefix → ℕ → ℕ → Spell
spell i p from to = record { router = i; prefix = p; from = from; to = to }

-- a router and a prefix, and since when it holds of them, if it does
abbrev pub watched : ℕ → Prefix → Option ℕ → Watched
watched i p since = record { router = i; prefix = p; since = since }

-- it holds in this world of the router and the prefix
abbrev pub HoldsOf : Kind → World → Watched → Type 0
HoldsOf K w c = K c.prefix c.router w

-- there is one for each of so many routers and each of these prefixes
abbrev pub AreWatched : ℕ → List Prefix → List Watched → Type 0
AreWatched count ps cs = (p : Prefix) (i : ℕ) → i < count → list_any (prefix_eq p) ps ≡ true → (since : Option ℕ) × IsListed (watched i p since) cs

-- the router and the prefix that are watched
abbrev pub watched_at : Watched → Prefix × ℕ
watched_at c = (c.prefix, c.router)

-- each of so many routers with a prefix, by number
abbrev pub with_routers : ℕ → Prefix → List (Prefix × ℕ)
with_routers count p = map (λ i. (p, i)) (range_with_len 0 count)

-- there is just one for each of so many routers and each of these prefixes: by prefixes, as these stand, and then by routers
abbrev pub AreInOrder : ℕ → List Prefix → List Watched → Type 0
AreInOrder count ps cs = map watched_at cs ≡ flat_map (with_routers count) ps

-- of these routers and prefixes, in their order, those of which it held before an event and does not after it: each is a spell that ends with the event, since it began. These events led from the world w to the world v before
abbrev pub EndWith : Kind → World → List Event → World → Event → List (Prefix × ℕ) → List Spell → Type 0
EndWith K w es v e [] ss = ss ≡ []
EndWith K w es v e (c ∷ cs) ss =
    (((K c.0 c.1 v → ⊥) ⊎ K c.0 c.1 (next v e.step)) × EndWith K w es v e cs ss)
    ⊎ ((from : ℕ) × (rest : List Spell) × IsSpell (K c.0 c.1) from None w es × (K c.0 c.1 (next v e.step) → ⊥) × (ss ≡ spell c.1 c.0 from e.moment ∷ rest) × EndWith K w es v e cs rest)

-- what has ended with these events, which led from the world w to a world, once each and in turn: what ends with an event stands behind what ended before
pub data HaveEnded (K : Kind) (w : World) (cs : List (Prefix × ℕ)) : List Event → World → List Spell → Type 0 where
  AtFirst : HaveEnded K w cs [] w []
  OneMore : (es : List Event) (v : World) (e : Event) (past ended : List Spell) → HaveEnded K w cs es v past → EndWith K w es v e cs ended → HaveEnded K w cs (es ++ e ∷ []) (next v e.step) (past ++ ended)

-- the record is exact: these events lead from the world w to the world v. A spell that ended stands in the list if and only if there was one, once and in turn; what goes on stands there with the moment at which it began if and only if it does; and where none stands, it does not hold
pub record IsRecorded (K : Kind) (w : World) (es : List Event) (v : World) (past : List Spell) (cs : List Watched) : Type 0 where
  pub ended : (p : Prefix) (i from to : ℕ) → IsListed (spell i p from to) past ↔ IsSpell (K p i) from (Some to) w es
  pub in_turn : HaveEnded K w (map watched_at cs) es v past
  pub going_on : (p : Prefix) (i from : ℕ) → IsListed (watched i p (Some from)) cs ↔ IsSpell (K p i) from None w es
  pub resting : (p : Prefix) (i : ℕ) → IsListed (watched i p None) cs → K p i v → ⊥

-- ---- a look at a world

-- what is written of a router and a prefix at this moment: it goes on since it began, or begins now; or it does not hold
abbrev pub seen : ℕ → Bool → Watched → Watched
seen now true c = record c { since = Some (unwrap_or c.since now) }
seen now false c = record c { since = None }

-- the spell that ends by that, if one does
abbrev pub ended_by : ℕ → Bool → Watched → Option Spell
ended_by now true c = None
ended_by now false c = option_map (λ from. spell c.router c.prefix from now) c.since

-- it was looked at rightly
pub record IsSeen (K : Kind) (v : World) (now : ℕ) (c d : Watched) : Type 0 where
  pub holds : Bool
  pub rightly : IsTrue holds ↔ HoldsOf K v c
  pub written : d ≡ seen now holds c

-- one after another was looked at, but for some that are left aside, and these spells ended by that
abbrev pub EndByLooks : Kind → World → ℕ → (Watched → Type 0) → List Watched → List Spell → Type 0
EndByLooks K v now Aside [] ss = ss ≡ []
EndByLooks K v now Aside (c ∷ cs) ss =
    (Aside c × EndByLooks K v now Aside cs ss)
    ⊎ ((holds : Bool) × (rest : List Spell) × (IsTrue holds ↔ HoldsOf K v c) × (ss ≡ option_to_list (ended_by now holds c) ++ rest) × EndByLooks K v now Aside cs rest)

-- the first of these were looked at, but for some that are left aside. What ended by that was listed behind the others, and nothing else
pub record AreLooked (K : Kind) (v : World) (now : ℕ) (Aside : Watched → Type 0) (below : ℕ) (old new : List Watched) (before after : List Spell) : Type 0 where
  pub as_many : length new ≡ length old
  pub looked : (x : ℕ) (c d : Watched) → x < below → slice_get old x ≡ Some c → slice_get new x ≡ Some d → ((d ≡ c) × Aside c) ⊎ IsSeen K v now c d
  pub rest : (x : ℕ) → below ≤ x → slice_get new x ≡ slice_get old x
  pub ended : (ss : List Spell) × (after ≡ before ++ ss) × EndByLooks K v now Aside (take below old) ss

-- one was left aside, or it was looked at and what that says is written
abbrev pub IsLooked : Kind → World → ℕ → (Watched → Type 0) → ℕ → List Watched → List Watched → List Spell → List Spell → Type 0
IsLooked K v now Aside place old new before after = (c : Watched) → slice_get old place ≡ Some c
    → (Aside c × (new ≡ old) × (after ≡ before))
    ⊎ ((holds : Bool) × (IsTrue holds ↔ HoldsOf K v c) × (new ≡ slice_set old place (seen now holds c)) × (after ≡ before ++ option_to_list (ended_by now holds c)))

-- ---- which are left aside

-- a machine meets only what its own router takes, and of messages only those for its prefix; nothing else moves it
abbrev pub IsElsewhere : World → Step → Watched → Type 0
IsElsewhere w (Deliver i q) c = (c.router ≢ i) ⊎ ((m : Message) × (front_at w i q ≡ Some (Item.Message m)) × (prefix_eq c.prefix m.prefix ≡ false))
IsElsewhere w (LinkUp l) c = Unit {0}
IsElsewhere w (LinkDown l) c = Unit {0}
IsElsewhere w (SetCost i q cost) c = Unit {0}
IsElsewhere w (Publish i) c = Unit {0}
IsElsewhere w (Release i) c = Unit {0}
IsElsewhere w (Attach i p cost) c = Unit {0}
IsElsewhere w (Detach i p) c = Unit {0}

-- whether a step may move ways: links, attachments and published rows do
abbrev pub moves_ways : Step → Bool
moves_ways (SetCost i q cost) = false
moves_ways (Deliver i q) = false
moves_ways (Release i) = false
moves_ways _ = true

-- the step moves no way to the prefix, so whoever is cut off from it stays so, and nobody else becomes so: no link comes up or goes down, no row for the prefix is published that was not, and no attachment to it comes or goes
abbrev pub MovesNoWay : World → Step → Prefix → Type 0
MovesNoWay w (LinkUp l) p = ⊥
MovesNoWay w (LinkDown l) p = ⊥
MovesNoWay w (SetCost i q cost) p = Unit {0}
MovesNoWay w (Deliver i q) p = Unit {0}
MovesNoWay w (Publish i) p = control_entry w i p ≡ published_entry w i p
MovesNoWay w (Release i) p = Unit {0}
MovesNoWay w (Attach i q cost) p = prefix_eq p q ≡ false
MovesNoWay w (Detach i q) p = prefix_eq p q ≡ false
