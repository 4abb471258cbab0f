-- What looks at a world rest on: which routers are cut off from a prefix, as marks say, and which routers and prefixes an event does not concern.
use Rattle.std.specs.Prelude.{ℕ, ◌≡◌, ◌≢◌, ◌+◌, ◌*◌, ◌⊎◌, Bool, true, false, List, length, get_or, Option, Some, None, slice_get}
use Rattle.ipv4_prefix.specs.Prefix.{Prefix, prefix_eq}
use Rattle.network_model.specs.{declared.item.Item.Item, declared.item.Message.Message, declared.step.Step.Step, Step.front_at, World.World}
use Rattle.network_model.specs.declared.step.Step.TheVariants.{LinkUp, LinkDown, SetCost, Deliver, Publish, Release, Attach, Detach}
use Rattle.reachability.specs.{Marks.Marks, Marks.size, Rounds.IsLast, Ways.IsCutOff}
use Rattle.timed_reports.specs.{declared.spells.Spell.Spell, declared.spells.Watched.Watched}
use Rattle.timed_reports.specs.Records.{AreInOrder, AreLooked, MovesNoWay, moves_ways}

-- there is room for a mark of each router
abbrev pub HasRoomForMarks : World → Marks → Type 0
HasRoomForMarks w m = size m ≡ length w.routers

-- ---- computations

-- the step takes a message for this prefix
abbrev pub IsToldPrefix : World → Step → Prefix → Type 0
IsToldPrefix w (Deliver i q) p = (m : Message) × (front_at w i q ≡ Some (Item.Message m)) × (m.prefix ≡ p)
IsToldPrefix w _ p = ⊥

-- whether a router's machine for the prefix meets what the router takes: where a message is known to be for one prefix, its machine alone does, else each may
abbrev pub meets : Option Prefix → Prefix → Bool
meets None p = true
meets (Some q) p = prefix_eq p q

-- the machine is another router's, or it does not meet what router i takes
abbrev pub IsUnmet : ℕ → Option Prefix → Watched → Type 0
IsUnmet i told c = (c.router ≢ i) ⊎ (meets told c.prefix ≡ false)

-- the machine does not meet what the step takes
abbrev pub IsPassedBy : Step → Option Prefix → Watched → Type 0
IsPassedBy (Deliver i q) told c = IsUnmet i told c
IsPassedBy (LinkUp l) told c = Unit {0}
IsPassedBy (LinkDown l) told c = Unit {0}
IsPassedBy (SetCost i q cost) told c = Unit {0}
IsPassedBy (Publish i) told c = Unit {0}
IsPassedBy (Release i) told c = Unit {0}
IsPassedBy (Attach i p cost) told c = Unit {0}
IsPassedBy (Detach i p) told c = Unit {0}

-- ---- outages

-- the step moves ways to prefixes that are marked, and to no other
abbrev pub MarksMoved : World → Step → List Bool → Type 0
MarksMoved w s marks = (k : ℕ) (p : Prefix) → slice_get w.prefixes k ≡ Some p → get_or marks k false ≡ false → MovesNoWay w s p

-- there is a mark for each prefix
abbrev pub HasMarks : World → List Bool → Type 0
HasMarks w marks = length marks ≡ length w.prefixes

-- its prefix is one of these, and is not marked
abbrev pub IsUnmarked : List Prefix → List Bool → Watched → Type 0
IsUnmarked ps marks c = (k : ℕ) × (slice_get ps k ≡ Some c.prefix) × (get_or marks k false ≡ false)

-- another router published, and from it rows lead home, and no row leads to it: so nobody else is concerned
abbrev pub IsBeside : World → Step → Watched → Type 0
IsBeside v (Publish i) c = (c.router ≢ i) × IsLast v c.prefix i
IsBeside v _ c = ⊥

-- its prefix is not marked, or another router alone is concerned
abbrev pub IsSpared : World → Step → List Prefix → List Bool → Watched → Type 0
IsSpared v s ps marks c = IsUnmarked ps marks c ⊎ IsBeside v s c

-- the step moves no ways at all, or it is spared
abbrev pub IsStill : World → Step → List Bool → Watched → Type 0
IsStill v s marks c = (moves_ways s ≡ false) ⊎ IsSpared v s v.prefixes marks c

-- those of prefix number k were looked at too, unless they are spared
abbrev pub AreLookedFurther : World → Step → ℕ → List Prefix → List Bool → ℕ → List Watched → List Watched → List Spell → List Spell → Type 0
AreLookedFurther v s now ps marks k mid new between after = (old : List Watched) (before : List Spell) → AreInOrder (length v.routers) ps old
    → AreLooked IsCutOff v now (IsSpared v s ps marks) (k * length v.routers) old mid before between
    → AreLooked IsCutOff v now (IsSpared v s ps marks) (k * length v.routers + length v.routers) old new before after
