-- What one round over the links, or over the rows, adds to the routers that are marked.
use Rattle.std.specs.Prelude.{◌≡◌, ◌≢◌, ℕ, ◌<◌, Bool, true, false, List, Option, Some, None, is_some, slice_get, length, option_and_then}
use Rattle.std.specs.Option.{option_map_or}
use Rattle.ipv4_prefix.specs.Prefix.{Prefix}
use Rattle.network_model.specs.{declared.network.End.End, declared.route.Entry.Entry, declared.route.Entry.TheVariants.Local, declared.route.Entry.TheVariants.Via, declared.route.Entry.TheVariants.Unreachable, Forwarding.entry_leads}
use Rattle.network_model.specs.World.{Link, World, other, side, attachment_at}
use Rattle.no_packet_loops.specs.Packets.{published_entry}
use Rattle.reachability.specs.{Ways.HasWay, Ways.Reaches, Marks.is_in}

-- ---- links

-- only routers from which links lead to the prefix are marked
abbrev pub OnlyReached : World → Prefix → List Bool → Type 0
OnlyReached w p marks = (i : ℕ) → is_in marks i ≡ true → Reaches w p i

-- marks that stand for these keep what they say: only routers that reach a prefix are marked, and those that were marked are
pub record KeepsReach (w : World) (old new : List Bool) : Type 0 where
  pub only : (p : Prefix) → OnlyReached w p old → OnlyReached w p new
  pub kept : (i : ℕ) → is_in old i ≡ true → is_in new i ≡ true

-- every router that is attached to the prefix is marked
abbrev pub AllAttached : World → Prefix → List Bool → Type 0
AllAttached w p marks = (i cost : ℕ) → attachment_at w i p ≡ Some cost → is_in marks i ≡ true

-- router k, which is not marked, is at an end of link l, which is up, and the router at the other end is marked
pub record IsAddedBy (w : World) (marks : List Bool) (l k : ℕ) : Type 0 where
  pub link : Link
  pub at : slice_get w.links l ≡ Some link
  pub up : link.up ≡ true
  pub end : End
  pub near : (side end link).router ≡ k
  pub across : is_in marks (side (other end) link).router ≡ true
  pub fresh : is_in marks k ≡ false

-- if link l is up and one of its routers is marked, the other is too
abbrev pub AddsNone : World → List Bool → ℕ → Type 0
AddsNone w marks l = (k : Link) (e : End) → slice_get w.links l ≡ Some k → k.up ≡ true → is_in marks (side (other e) k).router ≡ true → is_in marks (side e k).router ≡ true

-- so it is at every link
abbrev pub IsClosed : World → List Bool → Type 0
IsClosed w marks = (l : ℕ) → l < length w.links → AddsNone w marks l

-- ---- rows

-- only routers from which published rows lead home are marked
abbrev pub OnlyRouted : World → Prefix → List Bool → Type 0
OnlyRouted w p marks = (i : ℕ) → is_in marks i ≡ true → HasWay w p i

-- whether this row of router i is a local one at a router that is attached, or leads to a router that is marked
abbrev pub row_leads : World → Prefix → List Bool → ℕ → Option Entry → Bool
row_leads w p marks i None = false
row_leads w p marks i (Some Local) = is_some (attachment_at w i p)
row_leads w p marks i (Some (Via q session)) = option_map_or (is_in marks) (entry_leads w i (Via q session)) false
row_leads w p marks i (Some Unreachable) = false

-- whether the row that router i published does
abbrev pub leads_home : World → Prefix → List Bool → ℕ → Bool
leads_home w p marks i = row_leads w p marks i (published_entry w i p)

-- if the row of router i leads home, it is marked
abbrev pub LeavesRow : World → Prefix → List Bool → ℕ → Type 0
LeavesRow w p marks i = leads_home w p marks i ≡ true → is_in marks i ≡ true

-- so it is of each router
abbrev pub AllRouted : World → Prefix → List Bool → Type 0
AllRouted w p marks = (i : ℕ) → i < length w.routers → LeavesRow w p marks i

-- ---- the last of a way

-- the router to which the row leads that router i published, if it leads to one
abbrev pub next_by_row : World → Prefix → ℕ → Option ℕ
next_by_row w p i = option_and_then (entry_leads w i) (published_entry w i p)

-- rows lead home from router i, and no row leads to it
abbrev pub IsLast : World → Prefix → ℕ → Type 0
IsLast w p i = HasWay w p i × ((j : ℕ) → next_by_row w p j ≢ Some i)
