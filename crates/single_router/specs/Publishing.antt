-- What a publication gives to a program, and why it is refused; and why a prefix is not forgotten.
use Rattle.std.specs.Prelude.{◌≡◌, ℕ, ◌+◌, ◌^◌, Bool, ◌==◌, nat_lt, if◌then◌else◌, List, map, length, take, drop, Option, Some, None, is_some}
use Rattle.std.specs.FinMap.{find as row_of}
use Rattle.ipv4_prefix.specs.Prefix.{Prefix, prefix_cmp}
use Rattle.network_model.specs.{Step.changed_rows, Step.is_due, Step.router_publishing, World.Router, declared.route.Entry.Entry}
use Rattle.router_core.specs.Alone.{router_publishing_some, may_forget}
use Rattle.c_interface.specs.{Rows.entry_row, declared.fault.CallFault.CallFault, declared.row.Row.Row}
use Rattle.c_interface.specs.declared.fault.CallFault.TheVariants.{BadCount, NothingDue, GenerationsSpent, UnknownPrefix, StillUsed}

-- a list of rows was written over the first of those that were there
pub record IsWrittenOver (list : List (Prefix × Entry)) (old new : List Row) : Type 0 where
  pub first : take (length list) new ≡ map (λ r. entry_row r.0 r.1) list
  pub rest : drop (length list) new ≡ drop (length list) old

-- so many rows do not fit into a list of this length
abbrev pub room_fault : ℕ → ℕ → Option CallFault
room_fault rows room = if nat_lt room rows then Some BadCount else None

-- ---- a publication

-- whether there are more rows to put in force than a list of this length takes
abbrev pub has_more : ℕ → Router → Bool
has_more room r = nat_lt room (length (changed_rows r.table))

-- why a router puts nothing in force. Of rows that do not all fit it puts those in force that do, if there is room for any
abbrev pub publish_fault : ℕ → Router → Option CallFault
publish_fault room r =
    if has_more room r then (if room == 0 then Some BadCount else None)
    else if is_due r then (if nat_lt (r.generation + 1) (2 ^ 64) then None else Some GenerationsSpent)
    else Some NothingDue

-- the rows that a program is given, in the order of their prefixes: all that changed, or the first that fit
abbrev pub rows_given : ℕ → Router → List (Prefix × Entry)
rows_given room r = take room (changed_rows r.table)

-- the router then. Only where all its rows are given has it published, and may what it holds leave
abbrev pub router_given : ℕ → Router → Router
router_given room r = if has_more room r then router_publishing_some room r else router_publishing r

-- ---- a prefix that is forgotten

-- why a router does not forget a prefix: it has not heard of it, or may not
abbrev pub forget_fault : Prefix → Router → Option CallFault
forget_fault p r = if is_some (row_of prefix_cmp p r.machines) then (if may_forget p r then None else Some StillUsed) else Some UnknownPrefix
