-- What the rows of C say, which faults they have, and the rows of answers.
use Rattle.std.specs.Prelude.{ℕ, ◌-◌, ◌%◌, ◌^◌, ◌==◌, nat_lt, if◌then◌else◌, Option, None, Some}
use Rattle.ipv4_prefix.specs.Prefix.{Prefix}
use Rattle.network_model.specs.{declared.route.Entry.Entry, declared.route.Entry.TheVariants.Local, declared.route.Entry.TheVariants.Via, declared.route.Entry.TheVariants.Unreachable}
use Rattle.c_interface.specs.{Faults.first_of, declared.fault.CallFault.CallFault, declared.fault.CallFault.TheVariants.BadLength, declared.fault.CallFault.TheVariants.HostBits, declared.fault.CallFault.TheVariants.BadKind, declared.row.Row.Row}

-- the first of the tests that a prefix fails, if any
abbrev pub prefix_fault : ℕ → ℕ → Option CallFault
prefix_fault addr len = if nat_lt 32 len then Some BadLength else if addr % 2 ^ (32 - len) == 0 then None else Some HostBits

-- the prefix of these numbers, where they are one
abbrev pub as_prefix : ℕ → ℕ → Prefix
as_prefix addr len = record { addr = addr; len = len }

-- the first of the tests that a row fails, if any
abbrev pub row_fault : Row → Option CallFault
row_fault r = first_of (prefix_fault r.addr r.len) (if nat_lt 2 r.kind then Some BadKind else None)

-- where packets go by a row: 0 is local, 1 via a port in a session, 2 unreachable
abbrev pub row_target : Row → Entry
row_target r = if r.kind == 0 then Local else if r.kind == 1 then Via r.port r.session else Unreachable

-- the prefix and the entry of a row
abbrev pub row_entry : Row → Prefix × Entry
row_entry r = (as_prefix r.addr r.len, row_target r)

-- the row that says where packets go: fields that the kind does not need are 0
abbrev pub entry_row : Prefix → Entry → Row
entry_row p Local = record { addr = p.addr; len = p.len; kind = 0; port = 0; session = 0 }
entry_row p (Via port session) = record { addr = p.addr; len = p.len; kind = 1; port = port; session = session }
entry_row p Unreachable = record { addr = p.addr; len = p.len; kind = 2; port = 0; session = 0 }

-- the row of an answer: kind 3 says that there is no row
abbrev pub answer_row : Option (Prefix × Entry) → Row
answer_row None = record { addr = 0; len = 0; kind = 3; port = 0; session = 0 }
answer_row (Some found) = entry_row found.0 found.1
