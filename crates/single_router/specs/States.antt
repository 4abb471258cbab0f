-- What a program is shown of its router.
use Rattle.std.specs.Prelude.{ℕ, Bool, List, map, length, if◌then◌else◌, Option, option_map, unwrap_or, is_some, option_and_then}
use Rattle.std.specs.{List.range_with_len, FinMap.find as row_of}
use Rattle.ipv4_prefix.specs.Prefix.{Prefix, prefix_cmp}
use Rattle.network_model.specs.{Machine.Machine, Machine.Computation, Step.changed_rows, Step.is_due, World.Router, World.Table, declared.route.Entry.Entry}
use Rattle.dual_machine.specs.State.{awaits_at}
use Rattle.c_interface.specs.{Rows.answer_row, declared.row.Row.Row}
use Rattle.single_router.specs.{declared.state.Counts.Counts, declared.state.State.State}

-- a fact as C has it
abbrev pub flag : Bool → ℕ
flag b = if b then 1 else 0

-- what a router has, in numbers
abbrev pub router_counts : Router → Counts
router_counts r = record {
  prefixes = length (r.table).control;
  changed = length (changed_rows r.table);
  held = length (r.gate).held;
  ripe = (r.gate).ripe;
  generation = r.generation;
  due = flag (is_due r);
}

-- whether the reply of a port is awaited
abbrev pub awaited_flag : Option Computation → ℕ → ℕ
awaited_flag c q = flag (awaits_at c q)

-- so for each of 32 ports
abbrev pub awaited_flags : Option Computation → List ℕ
awaited_flags c = map (awaited_flag c) (range_with_len 0 32)

-- the port to which a reply is owed, or 255
abbrev pub owed_port : Option Computation → ℕ
owed_port c = unwrap_or (option_and_then (λ k. k.debt) c) 255

-- the row of a prefix among rows
abbrev pub row_among : List (Prefix × Entry) → Prefix → Row
row_among rows p = answer_row (option_map (λ e. (p, e)) (row_of prefix_cmp p rows))

-- what a router shows of a prefix, by its machine
abbrev pub state_of : Table → Prefix → Machine → State
state_of t p m = record {
  rd = m.rd;
  fd = m.fd;
  attached = unwrap_or m.attachment 0;
  chosen = row_among t.control p;
  published = row_among t.published p;
  active = flag (is_some m.computation);
  owed = owed_port m.computation;
  awaited = awaited_flags m.computation;
}

-- what a router shows of a prefix, where it has heard of it
abbrev pub shown_state : Prefix → Router → Option State
shown_state p r = option_map (state_of r.table p) (row_of prefix_cmp p r.machines)
