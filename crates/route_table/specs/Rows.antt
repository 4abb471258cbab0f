-- The two maps of a router, as they are kept in one list of rows.
use Rattle.std.specs.Prelude.{◌≡◌, ℕ, ◌≤◌, Bool, false, not, List, [], ◌∷◌, Some, map, filter, length, option_map, if◌then◌else◌}
use Rattle.std.specs.{FinMap.put, List.filter_map, Option.option_map_or}
use Rattle.ipv4_prefix.specs.Prefix.{Prefix, prefix_cmp}
use Rattle.network_model.specs.{declared.route.Entry.Entry, World.Table, Step.entry_eq}
use Rattle.route_table.specs.{Place.without, declared.row.Row.Row}

-- the two maps, and how many new prefixes fit without memory
pub record TableAndRoom : Type 0 where
  pub table : Table
  pub room : ℕ

-- each row with the entry that the router chose
abbrev pub control_rows : List (Prefix × Row) → List (Prefix × Entry)
control_rows rows = map (λ r. (r.0, (r.1).control)) rows

-- each published row with the entry in force
abbrev pub published_rows : List (Prefix × Row) → List (Prefix × Entry)
published_rows rows = filter_map (λ r. option_map (λ e. (r.0, e)) (r.1).published) rows

-- the two maps that the rows make
abbrev pub table_of : List (Prefix × Row) → Table
table_of rows = record { control = control_rows rows; published = published_rows rows }

-- whether the entry that was chosen is not the one in force
abbrev pub differs : Row → Bool
differs r = not (option_map_or (λ e. entry_eq e r.control) r.published false)

-- the control rows that differ from the published ones
abbrev pub differing_rows : List (Prefix × Row) → List (Prefix × Entry)
differing_rows rows = control_rows (filter (λ r. differs r.1) rows)

-- the changed rows once a row is put: it is one of them exactly where it differs
abbrev pub with_change : Prefix → Row → List (Prefix × Entry) → List (Prefix × Entry)
with_change p row changed = if differs row then put prefix_cmp p row.control changed else without p changed

-- a row whose chosen entry is in force
abbrev pub row_in_force : Entry → Row
row_in_force e = record { control = e; published = Some e }

-- the rows after each of these is put, with its entry in force
abbrev pub with_in_force : List (Prefix × Entry) → List (Prefix × Row) → List (Prefix × Row)
with_in_force [] rows = rows
with_in_force (c ∷ cs) rows = with_in_force cs (put prefix_cmp c.0 (row_in_force c.1) rows)

-- the changed rows are those that differ, and there is room for each row to change
pub record IsTable (rows : List (Prefix × Row)) (row_capacity : ℕ) (changed : List (Prefix × Entry)) (changed_capacity : ℕ) : Type 0 where
  pub differing : changed ≡ differing_rows rows
  pub can_change : length rows ≤ changed_capacity
  pub can_be_kept : changed_capacity ≤ row_capacity
