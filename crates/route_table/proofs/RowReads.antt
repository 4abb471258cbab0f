-- What the two maps have at a prefix, by the row that is kept there.
use Rattle.std.proofs.Common.{◌≡◌, ℕ, ◌<◌, List, Option, IsNone, sym, ap, subst, ◌∙◌, true}
use Rattle.std.specs.{FinMap.find, FinMap.is_sorted, Option.option_map, Option.option_and_then}
use Rattle.ipv4_prefix.specs.Prefix.{Prefix, prefix_cmp}
use Rattle.network_model.specs.{declared.route.Entry.Entry, Step.changed_rows}
use Rattle.route_table.specs.declared.row.Row.{Row}
use Rattle.route_table.specs.Rows.{TableAndRoom, control_rows, table_of, differing_rows}
use Rattle.network_model.proofs.RowLaws.{find-map}
use Rattle.route_table.proofs.{InForce.find-published, Changed.changed_rows-table_of}

module _ (t : TableAndRoom) (rows : List (Prefix × Row)) (room : ℕ) (is : ◌≡◌ {A = TableAndRoom} (record { table = table_of rows; room = room }) t) where
  pub control_at : (p : Prefix) (row : Option Row) → find prefix_cmp p rows ≡ row → find prefix_cmp p (t.table).control ≡ option_map (λ r. r.control) row
  control_at p row there = ap (λ (t : TableAndRoom). find prefix_cmp p (t.table).control) (sym is) ∙ find-map prefix_cmp (λ (r : Row). r.control) p rows ∙ ap (option_map (λ (r : Row). r.control)) there

  pub published_at : (p : Prefix) (row : Option Row) → find prefix_cmp p rows ≡ row → is_sorted prefix_cmp rows ≡ true → find prefix_cmp p (t.table).published ≡ option_and_then (λ r. r.published) row
  published_at p row there s = ap (λ (t : TableAndRoom). find prefix_cmp p (t.table).published) (sym is) ∙ find-published p rows s ∙ ap (option_and_then (λ (r : Row). r.published)) there

  pub room_at : (p : Prefix) → (IsNone (find prefix_cmp p (t.table).control) → 0 < t.room) → IsNone (find prefix_cmp p (control_rows rows)) → 0 < room
  room_at p fits = subst (λ (t : TableAndRoom). IsNone (find prefix_cmp p (t.table).control) → 0 < t.room) (sym is) fits

  pub changed_at : (changed : List (Prefix × Entry)) → changed ≡ differing_rows rows → is_sorted prefix_cmp rows ≡ true → changed ≡ changed_rows t.table
  changed_at changed differing s = differing ∙ sym (changed_rows-table_of rows s) ∙ ap (λ (t : TableAndRoom). changed_rows t.table) is
