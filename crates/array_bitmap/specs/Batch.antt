-- Rows that are set in one call, and taken back.
use Rattle.std.specs.Prelude.{ℕ, ◌≡◌, ◌≤◌, ◌<◌, T, List, length, take, slice_index_or, Option, Some, None}
use Rattle.std.specs.FinMap.{put, find as row_of, is_sorted}
use Rattle.ipv4_prefix.specs.Prefix.{Prefix, prefix_cmp}
use Rattle.network_model.specs.{declared.route.Entry.Entry, Publication.with_rows}
use Rattle.array_bitmap.specs.Removal.{without_row}

-- the rows in which a prefix has what it had before: an entry, or none
abbrev pub put_back : Prefix → Option Entry → List (Prefix × Entry) → List (Prefix × Entry)
put_back p None rows = without_row p rows
put_back p (Some entry) rows = put prefix_cmp p entry rows

-- the first rows of a list were set on a table, one after another, and what each prefix had before was noted
pub record IsNoted (table rows : List (Prefix × Entry)) (notes : List (Option Entry)) (now : List (Prefix × Entry)) : Type 0 where
  pub sorted : T (is_sorted prefix_cmp table)
  pub few : length notes ≤ length rows
  pub set : now ≡ with_rows (take (length notes) rows) table
  pub before : (k : ℕ) (r : Prefix × Entry) → k < length notes → r ≡ slice_index_or rows k r → slice_index_or notes k None ≡ row_of prefix_cmp r.0 (with_rows (take k rows) table)
