-- A table of which some changed rows are published, and one that forgets a prefix.
use Rattle.std.specs.Prelude.{ℕ, take}
use Rattle.ipv4_prefix.specs.Prefix.{Prefix}
use Rattle.network_model.specs.{Publication.with_rows, Step.changed_rows, World.Table}
use Rattle.route_table.specs.Place.{without}

-- a table with the first n of its changed rows in force
abbrev pub with_some_published : ℕ → Table → Table
with_some_published n t = record t { published = with_rows (take n (changed_rows t)) t.published }

-- a table without the rows of the prefix
abbrev pub without_rows : Prefix → Table → Table
without_rows p t = record { control = without p t.control; published = without p t.published }
