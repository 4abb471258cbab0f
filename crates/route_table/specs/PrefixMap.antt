-- What a map from prefixes shows: its rows in the order of the prefixes, and how many fit without memory.
use Rattle.std.specs.Prelude.{ℕ, List}
use Rattle.std.specs.Vec.{vec_capacity}
use Rattle.ipv4_prefix.specs.Prefix.{Prefix}
use Rattle.route_table.specs.declared.prefix_map.PrefixMap.{PrefixMap}

-- the rows of a map, in the order of their prefixes
abbrev pub map_rows : {X A : Type 0} → PrefixMap X A → List (Prefix × X)
map_rows m = (m.entries).items

-- how many rows a map has places for
abbrev pub map_capacity : {X A : Type 0} → PrefixMap X A → ℕ
map_capacity m = vec_capacity m.entries
