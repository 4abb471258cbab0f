use Rattle.std.proofs.Common.{◌≡◌, take, vec_len, vec_capacity}
use Rattle.route_table.proofs.prefix_map.PrefixMap.copy.Given as goal

abbrev pub invariant-loop-entry : goal.invariant-loop-entry
invariant-loop-entry g l = record {
  so_far : (l.entries).items ≡ take l.entry-index l.self.entries.items;
  count : vec_len l.entries ≡ l.entry-index;
  room : vec_capacity l.entries ≡ l.room;
}
