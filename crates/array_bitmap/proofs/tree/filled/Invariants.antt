use Rattle.std.proofs.Common.{◌≡◌, replicate, vec_len}
use Rattle.array_bitmap.proofs.tree.filled.Given as goal

abbrev pub invariant-loop-i : goal.invariant-loop-i
invariant-loop-i g l = record {
  items : l.values.items ≡ replicate l._i l.value;
  len : vec_len l.values ≡ l._i;
}
