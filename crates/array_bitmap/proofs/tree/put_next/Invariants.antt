use Rattle.std.proofs.Common.{ℕ, ◌≡◌, ◌≤◌, ◌<◌, cond, ◌==◌, vec_len}
use Rattle.array_bitmap.specs.{Words.len_of, Image.top_at}
use Rattle.array_bitmap.proofs.tree.put_next.Given as goal

abbrev pub invariant-loop-x : goal.invariant-loop-x
invariant-loop-x g l = record {
  inside : (x : ℕ) → l.from ≤ x → x < l.x → top_at l.tops.items x ≡ record (top_at l.fn.tops.items x)
      { best = cond (len_of (top_at l.fn.tops.items x).best == l.len) l.word (top_at l.fn.tops.items x).best };
  below : (x : ℕ) → x < l.from → top_at l.tops.items x ≡ top_at l.fn.tops.items x;
  len : vec_len l.tops ≡ vec_len l.fn.tops;
  above : (x : ℕ) → l.x ≤ x → top_at l.tops.items x ≡ top_at l.fn.tops.items x;
}
