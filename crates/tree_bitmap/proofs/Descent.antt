-- Look-ups on their way down.
use Rattle.std.proofs.Common.{ℕ, Bool, true, false, ◌≡◌, ◌≢◌, ◌+◌, ◌*◌, ◌<◌, ◌≤◌, ◌==◌, ◌↔◌, min, bit_and, Some, None, arith, refl, sym, ap, ◌∙◌, if◌then◌else◌}
use Rattle.std.specs.Int.{bit_at}
use Rattle.std.proofs.{lemmas.Bool.true≢false, lemmas.Bool.false≢true, lemmas.Bool.eqb-true, lemmas.Nat.Bits.bit_at-zero}
use Rattle.node_pool.specs.Pool.{cell}
use Rattle.tree_bitmap.specs.{Bits.nibble, Bits.internal_bit, Bits.lengths_within, Hit.bit_place, Hit.hit_place, Tree.path_node, declared.tree.Tree.Tree, declared.node.Node.Node, declared.lanes.Hit.Hit, declared.lanes.Lane.Lane}
use Rattle.tree_bitmap.specs.Lane.{IsReadTo, IsBest, root_lane, longer_hit}
use Rattle.tree_bitmap.proofs.{Covering.longest_in, LongestRow.best_after, LongestRow.best_last, Paths.root_at}
use Rattle.bitmaps.proofs.Options.{none≢some}

module _ {A : Type 0} (tree : Tree A) where
  -- after nine levels the longest row is found
  pub lane_best : (lane : Lane) → IsReadTo tree 9 lane → IsBest tree (lane.addr * 16) 33 lane.hit
  lane_best lane l = either_way lane.live l.best l.done
    where
      either_way : (b : Bool) → (b ≡ true → IsBest tree (lane.addr * 16) 33 lane.hit) → (b ≡ false → IsBest tree (lane.addr * 16) 33 lane.hit) → IsBest tree (lane.addr * 16) 33 lane.hit
      either_way true live dead = live refl
      either_way false live dead = dead refl

  -- at the root no node has been read
  pub root_is_lane : (addr : ℕ) → IsReadTo tree 0 (root_lane addr)
  root_is_lane addr = record {
    at = λ e. root_at (cell tree.pool.nodes) (addr * 16);
    best = λ e. at_root;
    done = λ e. absurd (true≢false e);
  }
    where
      at_root : IsBest tree (addr * 16) (min (4 * 0) 33) (root_lane addr).hit
      at_root None top = λ k h. absurd (omega arith)
      at_root (Some bit) top = absurd (let z : bit_at 0 bit ≡ 0 = bit_at-zero bit in omega (arith, z, top.1))

  -- one node more is read
  pub hit_after : (path depth four j cover : ℕ) (a : Node) (above : Hit) → depth ≤ 8
      → path_node (cell tree.pool.nodes) path depth ≡ Some j → cell tree.pool.nodes j ≡ Some a → four < 16 → four ≡ nibble path depth
      → ((k : ℕ) → k < 16 → bit_at cover k ≡ 1 ↔ ((len : ℕ) × (len < lengths_within depth) × (k ≡ internal_bit four len)))
      → IsBest tree path (min (4 * depth) 33) above
      → IsBest tree path (min (4 * (depth + 1)) 33) (longer_hit (bit_and a.internal cover) a depth above)
  hit_after path depth four j cover a above deep at here small f covered best = by_test (bit_and a.internal cover == 0) refl
    where
      matched : ℕ
      matched = bit_and a.internal cover

      by_test : (b : Bool) → (matched == 0) ≡ b → IsBest tree path (min (4 * (depth + 1)) 33) (if b then above else (record { matched = matched; internal = a.internal; result_base = a.result_base; depth = depth }))
      by_test true none = λ bit top.
          best_after (cell tree.pool.nodes) path depth four j a None (hit_place above bit) (hit_place above bit) deep at here f
          (longest_in a four depth cover small covered None (eqb-true matched 0 none)) (λ none. best bit top) refl
      by_test false some = with_match
        where
          new : Hit
          new = record { matched = matched; internal = a.internal; result_base = a.result_base; depth = depth }

          with_match : IsBest tree path (min (4 * (depth + 1)) 33) new
          with_match None top = absurd (false≢true (sym some ∙ ap (λ m. m == 0) top))
          with_match (Some bit) top =
              best_after (cell tree.pool.nodes) path depth four j a (bit_place a (Some bit)) None (hit_place new (Some bit)) deep at here f
              (longest_in a four depth cover small covered (Some bit) top) (λ none. absurd (none≢some _ _ none refl)) refl

  -- the last node is read
  pub hit_last : (path depth four j : ℕ) (a : Node) (hit : Hit) → depth ≤ 8 → path_node (cell tree.pool.nodes) path depth ≡ Some j → cell tree.pool.nodes j ≡ Some a
      → four ≡ nibble path depth → bit_at a.external four ≢ 1 → IsBest tree path (min (4 * (depth + 1)) 33) hit → IsBest tree path 33 hit
  hit_last path depth four j a hit deep at here f unset best = λ bit top.
      best_last (cell tree.pool.nodes) path depth four j a (hit_place hit bit) deep at here f unset (best bit top)
