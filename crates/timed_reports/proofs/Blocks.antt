-- Where routers and prefixes stand that are watched in order: by prefixes, and then by routers.
use Rattle.std.proofs.Common.{sym, ap, ◌∙◌, arith, ◌≡◌, ◌≢◌, ℕ, zero, suc, ◌+◌, ◌-◌, ◌*◌, ◌<◌, ◌≤◌, List, [], ◌∷◌, ◌++◌, flat_map, length, length-append, Option, Some, option_map, slice_get}
use Rattle.no_packet_loops.proofs.Common.{None_not_Some, Some_injective, length-map, listed_at, slice_get-map, Prefix, length-map-range_with_len, mul-le-mul_right, suc-mul, some_pair_parts, append_within}
use Rattle.timed_reports.specs.{declared.spells.Watched.Watched, Records.AreInOrder, Records.watched_at, Records.with_routers}

-- an element behind the first list
append_past : {A : Type 0} (xs ys : List A) (j : ℕ) → slice_get (xs ++ ys) (length xs + j) ≡ slice_get ys j
append_past [] ys j = let same : 0 + j ≡ j = omega arith in ap (slice_get ys) same
append_past (x ∷ xs) ys j = let next : length (x ∷ xs) + j ≡ suc (length xs + j) = omega arith in ap (slice_get (x ∷ xs ++ ys)) next ∙ append_past xs ys j

module _ (n : ℕ) where
  many_rows : (p : Prefix) → length (with_routers n p) ≡ n
  many_rows p = length-map-range_with_len {X = Prefix × ℕ} (λ i. (p, i)) 0 n

  -- as many as there are prefixes, times the routers
  rows_of_all : (ps : List Prefix) → length (flat_map (with_routers n) ps) ≡ length ps * n
  rows_of_all [] = let none : 0 ≡ 0 * n = omega arith in none
  rows_of_all (p ∷ ps) =
      let first = many_rows p in
      let rest = rows_of_all ps in
      let both : length (with_routers n p ++ flat_map (with_routers n) ps) ≡ length (with_routers n p) + length (flat_map (with_routers n) ps) = length-append (with_routers n p) (flat_map (with_routers n) ps) in
      let more = suc-mul (length ps) n in
      omega (arith, first, rest, both, more)

  -- router i with prefix number k
  at_block : (ps : List Prefix) (k i : ℕ) (p : Prefix) → slice_get ps k ≡ Some p → i < n → slice_get (flat_map (with_routers n) ps) (k * n + i) ≡ Some (p, i)
  at_block [] k i p at below = absurd (None_not_Some at)
  at_block (q ∷ ps) zero i p at below =
      let same : q ≡ p = Some_injective at in
      let here : 0 * n + i ≡ i = omega arith in
      let many = many_rows q in
      let found : slice_get (with_routers n q) i ≡ Some (q, i) = listed_at {X = Prefix × ℕ} (λ j. (q, j)) n i below in
      let turned : ◌≡◌ {A = Option (Prefix × ℕ)} (Some (q, i)) (Some (p, i)) = λ j. Some (same j, i) in
      ap (slice_get (with_routers n q ++ flat_map (with_routers n) ps)) here ∙ append_within (with_routers n q) (flat_map (with_routers n) ps) i (omega (arith, many, below)) ∙ found ∙ turned
  at_block (q ∷ ps) (suc k) i p at below =
      let many = many_rows q in
      let more = suc-mul k n in
      let past : suc k * n + i ≡ length (with_routers n q) + (k * n + i) = omega (arith, many, more) in
      ap (slice_get (with_routers n q ++ flat_map (with_routers n) ps)) past ∙ append_past (with_routers n q) (flat_map (with_routers n) ps) (k * n + i) ∙ at_block ps k i p at below

  module _ (ps : List Prefix) (cs : List Watched) (order : AreInOrder n ps cs) where
    pub many_watched : length cs ≡ length ps * n
    many_watched = sym (length-map cs watched_at) ∙ ap (λ (xs : List (Prefix × ℕ)). length xs) order ∙ rows_of_all ps

    -- the routers of each prefix are all there
    pub block_fits : (k : ℕ) → k < length ps → k * n + n ≤ length cs
    block_fits k below =
        let up_to : (k + 1) * n ≤ length ps * n = mul-le-mul_right n (omega arith) in
        let many = many_watched in
        omega (arith, up_to, many)

    module _ (k : ℕ) (p : Prefix) (at : slice_get ps k ≡ Some p) (x : ℕ) (c : Watched) (from : k * n ≤ x) (below : x < k * n + n) (there : slice_get cs x ≡ Some c) where
      -- whatever stands among those of a prefix is of it, and of the router of that place
      pub of_block : (c.prefix ≡ p) × (c.router ≡ x - k * n)
      of_block =
          let place : k * n + (x - k * n) ≡ x = omega (arith, from) in
          let is : ◌≡◌ {A = Option (Prefix × ℕ)} (Some (c.prefix, c.router)) (Some (p, x - k * n))
          = sym (slice_get-map watched_at cs x ∙ ap (option_map watched_at) there) ∙ ap (λ (xs : List (Prefix × ℕ)). slice_get xs x) order ∙ ap (slice_get (flat_map (with_routers n) ps)) (sym place) ∙ at_block ps k (x - k * n) p at (omega (arith, from, below)) in
          some_pair_parts c.prefix p c.router (x - k * n) is

      pub of_other : (i : ℕ) → x ≢ k * n + i → c.router ≢ i
      of_other i apart = λ (same : c.router ≡ i).
          let router = of_block.1 in
          apart (omega (arith, from, router, same))
