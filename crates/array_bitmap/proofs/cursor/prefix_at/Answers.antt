use Rattle.std.proofs.Common.{ℕ, ◌≡◌, ◌+◌, ◌-◌, ◌*◌, ◌/◌, ◌%◌, ◌^◌, ◌<◌, ◌≤◌, arith, ap, ◌∙◌}
use Rattle.array_bitmap.specs.Bits.{depth_of, path_start}
use Rattle.array_bitmap.proofs.{NextSpots.spot_path, NextSpots.spot_free, NextSpots.address_free, PrefixNumbers.covering_itself}
use Rattle.array_bitmap.proofs.cursor.prefix_at.Goals as goal

-- the path, as the code computes it
module _ (addr level five path f : ℕ) (fits : addr < 2 ^ 32) (small : five < 32) (deep : level ≤ 5) (path_is : path ≡ addr * 4) (f_is : f ≡ five) where
  path_computed : (path / 2 ^ (30 - 5 * level) * 32 + f) * 2 ^ (25 - 5 * level) % 18446744073709551616 ≡ (path_start (addr * 4) (depth_of level) * 32 + five) * 2 ^ (25 - 5 * level)
  path_computed =
      let e : 30 - 5 * level ≡ 34 - (4 + 5 * level) = omega arith in
      let above : path / 2 ^ (30 - 5 * level) ≡ path_start (addr * 4) (depth_of level) = ap (λ n. n / 2 ^ (30 - 5 * level)) path_is ∙ ap (λ k. addr * 4 / 2 ^ k) e in
      let all : (path / 2 ^ (30 - 5 * level) * 32 + f) * 2 ^ (25 - 5 * level) ≡ (path_start (addr * 4) (depth_of level) * 32 + five) * 2 ^ (25 - 5 * level) =
      ap (λ n. (n * 32 + f) * 2 ^ (25 - 5 * level)) above ∙ ap (λ n. (path_start (addr * 4) (depth_of level) * 32 + n) * 2 ^ (25 - 5 * level)) f_is in
      omega (arith, all, spot_path addr level five fits small deep)

pub overflow_cast-path-2 : goal.overflow_cast-path-2
overflow_cast-path-2 c =
    let fits : c.args.addr < 2 ^ 32 = omega (arith, c.ranges.addr) in
    omega (
      arith,
      path_computed c.args.addr c.args.level c.args.spot.five c.path_of.result c.from.result fits c.requires.small c.requires.deep c.path_of.ensures.value c.from.ensures,
      spot_path c.args.addr c.args.level c.args.spot.five fits c.requires.small c.requires.deep,
    )

pub returns-clause-addr : goal.returns-clause-addr
returns-clause-addr c =
    let fits : c.args.addr < 2 ^ 32 = omega (arith, c.ranges.addr) in
    let q = c.covering.result in
    let above : ℕ = path_start (c.args.addr * 4) (depth_of c.args.level) in
    let path = path_computed c.args.addr c.args.level c.args.spot.five c.path_of.result c.from.result fits c.requires.small c.requires.deep c.path_of.ensures.value c.from.ensures in
    let small = spot_path c.args.addr c.args.level c.args.spot.five fits c.requires.small c.requires.deep in
    let len : c.covering.result.len ≡ depth_of c.args.level + (c.args.spot.more + 1) = c.covering.ensures.len ∙ omega arith in
    let none = address_free ((path_start (c.args.addr * 4) (depth_of c.args.level) * 32 + c.args.spot.five) * 2 ^ (25 - 5 * c.args.level)) (depth_of c.args.level + (c.args.spot.more + 1)) c.requires.short
    (spot_free (path_start (c.args.addr * 4) (depth_of c.args.level)) c.args.level c.args.spot.five c.args.spot.more c.requires.start c.requires.deep c.requires.short) in
    let itself : c.covering.result.addr ≡ (c.path_of.result / 2 ^ (30 - 5 * c.args.level) * 32 + c.from.result) * 2 ^ (25 - 5 * c.args.level) % 18446744073709551616 / 4 =
    covering_itself ((c.path_of.result / 2 ^ (30 - 5 * c.args.level) * 32 + c.from.result) * 2 ^ (25 - 5 * c.args.level) % 18446744073709551616 / 4) c.covering.result
    c.covering.ensures.valid c.covering.ensures.covers (omega (arith, path, small))
    (ap (λ n. n / 4 % 2 ^ (32 - c.covering.result.len)) path
    ∙ ap (λ k. (path_start (c.args.addr * 4) (depth_of c.args.level) * 32 + c.args.spot.five) * 2 ^ (25 - 5 * c.args.level) / 4 % 2 ^ (32 - k)) len ∙ none.0) in
    ap (λ n. n * 4) itself ∙ ap (λ n. n / 4 * 4) path ∙ none.1
