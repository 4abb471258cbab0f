use Rattle.std.proofs.Common.{ℕ, ◌≡◌, ◌<◌, ◌↔◌, arith, subst}
use Rattle.std.specs.Int.{bit_at}
use Rattle.array_bitmap.specs.Bits.{width, row_bit}
use Rattle.array_bitmap.proofs.Covering.{covers_level, table_entry, covering}
use Rattle.array_bitmap.proofs.bits.covers.Goals as goal

pub returns-then-level-eq-LAST_LEVEL : goal.returns-then-level-eq-LAST_LEVEL
returns-then-level-eq-LAST_LEVEL c =
    rw ((table_entry c.args.five c.requires.small).1, c.if-level-eq-LAST_LEVEL.true) (covers_level c.args.five 5)

pub returns : goal.returns
returns c =
    let v = c.args.five in
    let level = c.args.level in
    let five : width level ≡ 5 = omega (arith, c.requires.deep, c.if-level-eq-LAST_LEVEL.false) in
    rw (table_entry v c.requires.small).0
    (λ k. subst (λ w. bit_at (covering v w) k ≡ 1 ↔ ((more : ℕ) × (more < width level) × (k ≡ row_bit v more))) five (covers_level v level k))
