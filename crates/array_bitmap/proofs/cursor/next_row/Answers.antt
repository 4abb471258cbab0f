use Rattle.std.proofs.Common.{ℕ, ◌≡◌, ◌+◌, ◌-◌, ◌*◌, ◌%◌, ◌^◌, ◌<◌, ◌≤◌, min, arith, ap, ◌∙◌}
use Rattle.std.proofs.lemmas.Nat.{one_shl}
use Rattle.array_bitmap.specs.Bits.{row_bit}
use Rattle.array_bitmap.proofs.NextSpots.{IsNextStart, next_start_is, value_shifted, values_end, values_few}
use Rattle.array_bitmap.proofs.cursor.next_row.Goals as goal

-- the number of values, as it is shifted
values : (more : ℕ) → more < 5 → 1 * 2 ^ (more + 1) % 4294967296 ≡ 2 ^ (more + 1)
values more few = one_shl (more + 1) 32 (omega arith)

-- where the row begins, by the bit that was found
found : (more from bit : ℕ) → more < 5 → from ≤ 2 ^ (more + 1) → 1 * 2 ^ (more + 1) % 4294967296 - 2 + from ≤ bit
    → bit - (1 * 2 ^ (more + 1) % 4294967296 - 2) < 1 * 2 ^ (more + 1) % 4294967296
    → IsNextStart more from bit ((bit - (1 * 2 ^ (more + 1) % 4294967296 - 2)) * 2 ^ (4 - more) % 4294967296)
found more from bit few within above less =
    let v = values more few in
    let x : ℕ = bit - (1 * 2 ^ (more + 1) % 4294967296 - 2) in
    let y : bit - (1 * 2 ^ (more + 1) % 4294967296 - 2) ≡ min (bit - (2 ^ (more + 1) - 2)) (2 ^ (more + 1)) = omega (arith, v, less) in
    next_start_is more from bit _ few within (omega (arith, v, above))
    (value_shifted more (bit - (1 * 2 ^ (more + 1) % 4294967296 - 2)) few (omega (arith, v, less)) ∙ ap (λ n. n * 2 ^ (4 - more)) y)

-- where none was found
none : (more from bit : ℕ) → more < 5 → from ≤ 2 ^ (more + 1) → 1 * 2 ^ (more + 1) % 4294967296 - 2 + from ≤ bit
    → 1 * 2 ^ (more + 1) % 4294967296 ≤ bit - (1 * 2 ^ (more + 1) % 4294967296 - 2) → IsNextStart more from bit 32
none more from bit few within above least =
    let v = values more few in
    let y : 2 ^ (more + 1) ≡ min (bit - (2 ^ (more + 1) - 2)) (2 ^ (more + 1)) = omega (arith, v, least) in
    next_start_is more from bit 32 few within (omega (arith, v, above)) (values_end more few ∙ ap (λ n. n * 2 ^ (4 - more)) y)

pub next_set-requires : goal.next_set-requires
next_set-requires c = omega (arith, values c.args.more c.requires.few, values_few c.args.more c.requires.few, c.requires.within)

pub returns-then-value-values-clause-bound : goal.returns-then-value-values-clause-bound
returns-then-value-values-clause-bound c =
    (found c.args.more c.args.from c.next_set.result c.requires.few c.requires.within c.next_set.ensures.from c.if-value-values.true).0

pub returns-then-value-values-clause-start : goal.returns-then-value-values-clause-start
returns-then-value-values-clause-start c =
    (found c.args.more c.args.from c.next_set.result c.requires.few c.requires.within c.next_set.ensures.from c.if-value-values.true).1

pub returns-then-value-values-clause-from : goal.returns-then-value-values-clause-from
returns-then-value-values-clause-from c =
    (found c.args.more c.args.from c.next_set.result c.requires.few c.requires.within c.next_set.ensures.from c.if-value-values.true).2

pub returns-then-value-values-clause-none : goal.returns-then-value-values-clause-none
returns-then-value-values-clause-none c = λ v s l h.
    let r = (found c.args.more c.args.from c.next_set.result c.requires.few c.requires.within c.next_set.ensures.from c.if-value-values.true).3 v s l h in
    c.next_set.ensures.none (row_bit v c.args.more) (omega (arith, values c.args.more c.requires.few, r.0)) r.1

pub returns-clause-start : goal.returns-clause-start
returns-clause-start c = (none c.args.more c.args.from c.next_set.result c.requires.few c.requires.within c.next_set.ensures.from c.if-value-values.false).1

pub returns-clause-from : goal.returns-clause-from
returns-clause-from c = (none c.args.more c.args.from c.next_set.result c.requires.few c.requires.within c.next_set.ensures.from c.if-value-values.false).2

pub returns-clause-none : goal.returns-clause-none
returns-clause-none c = λ v s l h.
    let r = (none c.args.more c.args.from c.next_set.result c.requires.few c.requires.within c.next_set.ensures.from c.if-value-values.false).3 v s l h in
    c.next_set.ensures.none (row_bit v c.args.more) (omega (arith, values c.args.more c.requires.few, r.0)) r.1
