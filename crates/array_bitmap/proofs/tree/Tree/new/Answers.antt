use Rattle.std.proofs.Common.{ℕ, List, ◌≡◌, ◌+◌, ◌*◌, ◌%◌, ◌^◌, ◌≤◌, get_or, replicate, ◌∙◌, arith, ap}
use Rattle.std.proofs.{lemmas.Nat.pow-add, lemmas.Nat.one_shl, Math.Nat.pow-le-pow_right}
use Rattle.word_pool.specs.Pool.{blocks}
use Rattle.array_bitmap.specs.{Bits.depth_of, Words.nothing, declared.tree.Top.Top}
use Rattle.array_bitmap.proofs.{ShortSet.array_cells, EmptyImage.empty_sound, EmptyImage.empty_rows, EmptyImage.copies_are}
use Rattle.array_bitmap.proofs.tree.Tree.new.Goals as goal

-- nothing in an index of the array
abbrev blank_top : Top
blank_top = record { best = nothing; block = 0 }

-- what is read of copies
of_copies : {T : Type 0} (xs : List T) (n k : ℕ) (a : T) → xs ≡ replicate n a → get_or xs k a ≡ a
of_copies xs n k a e = ap (λ ys. get_or ys k a) e ∙ copies_are n k a

-- the lengths
shorts_long : (first : ℕ) → first ≤ 3 → 2 * 2 ^ (4 + 5 * first) % 18446744073709551616 ≡ 2 ^ (depth_of first + 1)
shorts_long first four =
    let most : 2 ^ (4 + 5 * first) ≤ 2 ^ 19 = pow-le-pow_right {n = 2} (omega arith) {j = 19} (omega arith) in
    let one : 2 ^ (4 + 5 * first + 1) ≡ 2 ^ (4 + 5 * first) * 2 ^ 1 = pow-add 2 (4 + 5 * first) 1 in
    omega (arith, most, one)

pub returns-clause-sound : goal.returns-clause-sound
returns-clause-sound g c = record {
  cells = empty_sound (array_cells c.args.first (blocks c.in_ok-new.field-0) c.in_ok-filled.field-0.items c.in_ok-filled-2.field-0.items) c.requires
      (λ k. of_copies c.in_ok-filled.field-0.items (2 * 2 ^ (4 + 5 * c.args.first) % 18446744073709551616) k nothing c.in_ok-filled.ensures.items)
      (λ x. ap (λ (t : Top). t.best) (of_copies c.in_ok-filled-2.field-0.items (1 * 2 ^ (4 + 5 * c.args.first) % 18446744073709551616) x blank_top c.in_ok-filled-2.ensures.items))
      (λ x. ap (λ (t : Top). t.block) (of_copies c.in_ok-filled-2.field-0.items (1 * 2 ^ (4 + 5 * c.args.first) % 18446744073709551616) x blank_top c.in_ok-filled-2.ensures.items))
      c.in_ok-new.ensures.empty;
  shorts = c.in_ok-filled.ensures.len ∙ shorts_long c.args.first c.requires;
  tops = c.in_ok-filled-2.ensures.len ∙ one_shl (4 + 5 * c.args.first) 64 (omega (arith, c.requires));
}

pub returns-clause-empty : goal.returns-clause-empty
returns-clause-empty g c =
    empty_rows (array_cells c.args.first (blocks c.in_ok-new.field-0) c.in_ok-filled.field-0.items c.in_ok-filled-2.field-0.items) c.requires
    (λ k. of_copies c.in_ok-filled.field-0.items (2 * 2 ^ (4 + 5 * c.args.first) % 18446744073709551616) k nothing c.in_ok-filled.ensures.items)
    (λ x. ap (λ (t : Top). t.best) (of_copies c.in_ok-filled-2.field-0.items (1 * 2 ^ (4 + 5 * c.args.first) % 18446744073709551616) x blank_top c.in_ok-filled-2.ensures.items))
    (λ x. ap (λ (t : Top). t.block) (of_copies c.in_ok-filled-2.field-0.items (1 * 2 ^ (4 + 5 * c.args.first) % 18446744073709551616) x blank_top c.in_ok-filled-2.ensures.items))
    c.in_ok-new.ensures.empty
