use Rattle.std.proofs.Common.{ℕ, ◌≡◌, ◌+◌, ◌-◌, ◌*◌, ◌/◌, ◌%◌, ◌^◌, ◌<◌, ◌≤◌, length, List, get_or, slice_index_or, is_some, arith, ap, sym, ◌∙◌}
use Rattle.std.proofs.{lemmas.Nat.mul-le, lemmas.Bool.cond-false, lemmas.Bool.ne_eqb}
use Rattle.word_pool.specs.Pool.{blocks}
use Rattle.array_bitmap.specs.{Bits.depth_of, Bits.path_start, Words.nothing, Image.cells_of}
use Rattle.array_bitmap.proofs.Arrays.{end_within, end_whole, begin_whole, number_whole, number_within}
use Rattle.array_bitmap.proofs.ShortSet.{short_gone_tree_sound, short_gone_tree_sets, short_read, read_short}
use Rattle.array_bitmap.proofs.{ShortRows.nothing_shown, Stands.nothing_to_take}
use Rattle.array_bitmap.proofs.tree.Tree.remove_short.Goals as goal

-- the word that was read
was_read : (shorts : List ℕ) (path len first w : ℕ) → first ≤ 3 → path < 2 ^ 34 → len ≤ depth_of first → 2 ^ (depth_of first + 1) ≤ length shorts → w ≡ get_or shorts (1 * 2 ^ len % 18446744073709551616 + path / 2 ^ (34 - len)) w
    → w ≡ slice_index_or shorts (2 ^ len + path_start path len) nothing
was_read shorts path len first w four fits short long e =
    read_short shorts (1 * 2 ^ len % 18446744073709551616 + path / 2 ^ (34 - len)) (2 ^ len + path_start path len) w
    (omega (arith, number_whole path len first fits short four, number_within path len first fits short four, long)) e (ap (λ n. n + path_start path len) (number_whole path len first fits short four))

pub index-requires : goal.index-requires
index-requires g c =
    let t = c.args.self.now in
    let four = c.requires.sound.cells.four_sizes in
    omega (arith, number_whole c.args.path c.args.len t.first c.requires.fits c.requires.short four, number_within c.args.path c.args.len t.first c.requires.fits c.requires.short four, c.requires.sound.shorts)

pub returns-then-index-eq-NOTHING-clause-gone : goal.returns-then-index-eq-NOTHING-clause-gone
returns-then-index-eq-NOTHING-clause-gone g c =
    let t = c.args.self.now in
    let four = c.requires.sound.cells.four_sizes in
    nothing_to_take (cells_of t) c.args.path c.args.len (omega (arith, c.requires.short, four))
    (short_read (cells_of t) c.args.path c.args.len c.index.result.now c.requires.short
    (was_read t.shorts.items c.args.path c.args.len t.first c.index.result.now c.requires.sound.cells.four_sizes c.requires.fits c.requires.short (omega (arith, c.requires.sound.shorts, t.shorts.ok.0)) c.index.ensures)
    ∙ nothing_shown c.index.result.now c.if-index-eq-NOTHING.true)

pub returns-then-index-eq-NOTHING-clause-found : goal.returns-then-index-eq-NOTHING-clause-found
returns-then-index-eq-NOTHING-clause-found g c =
    let t = c.args.self.now in
    sym (ap is_some (short_read (cells_of t) c.args.path c.args.len c.index.result.now c.requires.short
    (was_read t.shorts.items c.args.path c.args.len t.first c.index.result.now c.requires.sound.cells.four_sizes c.requires.fits c.requires.short (omega (arith, c.requires.sound.shorts, t.shorts.ok.0)) c.index.ensures)
    ∙ nothing_shown c.index.result.now c.if-index-eq-NOTHING.true))

pub returns-clause-found : goal.returns-clause-found
returns-clause-found g c =
    let t = c.args.self.now in
    sym (ap is_some (short_read (cells_of t) c.args.path c.args.len c.index.result.now c.requires.short
    (was_read t.shorts.items c.args.path c.args.len t.first c.index.result.now c.requires.sound.cells.four_sizes c.requires.fits c.requires.short (omega (arith, c.requires.sound.shorts, t.shorts.ok.0)) c.index.ensures)
    ∙ cond-false _ _ _ (ne_eqb c.index.result.now nothing c.if-index-eq-NOTHING.false)))

pub index_mut-requires : goal.index_mut-requires
index_mut-requires g c =
    let t = c.args.self.now in
    let four = c.requires.sound.cells.four_sizes in
    omega (arith, number_whole c.args.path c.args.len t.first c.requires.fits c.requires.short four, number_within c.args.path c.args.len t.first c.requires.fits c.requires.short four, c.requires.sound.shorts)

pub put_next-requires-clause-within : goal.put_next-requires-clause-within
put_next-requires-clause-within g c =
    let t = c.args.self.now in
    let four = c.requires.sound.cells.four_sizes in
    omega (arith, end_whole c.args.path c.args.len t.first c.requires.fits c.requires.short four, end_within c.args.path c.args.len t.first c.requires.fits c.requires.short four, c.requires.sound.tops)

pub put_next-requires-clause-ordered : goal.put_next-requires-clause-ordered
put_next-requires-clause-ordered g c =
    let t = c.args.self.now in
    let four = c.requires.sound.cells.four_sizes in
    let s = path_start c.args.path c.args.len in
    let w = 2 ^ (depth_of t.first - c.args.len) in
    omega (
      arith,
      end_whole c.args.path c.args.len t.first c.requires.fits c.requires.short four,
      begin_whole c.args.path c.args.len t.first c.requires.fits c.requires.short four,
      mul-le (path_start c.args.path c.args.len) (2 ^ (depth_of t.first - c.args.len)) (path_start c.args.path c.args.len + 1) (2 ^ (depth_of t.first - c.args.len)) (omega arith) (omega arith),
    )

pub returns-clause-gone : goal.returns-clause-gone
returns-clause-gone g c =
    let t = c.args.self.now in
    let four = c.requires.sound.cells.four_sizes in
    let number = number_whole c.args.path c.args.len t.first c.requires.fits c.requires.short four in
    short_gone_tree_sets t.first (blocks t.pool) t.shorts.items t.tops.items c.put_next.new.tops.items c.args.path c.args.len c.longest_short-next.result
    (1 * 2 ^ c.args.len % 18446744073709551616 + c.args.path / 2 ^ (34 - c.args.len))
    (c.args.path / 2 ^ (34 - c.args.len) * 2 ^ (4 + 5 * t.first - c.args.len) % 18446744073709551616)
    ((c.args.path / 2 ^ (34 - c.args.len) + 1) * 2 ^ (4 + 5 * t.first - c.args.len) % 18446744073709551616)
    c.requires.sound.cells c.requires.fits c.requires.short c.longest_short-next.ensures
    (omega (arith, number, number_within c.args.path c.args.len t.first c.requires.fits c.requires.short four, c.requires.sound.shorts, t.shorts.ok.0))
    (ap (λ n. n + path_start c.args.path c.args.len) number)
    (begin_whole c.args.path c.args.len t.first c.requires.fits c.requires.short four) (end_whole c.args.path c.args.len t.first c.requires.fits c.requires.short four)
    c.put_next.ensures.inside c.put_next.ensures.below c.put_next.ensures.above

pub returns-clause-sound : goal.returns-clause-sound
returns-clause-sound g c =
    let t = c.args.self.now in
    let four = c.requires.sound.cells.four_sizes in
    let number = number_whole c.args.path c.args.len t.first c.requires.fits c.requires.short four in
    record {
      cells = short_gone_tree_sound t.first (blocks t.pool) t.shorts.items t.tops.items c.put_next.new.tops.items c.args.path c.args.len c.longest_short-next.result
          (1 * 2 ^ c.args.len % 18446744073709551616 + c.args.path / 2 ^ (34 - c.args.len))
          (c.args.path / 2 ^ (34 - c.args.len) * 2 ^ (4 + 5 * t.first - c.args.len) % 18446744073709551616)
          ((c.args.path / 2 ^ (34 - c.args.len) + 1) * 2 ^ (4 + 5 * t.first - c.args.len) % 18446744073709551616)
          c.requires.sound.cells c.requires.fits c.requires.short c.longest_short-next.ensures
          (omega (arith, number, number_within c.args.path c.args.len t.first c.requires.fits c.requires.short four, c.requires.sound.shorts, t.shorts.ok.0))
          (ap (λ n. n + path_start c.args.path c.args.len) number)
          (begin_whole c.args.path c.args.len t.first c.requires.fits c.requires.short four) (end_whole c.args.path c.args.len t.first c.requires.fits c.requires.short four)
          c.put_next.ensures.inside c.put_next.ensures.below c.put_next.ensures.above;
      shorts = c.requires.sound.shorts;
      tops = c.put_next.ensures.len ∙ c.requires.sound.tops;
    }
