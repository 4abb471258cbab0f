use Rattle.std.proofs.Common.{◌+◌, ◌-◌, ◌*◌, ◌/◌, ◌%◌, ◌^◌, arith, ap, ◌∙◌}
use Rattle.std.proofs.lemmas.Nat.{mul-le}
use Rattle.word_pool.specs.Pool.{blocks}
use Rattle.array_bitmap.specs.Bits.{depth_of, path_start}
use Rattle.array_bitmap.proofs.Arrays.{end_within, end_whole, begin_whole, number_whole, number_within}
use Rattle.array_bitmap.proofs.ShortSet.{short_tree_sound, short_tree_sets}
use Rattle.array_bitmap.proofs.tree.Tree.set_short.Goals as goal

pub index_mut-requires : goal.index_mut-requires
index_mut-requires g c =
    let t = c.args.self.now in
    let four = c.requires.sound.cells.four_sizes in
    omega (arith, number_whole c.args.path c.args.len t.first c.requires.fits c.requires.short four, number_within c.args.path c.args.len t.first c.requires.fits c.requires.short four, c.requires.sound.shorts)

pub put_longest-requires-clause-within : goal.put_longest-requires-clause-within
put_longest-requires-clause-within g c =
    let t = c.args.self.now in
    let four = c.requires.sound.cells.four_sizes in
    omega (arith, end_whole c.args.path c.args.len t.first c.requires.fits c.requires.short four, end_within c.args.path c.args.len t.first c.requires.fits c.requires.short four, c.requires.sound.tops)

pub put_longest-requires-clause-ordered : goal.put_longest-requires-clause-ordered
put_longest-requires-clause-ordered g c =
    let t = c.args.self.now in
    let four = c.requires.sound.cells.four_sizes in
    let s = path_start c.args.path c.args.len in
    let w = 2 ^ (depth_of t.first - c.args.len) in
    omega (
      arith,
      end_whole c.args.path c.args.len t.first c.requires.fits c.requires.short four,
      begin_whole c.args.path c.args.len t.first c.requires.fits c.requires.short four,
      mul-le (path_start c.args.path c.args.len) (2 ^ (depth_of t.first - c.args.len)) (path_start c.args.path c.args.len + 1) (2 ^ (depth_of t.first - c.args.len)) (omega arith) (omega arith),
    )

pub returns-clause-sets : goal.returns-clause-sets
returns-clause-sets g c =
    let t = c.args.self.now in
    let four = c.requires.sound.cells.four_sizes in
    let number = number_whole c.args.path c.args.len t.first c.requires.fits c.requires.short four in
    short_tree_sets t.first (blocks t.pool) t.shorts.items t.tops.items c.put_longest.new.tops.items c.args.path c.args.len c.args.word
    (1 * 2 ^ c.args.len % 18446744073709551616 + c.args.path / 2 ^ (34 - c.args.len))
    (c.args.path / 2 ^ (34 - c.args.len) * 2 ^ (4 + 5 * t.first - c.args.len) % 18446744073709551616)
    ((c.args.path / 2 ^ (34 - c.args.len) + 1) * 2 ^ (4 + 5 * t.first - c.args.len) % 18446744073709551616)
    c.requires.sound.cells c.requires.fits c.requires.short c.requires.row
    (omega (arith, number, number_within c.args.path c.args.len t.first c.requires.fits c.requires.short four, c.requires.sound.shorts, t.shorts.ok.0))
    (ap (λ n. n + path_start c.args.path c.args.len) number)
    (begin_whole c.args.path c.args.len t.first c.requires.fits c.requires.short four) (end_whole c.args.path c.args.len t.first c.requires.fits c.requires.short four)
    c.put_longest.ensures.inside c.put_longest.ensures.below c.put_longest.ensures.above

pub returns-clause-sound : goal.returns-clause-sound
returns-clause-sound g c =
    let t = c.args.self.now in
    let four = c.requires.sound.cells.four_sizes in
    let number = number_whole c.args.path c.args.len t.first c.requires.fits c.requires.short four in
    record {
      cells = short_tree_sound t.first (blocks t.pool) t.shorts.items t.tops.items c.put_longest.new.tops.items c.args.path c.args.len c.args.word
          (1 * 2 ^ c.args.len % 18446744073709551616 + c.args.path / 2 ^ (34 - c.args.len))
          (c.args.path / 2 ^ (34 - c.args.len) * 2 ^ (4 + 5 * t.first - c.args.len) % 18446744073709551616)
          ((c.args.path / 2 ^ (34 - c.args.len) + 1) * 2 ^ (4 + 5 * t.first - c.args.len) % 18446744073709551616)
          c.requires.sound.cells c.requires.fits c.requires.short c.requires.row
          (omega (arith, number, number_within c.args.path c.args.len t.first c.requires.fits c.requires.short four, c.requires.sound.shorts, t.shorts.ok.0))
          (ap (λ n. n + path_start c.args.path c.args.len) number)
          (begin_whole c.args.path c.args.len t.first c.requires.fits c.requires.short four) (end_whole c.args.path c.args.len t.first c.requires.fits c.requires.short four)
          c.put_longest.ensures.inside c.put_longest.ensures.below c.put_longest.ensures.above;
      shorts = c.requires.sound.shorts;
      tops = c.put_longest.ensures.len ∙ c.requires.sound.tops;
    }
