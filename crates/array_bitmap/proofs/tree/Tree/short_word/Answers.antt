use Rattle.std.proofs.Common.{◌+◌, ◌-◌, ◌*◌, ◌/◌, ◌%◌, ◌^◌, arith, ap}
use Rattle.array_bitmap.specs.{Bits.path_start, Image.cells_of}
use Rattle.array_bitmap.proofs.{Arrays.number_whole, Arrays.number_within, ShortSet.short_read, ShortSet.read_short}
use Rattle.array_bitmap.proofs.tree.Tree.short_word.Goals as goal

pub index-requires : goal.index-requires
index-requires g c =
    let t = c.args.self.now in
    let four = c.requires.sound.cells.four_sizes in
    omega (arith, number_whole c.args.path c.args.len t.first c.requires.fits c.requires.short four, number_within c.args.path c.args.len t.first c.requires.fits c.requires.short four, c.requires.sound.shorts)

pub returns : goal.returns
returns g c =
    let t = c.args.self.now in
    let four = c.requires.sound.cells.four_sizes in
    short_read (cells_of t) c.args.path c.args.len c.index.result.now c.requires.short
    (read_short t.shorts.items (1 * 2 ^ c.args.len % 18446744073709551616 + c.args.path / 2 ^ (34 - c.args.len)) (2 ^ c.args.len + path_start c.args.path c.args.len) c.index.result.now
    (omega (arith, number_whole c.args.path c.args.len t.first c.requires.fits c.requires.short four, number_within c.args.path c.args.len t.first c.requires.fits c.requires.short four, c.requires.sound.shorts, t.shorts.ok.0))
    c.index.ensures (ap (λ n. n + path_start c.args.path c.args.len) (number_whole c.args.path c.args.len t.first c.requires.fits c.requires.short four)))
