use Rattle.std.proofs.Common.{◌≡◌, ◌+◌, ◌*◌, ◌/◌, ◌%◌, ◌^◌, ◌-◌, ◌≤◌, arith, ap, sym, subst, rules}
use Rattle.array_bitmap.specs.{Bits.depth_of, Bits.path_start, Words.found, Tree.word_at, Image.cells_of}
use Rattle.bitmaps.specs.Greatest.{GreatestBelow}
use Rattle.array_bitmap.proofs.{ShortSet.longer_short, ShortSet.same_short, ShortSet.read_short, Arrays.number_whole, Arrays.number_within}
use Rattle.array_bitmap.proofs.tree.Tree.longest_short.Goals.{then-word-ne-NOTHING, else-word-ne-NOTHING}
use Rattle.array_bitmap.proofs.tree.Tree.longest_short.Goals as goal

pub index-word-requires : goal.index-word-requires
index-word-requires g c =
    let t = c.args.self.now in
    let four = c.requires.sound.cells.four_sizes in
    let few = c.requires.short in
    omega (arith, number_whole c.args.path c.loop-above.above t.first c.requires.fits (omega (arith, few)) four, number_within c.args.path c.loop-above.above t.first c.requires.fits (omega (arith, few)) four, c.requires.sound.shorts)

pub loop-above-preserved : goal.loop-above-preserved
loop-above-preserved g c =
    let t = c.args.self.now in
    let four = c.requires.sound.cells.four_sizes in
    let few = c.requires.short in
    let long = c.requires.sound.shorts in
    let above = c.loop-above.above in
    let within : c.loop-above.above ≤ depth_of t.first = omega (arith, few) in
    let read : c.index-word.result.now ≡ (cells_of t).shorts (2 ^ c.loop-above.above + path_start c.args.path c.loop-above.above) =
    read_short t.shorts.items (1 * 2 ^ c.loop-above.above % 18446744073709551616 + c.args.path / 2 ^ (34 - c.loop-above.above)) (2 ^ c.loop-above.above + path_start c.args.path c.loop-above.above) c.index-word.result.now
    (omega (arith, number_whole c.args.path c.loop-above.above t.first c.requires.fits within four, number_within c.args.path c.loop-above.above t.first c.requires.fits within four, long, t.shorts.ok.0))
    c.index-word.ensures (ap (λ n. n + path_start c.args.path c.loop-above.above) (number_whole c.args.path c.loop-above.above t.first c.requires.fits within four)) in
    elim c.if-word-ne-NOTHING.branch [
      | then-word-ne-NOTHING w ↦
          subst (λ b. GreatestBelow (word_at (cells_of t) c.args.path) (c.loop-above.above + 1) (found b)) (sym w.best-is)
          (longer_short (cells_of t) c.requires.sound.cells c.args.path c.loop-above.above c.loop-above.best c.index-word.result.now c.requires.fits within read c.loop-above.invariant w.if-word-ne-NOTHING.true)
      | else-word-ne-NOTHING w ↦
          subst (λ b. GreatestBelow (word_at (cells_of t) c.args.path) (c.loop-above.above + 1) (found b)) (sym w.best-is)
          (same_short (cells_of t) c.requires.sound.cells c.args.path c.loop-above.above c.loop-above.best c.index-word.result.now c.requires.fits within read c.loop-above.invariant w.if-word-ne-NOTHING.false)
    ]

pub returns : goal.returns
returns g c = search rules
