use Rattle.std.proofs.Common.{ℕ, List, get_or, ◌≡◌, ◌+◌, ◌-◌, ◌*◌, ◌/◌, ◌^◌, ◌<◌, ◌≤◌, arith, ap, sym, subst, ◌∙◌, vec_len, length}
use Rattle.std.proofs.lemmas.List.{get_or_read}
use Rattle.array_bitmap.specs.{Bits.depth_of, Bits.path_start, Words.nothing, Words.found, Tree.word_at, Image.cells_of, Image.top_at, declared.tree.Top.Top}
use Rattle.bitmaps.specs.Greatest.{GreatestBelow}
use Rattle.array_bitmap.proofs.{ShortRows.start_small, Walks.block-first}
use Rattle.array_bitmap.proofs.tree.Tree.top.Goals as goal

-- the index, by the first bits, is one of the array
index_within : (path first len : ℕ) → first ≤ 3 → path < 2 ^ 34 → len ≡ 2 ^ depth_of first → path / 2 ^ (30 - 5 * first) < len
index_within path first len four fits e =
    let d : 34 - (4 + 5 * first) ≡ 30 - 5 * first = omega arith in
    rw (e, ← d) (start_small path (depth_of first) fits (omega arith))

pub index-requires : goal.index-requires
index-requires g c = index_within c.args.path c.args.self.now.first (vec_len c.args.self.now.tops) c.requires.sound.cells.four_sizes c.requires.fits c.requires.sound.tops

-- what was read is what stands in the array
read_top : (tops : List Top) (x x' : ℕ) (top : Top) → x < length tops → top ≡ get_or tops x top → x ≡ x' → top ≡ top_at tops x'
read_top tops x x' top h e same = get_or_read tops x top h e (record { best = nothing; block = 0 }) ∙ ap (top_at tops) same

-- the index, by the first bits
index_is : (path first : ℕ) → first ≤ 3 → path / 2 ^ (30 - 5 * first) ≡ path_start path (depth_of first)
index_is path first four = let e : 30 - 5 * first ≡ 34 - (4 + 5 * first) = omega arith in ap (λ n. path / 2 ^ n) e

pub returns-clause-block : goal.returns-clause-block
returns-clause-block g c =
    let t = c.args.self.now in
    let four = c.requires.sound.cells.four_sizes in
    let top : c.index.result.now ≡ top_at t.tops.items (path_start c.args.path (depth_of t.first)) =
    read_top t.tops.items (c.args.path / 2 ^ (30 - 5 * t.first)) (path_start c.args.path (depth_of t.first)) c.index.result.now (omega (arith, t.tops.ok.0, index_within c.args.path t.first (vec_len t.tops) four c.requires.fits c.requires.sound.tops)) c.index.ensures (index_is c.args.path t.first four) in
    ap (λ (x : Top). x.block) top ∙ sym (block-first (cells_of t) c.args.path)

pub returns-clause-best : goal.returns-clause-best
returns-clause-best g c =
    let t = c.args.self.now in
    let four = c.requires.sound.cells.four_sizes in
    let top : c.index.result.now ≡ top_at t.tops.items (path_start c.args.path (depth_of t.first)) =
    read_top t.tops.items (c.args.path / 2 ^ (30 - 5 * t.first)) (path_start c.args.path (depth_of t.first)) c.index.result.now (omega (arith, t.tops.ok.0, index_within c.args.path t.first (vec_len t.tops) four c.requires.fits c.requires.sound.tops)) c.index.ensures (index_is c.args.path t.first four) in
    subst (λ (x : Top). GreatestBelow (word_at (cells_of t) c.args.path) (depth_of t.first + 1) (found x.best)) (sym top) (c.requires.sound.cells.longest_shorts c.args.path c.requires.fits)
