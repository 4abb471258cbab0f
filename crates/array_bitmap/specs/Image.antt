-- The words of a tree of the code, as functions, and its rows.
use Rattle.std.specs.Prelude.{ℕ, ◌≡◌, ◌≢◌, ◌+◌, ◌^◌, List, slice_index_or, vec_len}
use Rattle.word_pool.specs.Pool.{blocks}
use Rattle.ipv4_prefix.specs.Prefix.{Prefix}
use Rattle.network_model.specs.declared.route.Entry.{Entry}
use Rattle.array_bitmap.specs.{Bits.depth_of, Words.nothing, declared.tree.Tree.Tree, declared.tree.Top.Top, declared.tree.Stand.Stand}
use Rattle.array_bitmap.specs.Tree.{Cells, IsSoundCells, block_at, word_at, named, rows_of_cells}

-- what stands in the array at an index
abbrev pub top_at : List Top → ℕ → Top
top_at tops x = slice_index_or tops x (record { best = nothing; block = 0 })

-- the words of a tree
abbrev pub cells_of : {A : Type 0} → Tree A → Cells
cells_of tree = record {
  first = tree.first;
  shorts = λ k. slice_index_or tree.shorts.items k nothing;
  bests = λ x. (top_at tree.tops.items x).best;
  tops = λ x. (top_at tree.tops.items x).block;
  heap = blocks tree.pool;
}

-- they are sound, and the arrays are as long as the first bits want
pub record IsSoundTree {A : Type 0} (tree : Tree A) : Type 0 where
  pub cells : IsSoundCells (cells_of tree)
  pub shorts : vec_len tree.shorts ≡ 2 ^ (depth_of tree.first + 1)
  pub tops : vec_len tree.tops ≡ 2 ^ depth_of tree.first

-- the rows of a tree, in the order of their prefixes
abbrev pub rows_in : {A : Type 0} → Tree A → List (Prefix × Entry)
rows_in tree = rows_of_cells (cells_of tree)

-- a block stands on a path, so many levels below the first, and has this name
pub record IsStand (c : Cells) (path steps : ℕ) (stand : Stand) : Type 0 where
  pub at : block_at c path steps ≡ stand.block
  pub real : stand.block ≢ 0
  pub name : named c stand.holder stand.index ≡ stand.block

-- a block has no name now, and has its words still; the image is sound, and no row has changed
pub record LosesBlock (old new : Cells) (block : ℕ) : Type 0 where
  pub sound : IsSoundCells new
  pub same : (path len : ℕ) → word_at new path len ≡ word_at old path len
  pub unnamed : (p m : ℕ) → named new p m ≢ block
  pub stays : new.heap block ≡ old.heap block
  pub gone : (path steps : ℕ) → block_at old path steps ≡ block → block_at new path steps ≡ 0
