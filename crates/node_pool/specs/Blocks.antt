-- What the calls of a pool of nodes and results do to each of its two pools.
use Rattle.std.specs.Prelude.{ℕ, ◌≡◌, ◌≢◌, ◌+◌, ◌-◌, ◌<◌, ◌≤◌, None, Result, IsOk, IfOk, OnOk, OnErr}
use Rattle.node_pool.specs.{Cell.IsFilled, declared.pool.Pool.Pool, declared.pools.NodePool.NodePool, declared.pools.Block.Block, declared.pools.Block.TheVariants.Nodes, declared.pools.Block.TheVariants.Results}
use Rattle.node_pool.specs.Pool.{cell, cell_count, room, free_blocks, KeepsCells, IsNoLarger, IsBehind, IsTaken, IsUsedBlock}

module _ {T A : Type 0} where
  -- A block of `size` cells is taken, which were free, or the call is refused, as there was less room. A free block of the size is taken before there are more cells.
  pub record TakesBlock {E : Type 0} (old new : Pool T A) (size : ℕ) (value : T) (result : Result ℕ E) : Type 0 where
    pub ok : IfOk result (λ base. IsTaken (cell old) (cell new) base size value)
    pub err : OnErr result (KeepsCells old new)
    pub again : 0 < free_blocks old size → IsOk result × IsNoLarger old new
    pub more : free_blocks old size ≡ 0 → IfOk result (λ base. IsBehind old new base size)
    pub fewer : OnOk result (free_blocks new size ≡ free_blocks old size - 1)
    pub others : (s : ℕ) → 0 < s → s ≢ size → free_blocks new s ≡ free_blocks old s
    pub cost : room old ≤ room new + size
    pub full : OnErr result (room old < size)

  -- a block is free now, and all other cells stay
  pub record GivesBlock (old new : Pool T A) (base size : ℕ) : Type 0 where
    pub freed : IsFilled (cell old) (cell new) base size None
    pub count : cell_count new ≡ cell_count old
    pub no_cost : room new ≡ room old
    pub one_more : free_blocks new size ≡ free_blocks old size + 1
    pub others : (s : ℕ) → 0 < s → s ≢ size → free_blocks new s ≡ free_blocks old s

module _ {N R A : Type 0} where
  -- every cell of a block is in use
  abbrev pub IsOut : NodePool N R A → Block → Type 0
  IsOut pool (Nodes base size) = (0 < size) × (size ≤ 16) × IsUsedBlock (cell pool.nodes) base size
  IsOut pool (Results base size) = (0 < size) × (size ≤ 15) × IsUsedBlock (cell pool.results) base size

  -- the block is free now, and nothing else has changed
  abbrev pub IsGivenBack : NodePool N R A → NodePool N R A → Block → Type 0
  IsGivenBack old new (Nodes base size) = GivesBlock old.nodes new.nodes base size × (new.results ≡ old.results)
  IsGivenBack old new (Results base size) = GivesBlock old.results new.results base size × (new.nodes ≡ old.nodes)
