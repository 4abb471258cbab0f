use Rattle.std.proofs.Common.{◌≡◌, drop}
use Rattle.lookup_calls.specs.Prefixes.{first_block_fault}
use Rattle.lookup_calls.proofs.prefixes.check_blocks.Given as goal

abbrev pub invariant-loop-block : goal.invariant-loop-block
invariant-loop-block l = first_block_fault (drop l.block-index l.blocks) ≡ first_block_fault l.blocks
