use Rattle.std.proofs.Common.{◌≡◌, take}
use Rattle.lookup_calls.proofs.prefixes.copy_blocks.Given as goal

abbrev pub invariant-loop-block : goal.invariant-loop-block
invariant-loop-block l = l.copied.items ≡ take l.block-index l.blocks
