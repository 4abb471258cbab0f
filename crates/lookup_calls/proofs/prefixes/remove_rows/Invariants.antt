use Rattle.std.proofs.Common.{◌≡◌, None, drop}
use Rattle.lookup_calls.specs.Prefixes.{first_block_fault, without_blocks}
use Rattle.lookup_calls.proofs.prefixes.remove_rows.Given as goal

abbrev pub invariant-loop-block : goal.invariant-loop-block
invariant-loop-block l = record {
  rest : first_block_fault (drop l.block-index l.blocks) ≡ None;
  generation : (l.image).generation ≡ l.fn.image.generation;
  rows : without_blocks (drop l.block-index l.blocks) (l.image).rows ≡ without_blocks l.blocks l.fn.image.rows;
}
