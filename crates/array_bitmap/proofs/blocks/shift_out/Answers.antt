use Rattle.std.proofs.Common.{rules}
use Rattle.array_bitmap.proofs.blocks.shift_out.Goals as goal

pub returns : goal.returns
returns g c = search rules
