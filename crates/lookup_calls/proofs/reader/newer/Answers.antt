use Rattle.std.proofs.Common.{rules}
use Rattle.lookup_calls.proofs.reader.newer.Goals as goal

pub returns : goal.returns
returns c = search rules
