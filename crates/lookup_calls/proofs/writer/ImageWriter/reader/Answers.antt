use Rattle.std.proofs.Common.{rules}
use Rattle.lookup_calls.proofs.writer.ImageWriter.reader.Goals as goal

pub new-requires-clause-book : goal.new-requires-clause-book
new-requires-clause-book c = search rules
