use Rattle.std.proofs.Common.{rules}
use Rattle.lookup_ffi.proofs.word_calls.tuhvondi_reader_lookup_words.Goals as goal

pub returns-clause-done : goal.returns-clause-done
returns-clause-done c = search rules
