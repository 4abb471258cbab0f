use Rattle.std.proofs.Common.{◌<◌, arith, inr, refl, length}
use Rattle.plans.specs.Faults.{IsUnreadFrom}
use Rattle.plans.proofs.Whole.{read_whole, read_longer, any_bytes}
use Rattle.plans.proofs.read.read_most.Goals as goal

pub returns-clause-whole : goal.returns-clause-whole
returns-clause-whole g c =
    let lt : length c.read_to_end.new.buf.items < c.take-reader.result.limit = omega (arith, c.len.ensures, c.if-len-most.false, c.take-reader.ensures.limit) in
    rw (← c.take-reader.ensures.inner) (read_whole (g.R.Read.remaining c.take-reader.result.inner) c.take-reader.result.limit c.new-bytes.result.items c.read_to_end.new.buf.items c.read_to_end.new.buf.items c.new-bytes.ensures.items c.in_default.ensures.bytes lt refl)

pub returns-in-Err-clause-fault : goal.returns-in-Err-clause-fault
returns-in-Err-clause-fault g c = any_bytes (g.R.Read.remaining c.args.reader) (λ bytes. IsUnreadFrom c.args.most bytes c.read_failure.result) (λ bytes. inr c.read_failure.ensures.unread)

pub returns-then-len-most-clause-fault : goal.returns-then-len-most-clause-fault
returns-then-len-most-clause-fault g c =
    let longer : c.args.most < length c.read_to_end.new.buf.items = omega (arith, c.len.ensures, c.if-len-most.true) in
    rw (← c.take-reader.ensures.inner) (read_longer (g.R.Read.remaining c.take-reader.result.inner) c.take-reader.result.limit c.args.most c.new-bytes.result.items c.read_to_end.new.buf.items c.new-bytes.ensures.items c.in_default.ensures.bytes longer)
