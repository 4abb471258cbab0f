use Rattle.array_bitmap.proofs.PrefixNumbers.{covering_itself, shortest_writable, shortest_is_least}
use Rattle.array_bitmap.proofs.cursor.shortest_at.Goals as goal

pub returns-clause-addr : goal.returns-clause-addr
returns-clause-addr c =
    covering_itself c.args.addr c.covering.result c.covering.ensures.valid c.covering.ensures.covers c.ranges.addr.fits (shortest_writable c.args.addr c.covering.result.len c.covering.ensures.len)

pub returns-clause-shortest : goal.returns-clause-shortest
returns-clause-shortest c = shortest_is_least c.args.addr c.covering.result.len c.covering.ensures.len
