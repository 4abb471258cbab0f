use Rattle.array_bitmap.proofs.NextSpots.{IsSpotTo}
use Rattle.array_bitmap.proofs.cursor.next_spot.Given as goal

abbrev pub invariant-loop-length : goal.invariant-loop-length
invariant-loop-length l = IsSpotTo (l.head).rows l.level l.five l.more l.length l.next
