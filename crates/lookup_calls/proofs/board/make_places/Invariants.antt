use Rattle.std.proofs.Common.{◌≡◌, All}
use Rattle.lookup_calls.proofs.board.make_places.Given as goal

abbrev pub invariant-loop : goal.invariant-loop
invariant-loop l = All (λ p. p.page.book ≡ l.fn.past.book) l.places.items
