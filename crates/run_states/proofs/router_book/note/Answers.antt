use Rattle.std.proofs.Common.{refl}
use Rattle.run_states.proofs.Books.{shows_same}
use Rattle.run_states.proofs.router_book.note.Goals as goal

pub returns-clause-shows : goal.returns-clause-shows
returns-clause-shows c = λ r p shows. (c.in-Some.before, refl, shows_same r p c.in-Some.before c.args.now (c.is_same.ensures c.if-is_same.true) shows)
