use Rattle.std.proofs.Common.{sym}
use Rattle.run_states.proofs.Same.{router_same, option_same}
use Rattle.run_states.proofs.shown.router_news.Goals as goal

pub returns-then-eq : goal.returns-then-eq
returns-then-eq c = option_same _ router_same _ _ (sym c.if-eq.ensures)
