use Rattle.std.proofs.Common.{sym, ◌∙◌, []}
use Rattle.std.proofs.lemmas.Bool.{false≢true, not-true}
use Rattle.reachability.proofs.ByRows.{way_from_row, way_on}
use Rattle.reachability.proofs.rows.is_last.Goals as goal

pub returns-then-leads_home : goal.returns-then-leads_home
returns-then-leads_home g c = λ none. (
  c.loop.invariant (way_from_row c.args.world.now c.args.prefix [] c.loop.at (sym c.leads_home.ensures ∙ c.if-leads_home.true) (λ i is. absurd (false≢true is))),
  c.is_met.ensures (not-true c.is_met.result none),
)

pub loop-preserved : goal.loop-preserved
loop-preserved g c = λ way. c.loop.invariant (way_on c.args.world.now c.args.prefix c.loop.at c.in-Some.next (sym c.next_by_row.ensures ∙ c.in-Some.is) way)
