use Rattle.std.proofs.Common.{sym, ap, ◌∙◌}
use Rattle.std.specs.Option.{is_some}
use Rattle.std.proofs.lemmas.Bool.{true≢false, false≢true}
use Rattle.route_table.proofs.RowReads.{control_at, published_at}
use Rattle.route_table.proofs.table.RouteTable.set.Goals as goal

-- the prefix is known
pub write-requires-clause-in_force : goal.write-requires-clause-in_force
write-requires-clause-in_force g c = sym (published_at _ _ _ c.self.view_is _ _ (sym c.get.ensures ∙ c.in-Some.is) c.self.inside.rows.sorted)

pub write-requires-clause-fits : goal.write-requires-clause-fits
write-requires-clause-fits g c unknown = absurd (true≢false (sym (ap is_some (control_at _ _ _ c.self.view_is _ _ (sym c.get.ensures ∙ c.in-Some.is))) ∙ unknown))

-- it is new
pub returns-in_err-reserve-in-None-clause-known : goal.returns-in_err-reserve-in-None-clause-known
returns-in_err-reserve-in-None-clause-known g c known = absurd (false≢true (sym (ap is_some (control_at _ _ _ c.self.view_is _ _ (sym c.get.ensures ∙ c.in-None.is))) ∙ known))

pub write-requires-in-None-clause-in_force : goal.write-requires-in-None-clause-in_force
write-requires-in-None-clause-in_force g c = rw c.reserve.ensures.table (sym (published_at _ _ _ c.self.view_is _ _ (sym c.get.ensures ∙ c.in-None.is) c.self.inside.rows.sorted))
