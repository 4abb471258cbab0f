use Rattle.std.proofs.Common.{◌≡◌, All, IfOk, ap, subst, ◌∙◌, true, count_by}
use Rattle.std.specs.List.{list_any}
use Rattle.forwarder.specs.Gathering.{is_reply_to}
use Rattle.interpreter.proofs.Dispatching.{waiting_in}
use Rattle.interpreter.proofs.dispatcher.Dispatcher.drain.Given as given
use Rattle.interpreter.proofs.dispatcher.Dispatcher.drain.Goals as goal

-- the jobs of the workers are those that wait
jobs : (g : given.Over) (c : goal.After-drop-self-inside g) → c.in-Some.pool.jobs ≡ c.args.self.now.jobs
jobs g c = waiting_in (λ p. p.jobs) c.self.inside.pool c.in-Some.pool c.in-Some.ensures.value ∙ ap (λ d. d.jobs) c.self.view_is

pub returns-clause-each : goal.returns-clause-each
returns-clause-each g c = subst (λ js. IfOk c.drain-ports.result.1 (λ rs. All (λ j. count_by (is_reply_to j) rs.items ≡ 1) js)) (jobs g c) c.drain-ports.ensures.each

pub returns-clause-only : goal.returns-clause-only
returns-clause-only g c = subst (λ js. IfOk c.drain-ports.result.1 (λ rs. All (λ r. list_any (λ j. is_reply_to j r) js ≡ true) rs.items)) (jobs g c) c.drain-ports.ensures.only
