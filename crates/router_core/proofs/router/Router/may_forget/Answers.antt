use Rattle.std.proofs.Common.{◌≡◌, length, Some, sym, ap, subst, ◌∙◌, rules}
use Rattle.network_model.proofs.Common.{prefix_cmp, Router, option_map, option_copied, find as row_of}
use Rattle.router_core.specs.Parts.{IsRouter}
use Rattle.router_core.proofs.Kept.{length-found}
use Rattle.router_core.proofs.router.Router.may_forget.Goals as goal

pub knows_nothing-requires-clause-ports : goal.knows_nothing-requires-clause-ports
knows_nothing-requires-clause-ports g c =
    let r = c.args.self.now in
    let m = c.in-Some.machine.now.machine in
    let found : row_of prefix_cmp c.args.prefix r.machines ≡ Some m = sym c.machine.ensures ∙ ap (λ o. option_map (λ m. m.machine) (option_copied o)) c.in-Some.is in
    let ports : c.len.result ≡ length r.ports = c.len.ensures ∙ c.self.inside.ports.ok.0 ∙ ap (λ (r : Router). length r.ports) c.self.view_is in
    length-found r c.args.prefix m (subst IsRouter c.self.view_is c.self.invariant) found ∙ sym ports

pub returns-in_default : goal.returns-in_default
returns-in_default g c = search rules

pub returns-then-knows_nothing : goal.returns-then-knows_nothing
returns-then-knows_nothing g c = search rules

pub returns-else-knows_nothing : goal.returns-else-knows_nothing
returns-else-knows_nothing g c = search rules
