use Rattle.std.proofs.Common.{position, ap, ◌∙◌}
use Rattle.network_model.specs.Network.{joins}
use Rattle.script.proofs.ReadLines.{first_is}
use Rattle.script.proofs.step.link_between.Goals as goal

pub returns-in_err-link : goal.returns-in_err-link
returns-in_err-link c =
    c.from_residual.ensures ∙ c.in_err-link.ensures.value ∙ ap (position (joins c.args.a c.args.b)) (first_is c.args.links.now 1024 c.min.result c.min.ensures)

pub returns : goal.returns
returns c = c.in_ok-link.ensures.value ∙ ap (position (joins c.args.a c.args.b)) (first_is c.args.links.now 1024 c.min.result c.min.ensures)
