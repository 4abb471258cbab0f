use Rattle.std.proofs.Common.{◌∙◌}
use Rattle.script.specs.Directories.{neighbours_of}
use Rattle.script.proofs.{Ranges.vectors_more, Ports.far_all}
use Rattle.script.proofs.directory.Directory.new.Goals as goal

pub loop-router-preserved : goal.loop-router-preserved
loop-router-preserved c =
    vectors_more (neighbours_of c.args.links.now) c.loop-router.neighbours.items c.push.new.self.items c.in_ok-neighbours_of.field-0 c.loop-router.router
    c.loop-router.invariant (c.in_ok-neighbours_of.ensures ∙ far_all c.loop-router.router c.args.links.now) c.in_ok-push.ensures.items
