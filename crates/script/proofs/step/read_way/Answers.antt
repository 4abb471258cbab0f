use Rattle.std.proofs.lemmas.Result.{IfErr-weaker}
use Rattle.script.proofs.StepTexts.{link_way}
use Rattle.script.proofs.step.read_way.Goals as goal

pub returns-clause-err : goal.returns-clause-err
returns-clause-err c =
    let words = rw c.in_ok-name.ensures.ok_part at c.two_words.ensures.some in
    IfErr-weaker c.way_between.result _ _ (λ e none. (
      none.0,
      λ verb router link h. none.1 router link (link_way c.args.names.now c.args.links.now verb c.in_ok-name.name.now c.in_ok-name.neighbour.now _ router link words h),
    )) c.way_between.ensures.err
