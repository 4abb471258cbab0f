use Rattle.std.proofs.Common.{string_bytes, subst}
use Rattle.std.proofs.lemmas.Result.{on_ok_weaker}
use Rattle.view.specs.Shown.{IsShownInTime}
use Rattle.view.proofs.Written.{times_shown}
use Rattle.view.proofs.view.show_times.Goals as goal

pub returns : goal.returns
returns g c =
    let plan = c.in_ok-plan.plan in
    let lines = string_bytes c.in_ok-lines.lines in
    let old = g.W.Write.contents c.args.out.now in
    let new = g.W.Write.contents c.show_in_time.new.out in
    on_ok_weaker c.show_in_time.result
    (λ shown. (
      lines,
      c.in_ok-lines.ensures.whole,
      times_shown c.args.json c.args.text.now lines plan c.in_ok-plan.ensures.ok old new
          (subst (λ ls. IsShownInTime c.args.json plan.network plan.directory ls old new) c.as_str.ensures.value shown),
    ))
    c.show_in_time.ensures
