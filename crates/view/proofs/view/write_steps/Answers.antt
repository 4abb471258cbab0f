use Rattle.std.proofs.Common.{ℕ, subst, sym}
use Rattle.run_states.specs.Told.{IsStatesText}
use Rattle.view.specs.Shown.{IsShort}
use Rattle.view.proofs.Written.{lines_written, page_written}
use Rattle.view.proofs.view.write_steps.Goals as goal

pub returns-then-json : goal.returns-then-json
returns-then-json g c =
    lines_written c.args.network.now c.args.directory.now c.args.steps.now c.args.moments.now c.args.json (g.W.Write.contents c.args.out.now) (g.W.Write.contents c.write_states.new.out) c.write_states.result
    c.if-json.true c.write_states.ensures

pub returns-in-Ok : goal.returns-in-Ok
returns-in-Ok g c =
    let n = c.args.network.now in
    let d = c.args.directory.now in
    let steps = c.args.steps.now in
    let moments = c.args.moments.now in
    let told = subst (λ text. (every : ℕ) × IsStatesText n d steps moments every text × IsShort steps every text) (sym c.deref.ensures.value) c.in_ok-states.ensures in
    page_written n d steps moments c.args.json (g.W.Write.contents c.args.out.now) (g.W.Write.contents c.write_page.new.out) c.deref.result.now
    c.if-json.false told c.in-Ok.ensures
