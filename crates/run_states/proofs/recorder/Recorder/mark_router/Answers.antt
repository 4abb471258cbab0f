use Rattle.std.proofs.Common.{true, refl, arith}
use Rattle.run_states.specs.declared.router_book.RouterBook.{RouterBook}
use Rattle.run_states.proofs.Marked.{no_router, router_written}
use Rattle.run_states.proofs.recorder.Recorder.mark_router.Goals as goal

pub returns-in-Some : goal.returns-in-Some
returns-in-Some c =
    let book = c.in-Some.book.now in
    let new : RouterBook = record { shown = book.shown; machines = book.machines; marks = book.marks; is_marked = true } in
    router_written c.args.self.now c.args.router c.from.result book new (λ p. Unit {0}) c.from.ensures (c.in-Some.ensures.variant.0 refl) c.in-Some.ensures.value
    record { shown = refl; machines = refl; places = refl; is_marked = refl; spared = λ j p there unmarked. (unmarked, tt) }

pub returns-in_default : goal.returns-in_default
returns-in_default c = no_router c.args.self.now c.args.router (λ p. Unit {0}) (let past = c.in_default.ensures.item.3 in let is = c.from.ensures in omega (arith, past, is))
