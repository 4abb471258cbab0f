use Rattle.std.proofs.Common.{true, ◌||◌, refl, arith}
use Rattle.run_states.specs.declared.link_book.LinkBook.{LinkBook}
use Rattle.run_states.proofs.Marked.{link_missing, link_written}
use Rattle.run_states.proofs.recorder.Recorder.mark_link.Goals as goal

pub returns-in-Some : goal.returns-in-Some
returns-in-Some c =
    let book = c.in-Some.book.now in
    let new : LinkBook = record { shown = book.shown; to_a = book.to_a; to_b = book.to_b; is_marked = true; is_cut = book.is_cut || c.args.goes_down } in
    link_written c.args.self.now c.args.link c.from.result c.args.goes_down book new c.from.ensures (c.in-Some.ensures.variant.0 refl) c.in-Some.ensures.value refl refl refl

pub returns-in_default : goal.returns-in_default
returns-in_default c = link_missing c.args.self.now c.args.link c.args.goes_down (let past = c.in_default.ensures.item.3 in let is = c.from.ensures in omega (arith, past, is))
