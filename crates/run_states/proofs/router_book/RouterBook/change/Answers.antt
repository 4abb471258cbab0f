use Rattle.std.proofs.Common.{ap, subst, sym, ◌∙◌, Some}
use Rattle.run_states.specs.Books.{ShowsMachines, ShowsUnmarked}
use Rattle.run_states.proofs.Lists.{written_over}
use Rattle.run_states.proofs.router_book.RouterBook.change.Goals as goal

pub returns-clause-shows : goal.returns-clause-shows
returns-clause-shows c = record {
  shown = ap Some c.of-now.ensures;
  machines = subst (ShowsMachines c.args.router.now c.args.prefixes.now)
      (sym (written_over c.machine_changes.new.shown (c.args.self.now.machines).items (c.args.self.now.machines).len (sym (c.in_ok-machines.ensures.len ∙ c.deref_mut-2.ensures.len))))
      c.in_ok-machines.ensures.shows;
}

pub machine_changes-requires-clause-current : goal.machine_changes-requires-clause-current
machine_changes-requires-clause-current c =
    let shows = ShowsUnmarked c.args.router.now c.args.prefixes.now in
    subst (λ marks. shows marks c.deref_mut-2.result.now) (sym c.deref_mut.ensures.value) (subst (shows (c.args.self.now.marks).items) (sym c.deref_mut-2.ensures.value) c.requires.current)
