use Rattle.std.proofs.Common.{◌∙◌, ◌≡◌, Some, false, refl, sym, subst, slice_get}
use Rattle.run_states.proofs.Lists.{written_over}
use Rattle.run_states.proofs.router_book.RouterBook.mark_machines.Goals as goal

pub returns : goal.returns
returns c = record {
  shown = refl;
  machines = refl;
  places = refl;
  is_marked = refl;
  spared = λ j p there unmarked. let was = c.set_marks.ensures.unmarked j p there
      (subst (λ ms. slice_get ms j ≡ Some false) (written_over c.set_marks.new.marks (c.args.self.now.marks).items (c.args.self.now.marks).len (sym (c.set_marks.ensures.len ∙ c.deref_mut.ensures.len))) unmarked) in
      (subst (λ ms. slice_get ms j ≡ Some false) c.deref_mut.ensures.value was.0, was.1);
}
