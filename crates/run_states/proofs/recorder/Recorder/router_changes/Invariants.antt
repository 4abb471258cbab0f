use Rattle.std.proofs.Common.{◌≡◌, ◌≤◌, ℕ, Some, All, length, slice_get, vec_len}
use Rattle.network_model.specs.World.{Attachments, Router}
use Rattle.run_states.specs.{declared.router_book.RouterBook.RouterBook, Books.HasPlaces, Books.ShowsRouter, Recorders.RoutersFollow}
use Rattle.run_states.proofs.Followed.{AreShownBelow}
use Rattle.run_states.proofs.recorder.Recorder.router_changes.Given as goal

abbrev pub invariant-loop-number : goal.invariant-loop-number
invariant-loop-number l = record {
  follows : RoutersFollow (l.changes).items (l.initial.self.routers).items (l.self.routers).items;
  shown : AreShownBelow (λ (b : RouterBook). b.is_marked) (λ j b. (x : Router) (a : Attachments) → slice_get (l.world).routers j ≡ Some x → slice_get (l.world).attachments j ≡ Some a → ShowsRouter (l.initial.self.prefixes).items x (length a.notices) b) l.number (l.self.routers).items;
  links : l.self.links ≡ l.initial.self.links;
  prefixes : l.self.prefixes ≡ l.initial.self.prefixes;
  many : vec_len l.self.routers ≡ vec_len l.initial.self.routers;
  places : All (HasPlaces (vec_len l.initial.self.prefixes)) (l.self.routers).items;
  rest : (j : ℕ) → l.number ≤ j → slice_get (l.self.routers).items j ≡ slice_get (l.initial.self.routers).items j;
}
