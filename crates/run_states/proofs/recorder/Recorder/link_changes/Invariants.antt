use Rattle.std.proofs.Common.{◌≡◌, Some, slice_get, vec_len}
use Rattle.network_model.specs.World.{Link}
use Rattle.run_states.specs.{declared.link_book.LinkBook.LinkBook, Books.ShowsLink, Recorders.LinksFollow}
use Rattle.run_states.proofs.Followed.{AreShownBelow}
use Rattle.run_states.proofs.recorder.Recorder.link_changes.Given as goal

abbrev pub invariant-loop-number : goal.invariant-loop-number
invariant-loop-number l = record {
  follows : LinksFollow (l.changes).items (l.initial.self.links).items (l.self.links).items;
  shown : AreShownBelow (λ (b : LinkBook). b.is_marked) (λ j b. (k : Link) → slice_get (l.world).links j ≡ Some k → ShowsLink k b) l.number (l.self.links).items;
  routers : l.self.routers ≡ l.initial.self.routers;
  prefixes : l.self.prefixes ≡ l.initial.self.prefixes;
  many : vec_len l.self.links ≡ vec_len l.initial.self.links;
}
