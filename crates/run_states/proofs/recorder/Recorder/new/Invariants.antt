use Rattle.std.proofs.Common.{◌≡◌, None, [], true, All, vec_len}
use Rattle.run_states.specs.Books.{HasPlaces, IsBlankRouter, link_shows}
use Rattle.run_states.proofs.recorder.Recorder.new.Given as goal

abbrev pub invariant-loop : goal.invariant-loop
invariant-loop l = record {
  many : vec_len l.links ≡ l.index;
  marked : All (λ b. b.is_marked ≡ true) (l.links).items;
  blank : All (λ b. link_shows b ≡ (None, [], [])) (l.links).items;
}

abbrev pub invariant-loop-2 : goal.invariant-loop-2
invariant-loop-2 l = record {
  many : vec_len l.routers ≡ l.counter;
  marked : All (λ b. b.is_marked ≡ true) (l.routers).items;
  marks : All (λ b. All (λ k. k ≡ true) (b.marks).items) (l.routers).items;
  places : All (HasPlaces (vec_len l.prefixes)) (l.routers).items;
  blank : All IsBlankRouter (l.routers).items;
}
