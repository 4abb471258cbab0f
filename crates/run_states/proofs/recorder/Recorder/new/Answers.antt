use Rattle.std.proofs.Common.{◌≡◌, ◌∙◌, ap, sym, false, true, All, None, Some, length, vec_len, arith}
use Rattle.std.proofs.{lemmas.Bool.false≢true, lemmas.List.length-map, lemmas.List.FromFn.length-map-range_with_len, lemmas.Option.slice_get_within}
use Rattle.network_model.specs.World.{opening_link, opening_router_of}
use Rattle.network_model.proofs.ListLaws.{element_there}
use Rattle.run_states.specs.Books.{HasPlaces, IsBlankRouter}
use Rattle.run_states.proofs.Lists.{all_at}
use Rattle.run_states.proofs.recorder.Recorder.new.Goals as goal

pub returns-clause-of : goal.returns-clause-of
returns-clause-of c =
    let n = c.args.network.now in
    let given : length c.links-items.result.now ≡ length n.links = ap length c.links-items.ensures.links in
    let links = length-map n.links opening_link in
    let routers = length-map-range_with_len (opening_router_of n) 0 n.routers in
    record {
      links = omega (arith, links);
      routers = omega (arith, routers);
      few_links = omega arith;
      few_routers = omega arith;
      places = c.loop-2.invariant.places;
    }

pub returns-clause-current : goal.returns-clause-current
returns-clause-current c = record {
  links = λ l k b at book unmarked. absurd (false≢true (sym unmarked ∙ all_at (λ x. x.is_marked ≡ true) (c.loop.links).items l b c.loop.invariant.marked book));
  routers = λ i x a b at has book. record {
    router = λ unmarked. absurd (false≢true (sym unmarked ∙ all_at (λ x. x.is_marked ≡ true) (c.loop-2.routers).items i b c.loop-2.invariant.marked book));
    machines = record {
      heard = λ j p m there heard unmarked.
          absurd (false≢true (all_at (λ k. k ≡ true) (b.marks).items j false (all_at (λ x. All (λ k. k ≡ true) (x.marks).items) (c.loop-2.routers).items i b c.loop-2.invariant.marks book) unmarked));
      unheard = λ j p there none.
          let blank = all_at IsBlankRouter (c.loop-2.routers).items i b c.loop-2.invariant.blank book in
          let placed = (all_at (HasPlaces (vec_len c.in_ok-prefixes.prefixes)) (c.loop-2.routers).items i b c.loop-2.invariant.places book).machines in
          let within = slice_get_within (c.in_ok-prefixes.prefixes).items j p there in
          let shown = element_there (b.machines).items j (let one = (c.in_ok-prefixes.prefixes).ok in let other = (b.machines).ok in omega (arith, placed, within, one, other)) in
          shown.1 ∙ ap Some (all_at (λ s. s ≡ None) (b.machines).items j shown.0 blank.machines shown.1);
    };
  };
}

pub returns-clause-blank : goal.returns-clause-blank
returns-clause-blank c = record { links = c.loop.invariant.blank; routers = c.loop-2.invariant.blank }
