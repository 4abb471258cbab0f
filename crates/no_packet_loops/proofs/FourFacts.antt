-- The four facts of a whole network, from those of the network that one prefix sees.
use Rattle.std.proofs.Common.{sym, ap, subst, ◌∙◌, ◌≡◌, is_some, List, Some}
use Rattle.no_packet_loops.proofs.Common.{option_map_or, Prefix, Place, Router, World, Network, History, history, LinkEnd, lay, view, LinkFacts, end_towards, end_at, facts_kept}
use Rattle.no_packet_loops.specs.LinkEnds.{across, HasFourFacts, FourFactsAlwaysHold}
use Rattle.no_packet_loops.proofs.{Wiring.IsWired, Wiring.wired, Runs.Reached, Runs.reached, Runs.history_world}
use Rattle.no_packet_loops.proofs.Places.{far, spot, laid, far_far, topology}

module _ (n : Network) (N : IsWired n) (p : Prefix) (w : World) (rs : List Router) (R : Reached n N p w rs) where
  -- the link end that lies across is the far one
  far_is : (e f : LinkEnd) (x : Place) → lay n e ≡ Some x → lay n f ≡ Some (across x) → far n e ≡ f
  far_is e f x here there = ap (λ o. option_map_or (λ y. spot n (across y)) o e) here ∙ (laid n f (across x) there).spot_is

  -- the facts hold in a world that is reached
  facts_reached : HasFourFacts n (view n p w R.published_fd)
  facts_reached e f x here there up =
      let s = view n p w R.published_fd in
      let valid = ap is_some here in
      let forth = far_is e f x here there in
      subst (λ k. LinkFacts (end_towards s e k) (end_towards s k e)) forth
      (subst (λ k. LinkFacts (end_at (topology n N) s e) (end_towards s (far n e) k)) (far_far n N e valid) (facts_kept (topology n N) s R.inv e valid up))

-- the facts hold after every list of lawful steps
pub always_four_facts : FourFactsAlwaysHold
always_four_facts n ss w valid r p =
    subst (λ fds. HasFourFacts n (view n p h.world fds)) (λ k i. here.fds_are i k) (facts_reached n N p h.world h.published here)
  where
    h : History
    h = history n ss

    N : IsWired n
    N = wired n valid

    here : Reached n N p h.world h.published
    here = subst (λ (v : World). Reached n N p v h.published) (sym (history_world n ss w r)) (reached n N p ss w r)
