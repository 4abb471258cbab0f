-- At rest nobody is cut off, and no machine is in a computation: so it is at the opening.
use Rattle.std.proofs.Common.{refl, sym, ◌∙◌, arith, eq-eqb, ◌≡◌, ℕ, ◌<◌, true, List, []}
use Rattle.no_packet_loops.proofs.Common.{false≢true, is_settled, Prefix, World, Network, history, is_quiet, opening, IsNetwork, Runs, Step}
use Rattle.no_packet_loops.proofs.{Wiring.few_routers, Wiring.wired, Runs.reached}
use Rattle.quiet_routes.specs.Routes.{HasBestRow}
use Rattle.quiet_routes.proofs.{Routes.quiet_routes, Settled.settled_is_quiet, Worlds.good, Still.still}
use Rattle.course.proofs.Idle.{router_count}
use Rattle.world.specs.Rest.{unrest}
use Rattle.world.proofs.{Degrees.few_links, Rest.settled, Rest.watched-opening}
use Rattle.reachability.specs.Ways.{IsCutOff}
use Rattle.reachability.proofs.Laws.{none_cut_off}
use Rattle.timed_reports.specs.Going.{IsComputing}

module _ (n : Network) (V : IsNetwork n) (ss : List Step) (w : World) (runs : Runs (opening n) ss w) (p : Prefix) (i : ℕ) where
  -- if each router has its best row, each has a way
  pub none_out : ((q : Prefix) (k : ℕ) → k < n.routers → HasBestRow w q k) → IsCutOff p i w → ⊥
  none_out best cut =
      let count = router_count n ss w runs in
      none_cut_off w p (λ k below. best p k (omega (arith, count, below))) i cut

  pub none_computing : is_quiet w ≡ true → IsComputing p i w → ⊥
  none_computing quiet busy = false≢true (sym (still n (wired n V) p w (history n ss).published (reached n (wired n V) p ss w runs) (good p n ss w V runs) quiet i busy.router busy.at).passive ∙ busy.active)

module _ (n : Network) (V : IsNetwork n) where
  opening_settled : is_settled (opening n) ≡ true
  opening_settled =
      let watched : unrest (opening n) ≡ 0 = sym (watched-opening n (opening n) refl (few_links n V.no_fault) (few_routers n V)).counts in
      sym (settled (opening n)) ∙ eq-eqb (unrest (opening n)) 0 watched

  opening_quiet : is_quiet (opening n) ≡ true
  opening_quiet = sym (settled_is_quiet n [] (opening n) V refl) ∙ opening_settled

  pub none_out_yet : (p : Prefix) (i : ℕ) → IsCutOff p i (opening n) → ⊥
  none_out_yet p i = none_out n V [] (opening n) refl p i (quiet_routes n [] (opening n) V refl opening_quiet)

  pub none_computing_yet : (p : Prefix) (i : ℕ) → IsComputing p i (opening n) → ⊥
  none_computing_yet p i = none_computing n V [] (opening n) refl p i opening_quiet
