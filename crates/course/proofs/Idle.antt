-- A network is settled exactly where no router has anything to do.
use Rattle.std.proofs.Common.{arith, ◌∙◌, ◌≡◌, ℕ, ◌<◌, Bool, true, false, List, length, Option, Some, None, refl}
use Rattle.no_packet_loops.proofs.Common.{length-map-range_with_len, World, Network, opening, opening_router_of, IsNetwork, Runs, next_step, is_settled, Step}
use Rattle.no_packet_loops.proofs.WorldLaws.{Runs-shape}
use Rattle.convergence.proofs.{AtRest.rest_settled, AtRest.settled_rests, Turns.idle_rests, Turns.next_chosen}

-- a run leaves the number of routers
pub router_count : (n : Network) (ss : List Step) (w : World) → Runs (opening n) ss w → length w.routers ≡ n.routers
router_count n ss w runs = (Runs-shape (opening n) ss w runs).routers ∙ length-map-range_with_len (opening_router_of n) 0 n.routers

-- where no router has anything to do, the network is settled
pub idle-settled : (n : Network) → IsNetwork n → (ss : List Step) (w : World) → Runs (opening n) ss w → ((i : ℕ) → i < n.routers → next_step w i ≡ None) → is_settled w ≡ true
idle-settled n valid ss w runs none =
    let count = router_count n ss w runs in
    rest_settled n valid ss w runs (idle_rests w (λ i lt. none i (omega (arith, lt, count))))

-- where some router has, it is not
pub busy-unsettled : (w : World) (i : ℕ) (s : Step) → next_step w i ≡ Some s → is_settled w ≡ false
busy-unsettled w i s due = by_test (is_settled w) refl
  where
    by_test : (b : Bool) → is_settled w ≡ b → is_settled w ≡ false
    by_test true settled = (let (own, L) = next_chosen w i s due in absurd (settled_rests w settled s own L))
    by_test false busy = busy

pub settled-idle : (w : World) → is_settled w ≡ true → (i : ℕ) → next_step w i ≡ None
settled-idle w settled i = by_step (next_step w i) refl
  where
    by_step : (o : Option Step) → next_step w i ≡ o → next_step w i ≡ None
    by_step None none = none
    by_step (Some s) due = (let (own, L) = next_chosen w i s due in absurd (settled_rests w settled s own L))
