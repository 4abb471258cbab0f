-- A packet that moves while steps are done: matches get longer, or stay and feasible distances fall, while no rise is shown where it is.
use Rattle.std.proofs.Common.{sym, subst, inl, inr, arith, ◌<◌, ◌≤◌, ◌≡◌, ℕ, ◌+◌, Bool, true, false, ◌||◌, List, [], ◌∷◌, ◌++◌, length, IsSome}
use Rattle.no_packet_loops.proofs.Common.{Prefix, infinity, History, history, with_step}
use Rattle.all_packets.specs.Journeys.{Event, Goes, Does, routers_met}
use Rattle.moving_packets.specs.Moving.{HoldsAfterEveryRun, fd_chosen, fd_published, fd_shown, entry_shown, IsSent, rises, router_at_end, history_after, StaysNear, IsCalm, CalmStaysNear, GoesNearer, HasBetter, ComesBackForBetter, HopsComeNearer}
use Rattle.moving_packets.proofs.{Reached.IsMade, Reached.made, Reached.made_more, Reached.covered, Reached.goes_before, Reached.lower, Reached.has_row, Reached.finite, Reached.stays_or_chosen}
use Rattle.moving_packets.proofs.Returns.{IsLow, stays_low, meets_low, IsOn, Hop, first_on, goes_on, finds_better}

-- a packet that goes on makes a hop, along which feasible distances fall
pub hop : (h : History) → IsMade h → (c : Bool) (addr i k : ℕ) (p : Prefix) → IsSent c h addr p i k → Hop addr p (fd_shown c h p i) (entry_shown c h i) (λ d. fd_shown d h p k)
hop h M c addr i k p F = record { covered = covered h M c addr i k p F; finite = finite h M c addr i k p F; before = λ q. goes_before h M c addr i k p q F; lower = λ d. lower h M c d addr i k p F }

-- where it is near, the router has a row of the prefix by which it came
pub known : (h : History) → IsMade h → (c : Bool) (q : Prefix) (k g : ℕ) → fd_shown c h q k ≤ g → g < infinity → IsSome (entry_shown c h k q)
known h M c q k g near top = has_row h M c q k (omega (arith, near, top))

-- so is the row by which it goes on, if that is of the prefix
pub near_by : (h : History) (c : Bool) (q q' : Prefix) (k g : ℕ) → fd_shown c h q k ≤ g → q' ≡ q → fd_shown c h q' k ≤ g
near_by h c q q' k g near same = subst (λ (x : Prefix). fd_shown c h x k ≤ g) (sym same) near

-- ---- a packet that comes back

-- whatever is done meanwhile
module _ (c : Bool) (h0 : History) (M0 : IsMade h0) (addr i k0 : ℕ) (p : Prefix) (F0 : IsSent c h0 addr p i k0) (d : Bool) where
  -- where it goes on, it is so at the next router
  next_on : (h : History) → IsMade h → (b : Bool) (k l : ℕ) (q' : Prefix) → IsSent b h addr q' k l → (q : Prefix) (g : ℕ) → IsOn addr p (fd_shown c h0 p i) q g → fd_shown b h q k ≤ g → IsOn addr p (fd_shown c h0 p i) q' (fd_shown b h q' k)
  next_on h M b k l q' F q g O near = goes_on (hop h M b addr k l q' F) p (fd_shown c h0 p i) q g O (known h M b q k g near) (near_by h b q q' k g near)

  returns : (h : History) → IsMade h → (q : Prefix) (k g : ℕ) (es : List Event) → IsOn addr p (fd_shown c h0 p i) q g → StaysNear (λ x f. x ≤ f) h addr q g k (es ++ Goes i ∷ []) → HasBetter c d addr i p h0 (history_after h es)
  returns h M q k g [] O C =
      let low = lower h M C.0 d addr k i C.3 C.4 in
      let top = finite h M C.0 addr k i C.3 C.4 in
      finds_better (hop h0 M0 c addr i k0 p F0) C.3 (fd_shown C.0 h C.3 k) (next_on h M C.0 k i C.3 C.4 q g O C.1) (λ x. fd_shown d h x i) (entry_shown d h i) low (has_row h M d C.3 i (omega (arith, low, top)))
  returns h M q k g (Goes l ∷ es) O C = returns h M C.3 l (fd_shown C.0 h C.3 k) es (next_on h M C.0 k l C.3 C.4 q g O C.1) C.5
  returns h M q k g (Does s ∷ es) O C = returns (with_step h s) (made_more h s M C.0) q k g es O C.1

-- a packet that comes back finds a better way, after every run
pub always_for_better : HoldsAfterEveryRun ComesBackForBetter
always_for_better n ss w valid r addr i k p c d es C =
    let M = made n ss w valid r in
    returns c (history n ss) M addr i k p C.0 d (history n ss) M p k (fd_shown c (history n ss) p i) es (first_on (hop (history n ss) M c addr i k p C.0)) C.1

-- ---- a packet where no rise is shown

-- where it comes, the feasible distances are below that of the row
comes_low : (h : History) → IsMade h → (c : Bool) (addr i k : ℕ) (p : Prefix) → IsSent c h addr p i k → IsLow (fd_published h p k) (fd_chosen h p k) false (fd_shown c h p i)
comes_low h M c addr i k p F = record { published = lower h M c false addr i k p F; chosen = λ e. lower h M c true addr i k p F }

stays_near : (h : History) → IsMade h → (addr : ℕ) (q : Prefix) (risen : Bool) (k g : ℕ) (es : List Event) → IsLow (fd_published h q k) (fd_chosen h q k) risen g → IsCalm h addr q risen k es → StaysNear (λ x f. x < f) h addr q g k es
stays_near h M addr q risen k g [] W C = W.published
stays_near h M addr q risen k g (Goes l ∷ es) W C =
    (C.0, meets_low risen C.0 (fd_published h q k) (fd_chosen h q k) g C.1 W, C.2, C.3, C.4, stays_near h M addr C.3 false l (fd_shown C.0 h C.3 k) es (comes_low h M C.0 addr k l C.3 C.4) C.5)
stays_near h M addr q risen k g (Does s ∷ es) W C =
    let low = stays_low (fd_published h q k) (fd_chosen h q k) (fd_published (with_step h s) q k) (fd_chosen (with_step h s) q k) risen risen g (λ e. (e, elim (stays_or_chosen h s q k C.0) [ inl x ↦ inl x | inr x ↦ inr x.1 ])) C.1 W in
    (C.0, stays_near (with_step h s) (made_more h s M C.0) addr q (risen || rises fd_chosen h s q k) k g es low C.2)

pub always_near : HoldsAfterEveryRun CalmStaysNear
always_near n ss w valid r addr i k p c es F C =
    let M = made n ss w valid r in
    stays_near (history n ss) M addr p false k (fd_shown c (history n ss) p i) es (comes_low (history n ss) M c addr i k p F) C

-- ---- how far it goes

-- each hop by one prefix brings it nearer
nearer : (h : History) (addr : ℕ) (p : Prefix) (k g : ℕ) (es : List Event) → GoesNearer h addr p g k es → length (routers_met es) + fd_published (history_after h es) p (router_at_end k es) < g
nearer h addr p k g [] C = omega (arith, C)
nearer h addr p k g (Goes l ∷ es) C = (let rest = nearer h addr p l (fd_shown C.0 h p k) es C.3 in let lt = C.1 in omega (arith, rest, lt))
nearer h addr p k g (Does s ∷ es) C = nearer (with_step h s) addr p k g es C

pub always_nearer : HoldsAfterEveryRun HopsComeNearer
always_nearer n ss w valid r addr i k p c es F C = (let lt = nearer (history n ss) addr p k (fd_shown c (history n ss) p i) es C in omega (arith, lt))
