-- Where a packet is followed whichever prefixes match it, its trace is a way, and ends.
use Rattle.std.proofs.Common.{refl, sym, ap, subst, ◌∙◌, arith, ◌≡◌, ◌≢◌, ℕ, zero, suc, ◌<◌, Bool, true, false, if◌then◌else◌, List, [], ◌∷◌, ◌++◌, length, Option, Some, None, option_and_then}
use Rattle.no_packet_loops.proofs.Common.{Prefix, Entry, Via, Ending, World, row_for, entry_leads, Onward, Ends, Goes, over_link, by_entry, by_row, is_crossed, onward, Trace, traced_by, trace_from, None_not_Some, Some_injective, hop}
use Rattle.no_packet_loops.specs.Packets.{HoldsInEveryWorld}
use Rattle.no_packet_loops.proofs.Traces.{by_entry-goes}
use Rattle.all_packets.specs.Packets.{IsWay, NoPacketCircles, WaysEnd}
use Rattle.all_packets.specs.Through.{through_from, through, IsRealEnd, ThroughEnds}
use Rattle.all_packets.proofs.Ways.{always_no_circles, always_ways_end, way_moves}

-- ---- where a packet that any prefix may match goes on, and how it ends

-- where it goes on by a row, the row leads there
row_leads : (w : World) (i : ℕ) (row : Option (Prefix × Entry)) (q : Prefix) (k : ℕ) → by_row w i None row ≡ Goes q k → option_and_then (λ r. entry_leads w i r.1) row ≡ Some k
row_leads w i None q k h = absurd (let none : ⊥ = cc in none)
row_leads w i (Some r) q k h = (by_entry-goes w i r.0 r.1 q k h).1

-- an entry does not end it where another prefix matches
entry_ends : (w : World) (i : ℕ) (p : Prefix) (e : Entry) (end : Ending) → by_entry w i p e ≡ Ends end → end ≢ Ending.Crossed
entry_ends w i p (Via q session) end h = by_far (entry_leads w i (Via q session)) h
  where
    by_far : (o : Option ℕ) → over_link p o ≡ Ends end → end ≢ Ending.Crossed
    by_far None is = λ crossed. (let none : ⊥ = cc in none)
    by_far (Some k) is = absurd (let none : ⊥ = cc in none)
entry_ends w i p _ end h = λ crossed. (let none : ⊥ = cc in none)

-- nor does a row, or that there is none
pub row_ends : (w : World) (i : ℕ) (row : Option (Prefix × Entry)) (end : Ending) → by_row w i None row ≡ Ends end → end ≢ Ending.Crossed
row_ends w i None end h = λ crossed. (let none : ⊥ = cc in none)
row_ends w i (Some r) end h = entry_ends w i r.0 r.1 end h

-- where a trace goes on by a row, one that any prefix may match does
row_same : (w : World) (i : ℕ) (first : Option Prefix) (row : Option (Prefix × Entry)) (p : Prefix) (k : ℕ) → by_row w i first row ≡ Goes p k → by_row w i None row ≡ Goes p k
row_same w i first None p k h = absurd (let none : ⊥ = cc in none)
row_same w i first (Some r) p k h = by_cross (is_crossed first r.0) h
  where
    by_cross : (b : Bool) → (if b then Ends Ending.Crossed else by_entry w i r.0 r.1) ≡ Goes p k → by_entry w i r.0 r.1 ≡ Goes p k
    by_cross true g = absurd (let none : ⊥ = cc in none)
    by_cross false g = g

-- the trace that does this at router i, and then may pass n routers more
abbrev pub onwards : ℕ → World → ℕ → ℕ → Onward → Trace
onwards n w addr i o = traced_by (λ p k. through_from n w addr k) i o

module _ (w : World) (addr : ℕ) where
  -- a router that sends the packet to the start of a trace can stand before it on the way
  ahead : (n i k : ℕ) → hop w addr i ≡ Some k → IsWay w addr (through_from n w addr k).path → IsWay w addr (i ∷ (through_from n w addr k).path)
  ahead zero i k goes h = tt
  ahead (suc n) i k goes h = by_onward (onward w addr None k) h
    where
      by_onward : (o : Onward) → IsWay w addr (onwards n w addr k o).path → IsWay w addr (i ∷ (onwards n w addr k o).path)
      by_onward (Ends end) way = (goes, way)
      by_onward (Goes q j) way = (goes, way)

  -- the path of a trace through is a way
  pub is_way : (n i : ℕ) → IsWay w addr (through_from n w addr i).path
  is_way zero i = tt
  is_way (suc n) i = by_onward (onward w addr None i) refl (is_way n)
    where
      by_onward : (o : Onward) → onward w addr None i ≡ o → ((k : ℕ) → IsWay w addr (through_from n w addr k).path) → IsWay w addr (onwards n w addr i o).path
      by_onward (Ends end) is rest = tt
      by_onward (Goes q k) is rest = ahead n i k (row_leads w i (row_for w i addr) q k is) (rest k)

  -- a way of n routers more
  abbrev pub Long : ℕ → ℕ → Type 0
  Long n i = (ks : List ℕ) × (length ks ≡ n) × IsWay w addr (i ∷ ks)

  -- a trace that is left unfinished after n routers is such a way
  pub long : (n i : ℕ) → (through_from n w addr i).end ≡ None → Long n i
  long zero i h = ([], refl, tt)
  long (suc n) i h = by_onward (onward w addr None i) refl h (long n)
    where
      by_onward : (o : Onward) → onward w addr None i ≡ o → (onwards n w addr i o).end ≡ None → ((k : ℕ) → (through_from n w addr k).end ≡ None → Long n k) → Long (suc n) i
      by_onward (Ends end) is none rest = absurd (None_not_Some (sym none))
      by_onward (Goes q k) is none rest =
          let (ks, count, way) = rest k none in
          (k ∷ ks, ap suc count, (row_leads w i (row_for w i addr) q k is, way))

  -- one that ends does so delivered or lost
  ended : (n i : ℕ) (end : Ending) → (through_from n w addr i).end ≡ Some end → end ≢ Ending.Crossed
  ended zero i end h = absurd (None_not_Some h)
  ended (suc n) i end h = by_onward (onward w addr None i) refl h (λ k. ended n k end)
    where
      by_onward : (o : Onward) → onward w addr None i ≡ o → (onwards n w addr i o).end ≡ Some end → ((k : ℕ) → (through_from n w addr k).end ≡ Some end → end ≢ Ending.Crossed) → end ≢ Ending.Crossed
      by_onward (Ends last) is same rest = subst (λ e. e ≢ Ending.Crossed) (Some_injective same) (row_ends w i (row_for w i addr) last is)
      by_onward (Goes q k) is same rest = rest k same

  -- the routers that a trace passes, the trace through passes first
  abbrev Extends : ℕ → ℕ → Option Prefix → Type 0
  Extends n i first = (more : List ℕ) × ((through_from n w addr i).path ≡ (trace_from n w addr first i).path ++ more)

  extends : (n i : ℕ) (first : Option Prefix) → Extends n i first
  extends zero i first = ([], refl)
  extends (suc n) i first = by_onward (onward w addr first i) refl (extends n)
    where
      begins : (o : Onward) → (more : List ℕ) × ((onwards n w addr i o).path ≡ i ∷ more)
      begins (Ends end) = ([], refl)
      begins (Goes q k) = ((through_from n w addr k).path, refl)

      by_onward : (o : Onward) → onward w addr first i ≡ o → ((k : ℕ) (p : Option Prefix) → Extends n k p)
          → (more : List ℕ) × ((onwards n w addr i (onward w addr None i)).path ≡ (traced_by (λ p k. trace_from n w addr (Some p) k) i o).path ++ more)
      by_onward (Ends end) is rest = begins (onward w addr None i)
      by_onward (Goes p k) is rest =
          let (more, same) = rest k (Some p) in
          (more, ap (λ o. (onwards n w addr i o).path) (row_same w i first (row_for w i addr) p k is) ∙ ap (λ xs. i ∷ xs) same)

-- where no packet circles and ways end, so do traces through
through_ends : (w : World) → NoPacketCircles w → WaysEnd w → ThroughEnds w
through_ends w free short = record {
  ways = λ i addr. is_way w addr (length w.routers) i;
  none_twice = λ i addr. free addr (through w i addr).path (is_way w addr (length w.routers) i);
  ends = λ i addr known. by_end i addr known (through w i addr).end refl;
  extends = λ i addr. extends w addr (length w.routers) i None;
}
  where
    by_end : (i addr : ℕ) → i < length w.routers → (o : Option Ending) → (through w i addr).end ≡ o → IsRealEnd (through w i addr)
    by_end i addr known None is =
        let (ks, count, way) = long w addr (length w.routers) i is in
        let le = short addr i ks known (way_moves w addr (i ∷ ks) way) in
        absurd (omega (arith, count, le))
    by_end i addr known (Some end) is = record { ending = end; is = is; not_crossed = ended w addr (length w.routers) i end is }

-- in every world of every run
pub always_through_ends : HoldsInEveryWorld ThroughEnds
always_through_ends n ss w valid r = through_ends w (always_no_circles n ss w valid r) (always_ways_end n ss w valid r)
