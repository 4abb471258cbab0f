-- Traces are ways of packets, so they meet no router twice, and end.
use Rattle.std.proofs.Common.{refl, sym, ap, subst, ◌∙◌, arith, inl, inr, eqb, ◌≡◌, ℕ, zero, suc, ◌<◌, ◌≤◌, Bool, true, false, not, ◌==◌, if◌then◌else◌, List, [], ◌∷◌, length, Option, Some, None, IsSome, eqb-true}
use Rattle.no_packet_loops.proofs.Common.{⊤, list_any, AllByRecursion, length-le_from_distinct_below, or_parts, or_cases, false≢true, length-map-range_with_len, Prefix, prefix_eq, Entry, Local, Via, Unreachable, Ending, World, opening, row_for, entry_leads, IsForwarded, IsPacketWalk, Onward, Ends, Goes, over_link, by_entry, by_row, onward, Trace, traced_by, trace_from, trace, Some_injective, None_not_Some, history, is_met, meets_twice}
use Rattle.std.specs.List.{IsDistinct}
use Rattle.no_packet_loops.proofs.{Wiring.wired, WorldLaws.Runs-shape, Machines.prefix_same, Runs.reached, Walks.leads_known, Walks.always_packets_free}
use Rattle.no_packet_loops.specs.Packets.{HoldsInEveryWorld, NoPacketLoops, TracesEnd}

-- ---- of more routers than there are, one is met twice

-- every number of the list is below n
abbrev pub AllBelow : ℕ → List ℕ → Type 0
AllBelow n [] = ⊤
AllBelow n (x ∷ xs) = (x < n) × AllBelow n xs

-- a number that is found in such a list is below n
below : (n : ℕ) (xs : List ℕ) → AllBelow n xs → (q : ℕ) → list_any (eqb q) xs ≡ true → q < n
below n [] b q h = absurd (false≢true h)
below n (x ∷ xs) b q h = elim (or_cases (eqb q x) (list_any (eqb q) xs) h) [
  | inl e ↦ (let lt = b.0 in let same : q ≡ x = eqb-true q x e in omega (arith, lt, same))
  | inr e ↦ below n xs b.1 q e
]

-- a router that is not met among others is none of them
apart : (x : ℕ) (xs : List ℕ) → is_met x xs ≡ false → AllByRecursion (λ y. eqb x y ≡ false) xs
apart x [] h = tt
apart x (y ∷ ys) h = let parts = or_parts (x == y) (is_met x ys) h in (parts.0, apart x ys parts.1)

-- routers of which none is met twice are distinct
distinct : (xs : List ℕ) → meets_twice xs ≡ false → IsDistinct eqb xs
unfolding IsDistinct
distinct [] h = tt
distinct (x ∷ xs) h = let parts = or_parts (is_met x xs) (meets_twice xs) h in (apart x xs parts.0, distinct xs parts.1)

-- routers below n of which none is met twice are at most n
pub few : (n : ℕ) (xs : List ℕ) → AllBelow n xs → meets_twice xs ≡ false → length xs ≤ n
few n xs b h = length-le_from_distinct_below xs n (distinct xs h) (below n xs b)

-- ---- where a trace goes

-- a row of router i has the prefix q, that of the first router where it left one, and leads to router k
record WentOn (w : World) (i : ℕ) (first : Option Prefix) (row : Option (Prefix × Entry)) (q : Prefix) (k : ℕ) : Type 0 where
  entry : Entry
  is_row : row ≡ Some (q, entry)
  leads_to : entry_leads w i entry ≡ Some k
  same : (p : Prefix) → first ≡ Some p → p ≡ q

-- a trace that ends at a router does not go on
ends_not_goes : {X : Type 0} (end : Ending) (q : Prefix) (k : ℕ) → Ends end ≡ Goes q k → X
ends_not_goes end q k h = absurd (let f : ⊥ = cc in f)

-- a trace that goes on over a link goes to its far end
pub over_link-goes : (q : Prefix) (o : Option ℕ) (q' : Prefix) (k : ℕ) → over_link q o ≡ Goes q' k → (q ≡ q') × (o ≡ Some k)
over_link-goes q None q' k h = ends_not_goes Ending.DeadLink q' k h
over_link-goes q (Some j) q' k h = (let e : q ≡ q' = cc in e, (let e : j ≡ k = cc in ap Some e))

-- a trace that goes on by an entry goes where the entry leads
pub by_entry-goes : (w : World) (i : ℕ) (q : Prefix) (e : Entry) (q' : Prefix) (k : ℕ) → by_entry w i q e ≡ Goes q' k → (q ≡ q') × (entry_leads w i e ≡ Some k)
by_entry-goes w i q Local q' k h = ends_not_goes Ending.Delivered q' k h
by_entry-goes w i q Unreachable q' k h = ends_not_goes Ending.Unreachable q' k h
by_entry-goes w i q (Via port session) q' k h = over_link-goes q (entry_leads w i (Via port session)) q' k h

-- a trace that goes on has a row by which it does
went_on : (w : World) (i : ℕ) (first : Option Prefix) (row : Option (Prefix × Entry)) (q : Prefix) (k : ℕ) → by_row w i first row ≡ Goes q k → WentOn w i first row q k
went_on w i first None q k h = ends_not_goes Ending.NoRoute q k h
went_on w i None (Some r) q k h =
    let g = by_entry-goes w i r.0 r.1 q k h in
    record { entry = r.1; is_row = λ z. Some (g.0 z, r.1); leads_to = g.1; same = λ p e. absurd (None_not_Some e) }
went_on w i (Some p) (Some r) q k h = by_cross (prefix_eq p r.0) refl h
  where
    by_cross : (b : Bool) → prefix_eq p r.0 ≡ b → (if not b then Ends Ending.Crossed else by_entry w i r.0 r.1) ≡ Goes q k → WentOn w i (Some p) (Some r) q k
    by_cross false is f = ends_not_goes Ending.Crossed q k f
    by_cross true is f =
        let g = by_entry-goes w i r.0 r.1 q k f in
        record { entry = r.1; is_row = λ z. Some (g.0 z, r.1); leads_to = g.1; same = λ p' e. sym (Some_injective e) ∙ prefix_same p r.0 is ∙ g.0 }

-- the trace that does this at router i, and then may pass m routers more
abbrev traced : ℕ → World → ℕ → ℕ → Onward → Trace
traced m w addr i o = traced_by (λ p k. trace_from m w addr (Some p) k) i o

module _ (w : World) (addr : ℕ) where
  -- where a trace goes on, a packet is forwarded, and by the prefix of its first router
  forwards : (first : Option Prefix) (i : ℕ) (q : Prefix) (k : ℕ) → onward w addr first i ≡ Goes q k → IsForwarded w addr q i k × ((p : Prefix) → first ≡ Some p → p ≡ q)
  forwards first i q k h = let W = went_on w i first (row_for w i addr) q k h in ((W.entry, W.is_row, W.leads_to), W.same)

  -- a trace that may pass a router starts with the router at which it begins
  starts : (m : ℕ) (first : Option Prefix) (i : ℕ) → (js : List ℕ) × ((trace_from (suc m) w addr first i).path ≡ i ∷ js)
  starts m first i = by_onward (onward w addr first i)
    where
      by_onward : (o : Onward) → (js : List ℕ) × ((traced m w addr i o).path ≡ i ∷ js)
      by_onward (Ends end) = ([], refl)
      by_onward (Goes q k) = ((trace_from m w addr (Some q) k).path, refl)

  -- a router that forwards to the start of a trace can stand before it in the way of a packet
  ahead : (m i k : ℕ) (p : Prefix) → IsForwarded w addr p i k → IsPacketWalk w addr p (trace_from m w addr (Some p) k).path → IsPacketWalk w addr p (i ∷ (trace_from m w addr (Some p) k).path)
  ahead zero i k p F h = tt
  ahead (suc m) i k p F h =
      let S = starts m (Some p) k in
      subst (λ (xs : List ℕ). IsPacketWalk w addr p xs → IsPacketWalk w addr p (i ∷ xs)) (sym S.1) (λ g. (F, g)) h

  module _ (m : ℕ) (first : Option Prefix) (i : ℕ) (p : Prefix) (one : (q : Prefix) (k : ℕ) → onward w addr first i ≡ Goes q k → q ≡ p) where
    -- where a trace by prefix p goes on, its path is a way of a packet by p if those of the traces behind are
    path_step : ((k : ℕ) → IsPacketWalk w addr p (trace_from m w addr (Some p) k).path) → IsPacketWalk w addr p (trace_from (suc m) w addr first i).path
    path_step rest = by_onward (onward w addr first i) refl
      where
        by_onward : (o : Onward) → onward w addr first i ≡ o → IsPacketWalk w addr p (traced m w addr i o).path
        by_onward (Ends end) is = tt
        by_onward (Goes q k) is =
            let same : q ≡ p = one q k is in
            let F : IsForwarded w addr p i k = subst (λ (z : Prefix). IsForwarded w addr z i k) same (forwards first i q k is).0 in
            subst (λ (z : Prefix). IsPacketWalk w addr p (i ∷ (trace_from m w addr (Some z) k).path)) (sym same) (ahead m i k p F (rest k))

  -- the path of a trace by prefix p is a way of a packet by p
  path_walk : (m i : ℕ) (p : Prefix) → IsPacketWalk w addr p (trace_from m w addr (Some p) i).path
  path_walk zero i p = tt
  path_walk (suc m) i p = path_step m (Some p) i p (λ q k is. sym ((forwards (Some p) i q k is).1 p refl)) (λ k. path_walk m k p)

  -- a trace goes on by one prefix alone
  goes_same : (q q' : Prefix) (k k' : ℕ) → Goes q k ≡ Goes q' k' → q' ≡ q
  goes_same q q' k k' h = cc

  -- the path of every trace is a way of a packet by one prefix
  pub trace_walk : (m i : ℕ) → (p : Prefix) × IsPacketWalk w addr p (trace_from m w addr None i).path
  trace_walk zero i = (record { addr = 0; len = 0 }, tt)
  trace_walk (suc m) i = by_onward (onward w addr None i) refl
    where
      by_onward : (o : Onward) → onward w addr None i ≡ o → (p : Prefix) × IsPacketWalk w addr p (trace_from (suc m) w addr None i).path
      by_onward (Ends end) is = (record { addr = 0; len = 0 }, subst (λ (o : Onward). IsPacketWalk w addr (record { addr = 0; len = 0 }) (traced m w addr i o).path) (sym is) tt)
      by_onward (Goes q k) is = (q, path_step m None i q (λ q' k' is'. goes_same q q' k k' (sym is ∙ is')) (λ j. path_walk m j q))

  -- a way of a packet by prefix p from router i over m routers more
  record Long (m i : ℕ) (p : Prefix) : Type 0 where
    rest : List ℕ
    length_is : length rest ≡ m
    walk : IsPacketWalk w addr p (i ∷ rest)

  module _ (m : ℕ) (first : Option Prefix) (i : ℕ) (p : Prefix) (one : (q : Prefix) (k : ℕ) → onward w addr first i ≡ Goes q k → q ≡ p) where
    -- an unfinished trace of m + 1 routers by prefix p is a way that long, if the traces of m routers behind it are
    long_step : ((k : ℕ) → (trace_from m w addr (Some p) k).end ≡ None → Long m k p) → (trace_from (suc m) w addr first i).end ≡ None → Long (suc m) i p
    long_step deeper h = by_onward (onward w addr first i) refl h
      where
        by_onward : (o : Onward) → onward w addr first i ≡ o → (traced m w addr i o).end ≡ None → Long (suc m) i p
        by_onward (Ends end) is g = absurd (None_not_Some (sym g))
        by_onward (Goes q k) is g =
            let same : q ≡ p = one q k is in
            let F : IsForwarded w addr p i k = subst (λ (z : Prefix). IsForwarded w addr z i k) same (forwards first i q k is).0 in
            let L = deeper k (subst (λ (z : Prefix). (trace_from m w addr (Some z) k).end ≡ None) same g) in
            record { rest = k ∷ L.rest; length_is = ap suc L.length_is; walk = (F, L.walk) }

  -- a trace by prefix p that is left unfinished after m routers is a way of a packet that long
  long_from : (m i : ℕ) (p : Prefix) → (trace_from m w addr (Some p) i).end ≡ None → Long m i p
  long_from zero i p h = record { rest = []; length_is = refl; walk = tt }
  long_from (suc m) i p h = long_step m (Some p) i p (λ q k is. sym ((forwards (Some p) i q k is).1 p refl)) (λ k. long_from m k p) h

  -- every trace that is left unfinished after m routers is a way of a packet that long, by one prefix
  long_trace : (m i : ℕ) → (trace_from m w addr None i).end ≡ None → (p : Prefix) × Long m i p
  long_trace zero i h = (record { addr = 0; len = 0 }, record { rest = []; length_is = refl; walk = tt })
  long_trace (suc m) i h = by_onward (onward w addr None i) refl
    where
      by_onward : (o : Onward) → onward w addr None i ≡ o → (p : Prefix) × Long (suc m) i p
      by_onward (Ends end) is = absurd (None_not_Some (sym h ∙ ap (λ (o : Onward). (traced m w addr i o).end) is))
      by_onward (Goes q k) is = (q, long_step m None i q (λ q' k' is'. goes_same q q' k k' (sym is ∙ is')) (λ j. long_from m j q) h)

-- where packets are forwarded to routers below n alone, a way of a packet that starts below n stays there
all_below : (w : World) (addr : ℕ) (p : Prefix) (n : ℕ) → ((i k : ℕ) → IsForwarded w addr p i k → k < n) → (i : ℕ) (ks : List ℕ) → i < n → IsPacketWalk w addr p (i ∷ ks) → AllBelow n (i ∷ ks)
all_below w addr p n known i [] lt h = (lt, tt)
all_below w addr p n known i (k ∷ ks) lt h = (lt, all_below w addr p n known k ks (known i k h.0) h.1)

-- where no packet meets a router twice, no trace does, and every trace from a router ends
pub traces_end : (w : World) → NoPacketLoops w → ((addr : ℕ) (p : Prefix) (i k : ℕ) → IsForwarded w addr p i k → k < length w.routers) → TracesEnd w
traces_end w free known = record {
  none_twice = λ i addr. (let W = trace_walk w addr (length w.routers) i in free addr W.0 (trace w i addr).path W.1);
  ends = λ i addr lt. not_none (trace w i addr).end (λ h.
      (let L = long_trace w addr (length w.routers) i h in
      let below : AllBelow (length w.routers) (i ∷ (L.1).rest) = all_below w addr L.0 (length w.routers) (known addr L.0) i (L.1).rest lt (L.1).walk in
      let le : length (i ∷ (L.1).rest) ≤ length w.routers = few (length w.routers) (i ∷ (L.1).rest) below (free addr L.0 (i ∷ (L.1).rest) (L.1).walk) in
      let m : length (L.1).rest ≡ length w.routers = (L.1).length_is in
      omega (arith, le, m)));
}
  where
    not_none : {A : Type 0} (o : Option A) → (o ≡ None → ⊥) → IsSome o
    not_none None never = absurd (never refl)
    not_none (Some x) never = refl

-- no trace meets a router twice, and every trace from a router ends, in every world of every run
pub always_traces_end : HoldsInEveryWorld TracesEnd
always_traces_end n ss w valid r = traces_end w (always_packets_free n ss w valid r) known
  where
    count : length w.routers ≡ n.routers
    count = (Runs-shape (opening n) ss w r).routers ∙ length-map-range_with_len _ 0 n.routers

    known : (addr : ℕ) (p : Prefix) (i k : ℕ) → IsForwarded w addr p i k → k < length w.routers
    known addr p i k F = let lt : k < n.routers = leads_known n (wired n valid) p w (history n ss).published (reached n (wired n valid) p ss w r) i F.0 k F.2 in omega (arith, lt, count)
