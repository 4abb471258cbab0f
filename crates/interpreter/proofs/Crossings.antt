-- Where a packet is followed whichever prefixes match it, its trace by one prefix ends at the first router that matches it by another than the first.
use Rattle.std.proofs.Common.{refl, sym, ap, subst, ◌∙◌, arith, ◌≡◌, ℕ, zero, suc, ◌+◌, Bool, true, false, not, cond, if◌then◌else◌, List, [], ◌∷◌, length, take, slice_get, add-one, Option, Some, None, option_map, option_and_then}
use Rattle.no_packet_loops.proofs.Common.{Prefix, Entry, Ending, World, row_for, Onward, Ends, Goes, by_entry, by_row, onward, Trace, traced_by, trace_from, trace, None_not_Some, Some_injective, position_from, option_map_or, prefix_eq, prefix_eq-Decides}
use Rattle.no_packet_loops.proofs.Traces.{by_entry-goes}
use Rattle.all_packets.specs.Through.{through_from, through}
use Rattle.interpreter.specs.Traces.{crossing_on, matched_at, matches_other}

-- up to this place, if one is given
abbrev pub cut_at : Option ℕ → Trace → Trace
cut_at None t = t
cut_at (Some n) t = record { path = take (suc n) t.path; end = Some Ending.Crossed }

-- ---- up to the first place at which a test passes

abbrev cut : (ℕ → Bool) → List ℕ → Option Ending → Trace
cut f [] end = record { path = []; end = end }
cut f (i ∷ is) end = if f i then record { path = i ∷ []; end = Some Ending.Crossed } else record { path = i ∷ (cut f is end).path; end = (cut f is end).end }

abbrev first_place : (ℕ → Bool) → List ℕ → Option ℕ
first_place f [] = None
first_place f (i ∷ is) = cond (f i) (Some 0) (option_map suc (first_place f is))

shifted : (o : Option ℕ) (k : ℕ) → option_map (λ n. n + (k + 1)) o ≡ option_map (λ n. n + k) (option_map suc o)
shifted None k = refl
shifted (Some n) k = ap Some (omega arith)

places : (f : ℕ → Bool) (k : ℕ) (is : List ℕ) → position_from f k is ≡ option_map (λ n. n + k) (first_place f is)
places f k [] = refl
places f k (i ∷ is) = by_test (f i) (places f (k + 1) is)
  where
    by_test : (b : Bool) → position_from f (k + 1) is ≡ option_map (λ n. n + (k + 1)) (first_place f is) → cond b (Some k) (position_from f (k + 1) is) ≡ option_map (λ n. n + k) (cond b (Some 0) (option_map suc (first_place f is)))
    by_test true rest = ap Some (omega arith)
    by_test false rest = rest ∙ shifted (first_place f is) k

no_shift : (o : Option ℕ) → option_map (λ n. n + 0) o ≡ o
no_shift None = refl
no_shift (Some n) = ap Some (omega arith)

cuts : (f : ℕ → Bool) (is : List ℕ) (end : Option Ending) → cut_at (first_place f is) (record { path = is; end = end }) ≡ cut f is end
cuts f [] end = refl
cuts f (i ∷ is) end = by_test (f i) (cuts f is end)
  where
    onto : Trace → Trace
    onto t = record { path = i ∷ t.path; end = t.end }

    later : (o : Option ℕ) → cut_at (option_map suc o) (record { path = i ∷ is; end = end }) ≡ onto (cut_at o (record { path = is; end = end }))
    later None = refl
    later (Some n) = refl

    by_test : (b : Bool) → cut_at (first_place f is) (record { path = is; end = end }) ≡ cut f is end → cut_at (cond b (Some 0) (option_map suc (first_place f is))) (record { path = i ∷ is; end = end })
        ≡ (if b then record { path = i ∷ []; end = Some Ending.Crossed } else onto (cut f is end))
    by_test true rest = refl
    by_test false rest = later (first_place f is) ∙ ap onto rest

position_cuts : (f : ℕ → Bool) (t : Trace) → cut_at (position_from f 0 t.path) t ≡ cut f t.path t.end
position_cuts f t = ap (λ o. cut_at o t) (places f 0 t.path ∙ no_shift (first_place f t.path)) ∙ cuts f t.path t.end

-- ---- the trace by one prefix

module _ (w : World) (addr : ℕ) where
  -- a trace through that does this at router i, and then may pass n routers more
  abbrev onwards : ℕ → ℕ → Onward → Trace
  onwards n i o = traced_by (λ p k. through_from n w addr k) i o

  -- and one by one prefix
  abbrev onwards_by : ℕ → ℕ → Onward → Trace
  onwards_by n i o = traced_by (λ p k. trace_from n w addr (Some p) k) i o

  cut_through : (n i : ℕ) (p : Prefix) → cut (matches_other w addr p) (through_from n w addr i).path (through_from n w addr i).end ≡ trace_from n w addr (Some p) i
  cut_through zero i p = refl
  cut_through (suc n) i p = by_given (row_for w i addr) refl (λ k. cut_through n k p)
    where
      f : ℕ → Bool
      f = matches_other w addr p

      Rest : Type 0
      Rest = (k : ℕ) → cut f (through_from n w addr k).path (through_from n w addr k).end ≡ trace_from n w addr (Some p) k

      cut_on : Onward → Trace
      cut_on o = cut f (onwards n i o).path (onwards n i o).end

      -- another prefix matches here
      ends_here : (o : Onward) → f i ≡ true → cut_on o ≡ record { path = i ∷ []; end = Some Ending.Crossed }
      ends_here (Ends end) other = ap (λ b. if b then record { path = i ∷ []; end = Some Ending.Crossed } else record { path = i ∷ []; end = Some end }) other
      ends_here (Goes q k) other =
          let rest = cut f (through_from n w addr k).path (through_from n w addr k).end in
          ap (λ b. if b then record { path = i ∷ []; end = Some Ending.Crossed } else record { path = i ∷ rest.path; end = rest.end }) other

      goes_on : (e : Entry) (o : Onward) → by_entry w i p e ≡ o → f i ≡ false → Rest → cut_on o ≡ onwards_by n i o
      goes_on e (Ends end) is same after = ap (λ b. if b then record { path = i ∷ []; end = Some Ending.Crossed } else record { path = i ∷ []; end = Some end }) same
      goes_on e (Goes q k) is same after =
          let rest = cut f (through_from n w addr k).path (through_from n w addr k).end in
          ap (λ b. if b then record { path = i ∷ []; end = Some Ending.Crossed } else record { path = i ∷ rest.path; end = rest.end }) same
          ∙ ap (λ (t : Trace). record { path = i ∷ t.path; end = t.end }) (after k ∙ ap (λ r. trace_from n w addr (Some r) k) (by_entry-goes w i p e q k is).0)

      by_given : (row : Option (Prefix × Entry)) → row_for w i addr ≡ row → Rest → cut_on (by_row w i None (row_for w i addr)) ≡ onwards_by n i (by_row w i (Some p) (row_for w i addr))
      by_given None is after =
          ap (λ o. cut_on (by_row w i None o)) is
          ∙ ap (λ b. if b then record { path = i ∷ []; end = Some Ending.Crossed } else record { path = i ∷ []; end = Some Ending.NoRoute }) (ap (λ o. option_map_or (λ q. not (prefix_eq p q)) (option_map (λ r. r.0) o) false) is)
          ∙ ap (λ o. onwards_by n i (by_row w i (Some p) o)) (sym is)
      by_given (Some r) is after =
          ap (λ o. cut_on (by_row w i None o)) is
          ∙ by_cross (prefix_eq p r.0) refl
          ∙ ap (λ o. onwards_by n i (by_row w i (Some p) o)) (sym is)
        where
          here : f i ≡ not (prefix_eq p r.0)
          here = ap (λ o. option_map_or (λ q. not (prefix_eq p q)) (option_map (λ r. r.0) o) false) is

          by_cross : (b : Bool) → prefix_eq p r.0 ≡ b → cut_on (by_entry w i r.0 r.1) ≡ onwards_by n i (if not (prefix_eq p r.0) then Ends Ending.Crossed else by_entry w i r.0 r.1)
          by_cross false c =
              ends_here (by_entry w i r.0 r.1) (here ∙ ap not c)
              ∙ ap (λ b. onwards_by n i (if not b then Ends Ending.Crossed else by_entry w i r.0 r.1)) (sym c)
          by_cross true c =
              subst (λ q. cut_on (by_entry w i q r.1) ≡ onwards_by n i (by_entry w i q r.1)) ((prefix_eq-Decides p r.0).0 c) (goes_on r.1 (by_entry w i p r.1) refl (here ∙ ap not c) after)
              ∙ ap (λ b. onwards_by n i (if not b then Ends Ending.Crossed else by_entry w i r.0 r.1)) (sym c)

  cut_whole : (n i : ℕ) → cut_at (crossing_on w addr (through_from n w addr i).path) (through_from n w addr i) ≡ trace_from n w addr None i
  cut_whole zero i = refl
  cut_whole (suc n) i = by_given (row_for w i addr) refl
    where
      t : Trace
      t = through_from (suc n) w addr i

      begins : (o : Onward) → (more : List ℕ) × ((onwards n i o).path ≡ i ∷ more)
      begins (Ends end) = ([], refl)
      begins (Goes q k) = ((through_from n w addr k).path, refl)

      by_given : (row : Option (Prefix × Entry)) → row_for w i addr ≡ row → cut_at (crossing_on w addr t.path) t ≡ trace_from (suc n) w addr None i
      by_given None is =
          let (more, path) = begins (onward w addr None i) in
          ap (λ o. cut_at o t) (ap (crossing_on w addr) path ∙ ap (λ o. option_and_then (λ p. position_from (matches_other w addr p) 0 (i ∷ more)) (option_map (λ r. r.0) o)) is)
          ∙ ap (λ o. onwards n i (by_row w i None o)) is
          ∙ ap (λ o. onwards_by n i (by_row w i None o)) (sym is)
      by_given (Some r) is =
          let (more, path) = begins (onward w addr None i) in
          ap (λ o. cut_at o t)
          (ap (crossing_on w addr) path
          ∙ ap (λ o. option_and_then (λ p. position_from (matches_other w addr p) 0 (i ∷ more)) (option_map (λ r. r.0) o)) is
          ∙ ap (position_from (matches_other w addr r.0) 0) (sym path))
          ∙ position_cuts (matches_other w addr r.0) t
          ∙ cut_through (suc n) i r.0
          ∙ ap (λ o. onwards_by n i (by_row w i (Some r.0) o)) is
          ∙ ap (λ b. onwards_by n i (if not b then Ends Ending.Crossed else by_entry w i r.0 r.1)) ((prefix_eq-Decides r.0 r.0).1 refl)
          ∙ ap (λ o. onwards_by n i (by_row w i None o)) (sym is)

-- a trace by one prefix is the trace through up to where it crosses
pub crossed : (w : World) (addr i : ℕ) → cut_at (crossing_on w addr (through w i addr).path) (through w i addr) ≡ trace w i addr
crossed w addr i = cut_whole w addr (length w.routers) i

-- ---- what code has of it

module _ (w : World) (addr : ℕ) where
  -- the first router of a path matches the packet by this prefix
  pub crossing_from : (path : List ℕ) (i : ℕ) (p : Prefix) → slice_get path 0 ≡ Some i → matched_at w addr i ≡ Some p → crossing_on w addr path ≡ position_from (matches_other w addr p) 0 path
  crossing_from [] i p at is = absurd (None_not_Some at)
  crossing_from (k ∷ ks) i p at is = ap (option_and_then (λ q. position_from (matches_other w addr q) 0 (k ∷ ks))) (ap (matched_at w addr) (Some_injective at) ∙ is)

  module _ (i : ℕ) (path : List ℕ) (end : Option Ending) (is : record { path = path; end = end } ≡ through w i addr) where
    whole : cut_at (crossing_on w addr path) (record { path = path; end = end }) ≡ trace w i addr
    whole = ap (λ (t : Trace). cut_at (crossing_on w addr t.path) t) is ∙ crossed w addr i

    pub uncrossed : crossing_on w addr path ≡ None → record { path = path; end = end } ≡ trace w i addr
    uncrossed none = ap (λ o. cut_at o (record { path = path; end = end })) (sym none) ∙ whole

    pub cut_short : (n : ℕ) (xs : List ℕ) → crossing_on w addr path ≡ Some n → xs ≡ take (n + 1) path → record { path = xs; end = Some Ending.Crossed } ≡ trace w i addr
    cut_short n xs some taken =
        ap (λ ys. record { path = ys; end = Some Ending.Crossed }) (taken ∙ ap (λ m. take m path) (add-one n))
        ∙ ap (λ o. cut_at o (record { path = path; end = end })) (sym some)
        ∙ whole
