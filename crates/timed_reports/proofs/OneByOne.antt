-- Looks at one after another.
use Rattle.std.proofs.Common.{refl, sym, ap, subst, ◌∙◌, arith, inl, inr, length-set, append-nil, append_assoc, ◌≡◌, ◌≢◌, ◌⊎◌, ◌↔◌, ℕ, zero, suc, ◌+◌, ◌-◌, ◌<◌, ◌≤◌, IsTrue, Bool, true, false, List, [], ◌∷◌, ◌++◌, take, length, set, Option, Some, None, option_map, option_to_list, slice_get}
use Rattle.no_packet_loops.proofs.Common.{None_not_Some, Some_injective, false≢true, get_or_from_slice_get, slice_get_within, World, cases_lt, take_more}
use Rattle.timed_reports.specs.{declared.spells.Spell.Spell, declared.spells.Watched.Watched}
use Rattle.timed_reports.specs.Records.{AreLooked, EndByLooks, HoldsOf, IsListed, IsLooked, IsSeen, Kind, ended_by, seen, spell}
use Rattle.timed_reports.proofs.Lists.{get_next, get_within, listed_behind, set_other, set_same}

-- ---- what ends by looks

module _ (K : Kind) (v : World) (now : ℕ) (Aside : Watched → Type 0) where
  abbrev Ends : List Watched → List Spell → Type 0
  Ends cs ss = EndByLooks K v now Aside cs ss

  -- where all are left aside, nothing does
  none_end : ((c : Watched) → Aside c) → (cs : List Watched) → Ends cs []
  none_end aside [] = refl
  none_end aside (c ∷ cs) = inl (aside c, none_end aside cs)

  -- one more is left aside
  end_beside : (cs : List Watched) (ss : List Spell) (c : Watched) → Ends cs ss → Aside c → Ends (cs ++ c ∷ []) ss
  end_beside [] ss c E aside = inl (aside, E)
  end_beside (d ∷ cs) ss c (inl (beside, E)) aside = inl (beside, end_beside cs ss c E aside)
  end_beside (d ∷ cs) ss c (inr (holds, rest, is, all, E)) aside = inr (holds, rest, is, all, end_beside cs rest c E aside)

  -- one more was looked at
  end_more : (cs : List Watched) (ss : List Spell) (c : Watched) (holds : Bool) → Ends cs ss → (IsTrue holds ↔ HoldsOf K v c) → Ends (cs ++ c ∷ []) (ss ++ option_to_list (ended_by now holds c))
  end_more [] ss c holds none is =
      inr (holds, [], is, ap (λ (xs : List Spell). xs ++ option_to_list (ended_by now holds c)) none ∙ sym (append-nil (option_to_list (ended_by now holds c))), refl)
  end_more (d ∷ cs) ss c holds (inl (beside, E)) is = inl (beside, end_more cs ss c holds E is)
  end_more (d ∷ cs) ss c holds (inr (held, rest, was, all, E)) is =
      inr (
        held,
        rest ++ option_to_list (ended_by now holds c),
        was,
        ap (λ (xs : List Spell). xs ++ option_to_list (ended_by now holds c)) all ∙ append_assoc (option_to_list (ended_by now held d)) rest (option_to_list (ended_by now holds c)),
        end_more cs rest c holds E is,
      )

  -- what ended stood there, and does not hold
  pub ending : (P : Spell → Type 0) (cs : List Watched) (ss : List Spell) → Ends cs ss → ((x : ℕ) (c : Watched) (from : ℕ) → slice_get cs x ≡ Some c → c.since ≡ Some from → (HoldsOf K v c → ⊥) → P (spell c.router c.prefix from now)) → (s : Spell) → IsListed s ss → P s
  ending P [] ss none each s (k, at) = absurd (None_not_Some (ap (λ (xs : List Spell). slice_get xs k) (sym none) ∙ at))
  ending P (c ∷ cs) ss (inl (beside, E)) each s listed = ending P cs ss E (λ x d from there. each (x + 1) d from (get_next x c cs d there)) s listed
  ending P (c ∷ cs) ss (inr (holds, rest, is, all, E)) each s listed = by_first (ending P cs rest E (λ x d from there. each (x + 1) d from (get_next x c cs d there)) s) holds is c.since refl (subst (IsListed s) all listed)
    where
      by_first : (IsListed s rest → P s) → (b : Bool) → (IsTrue b ↔ HoldsOf K v c) → (o : Option ℕ) → c.since ≡ o → IsListed s (option_to_list (ended_by now b c) ++ rest) → P s
      by_first later true is o began there = later there
      by_first later false is None began there = later (subst (λ (o : Option ℕ). IsListed s (option_to_list (option_map (λ f. spell c.router c.prefix f now) o) ++ rest)) began there)
      by_first later false is (Some from) began there = by_place (subst (λ (o : Option ℕ). IsListed s (option_to_list (option_map (λ f. spell c.router c.prefix f now) o) ++ rest)) began there)
        where
          by_place : IsListed s (spell c.router c.prefix from now ∷ rest) → P s
          by_place (zero, at) = subst P (Some_injective at) (each 0 c from refl began (λ so. false≢true (is.1 so)))
          by_place (suc k, at) = later (k, at)

  -- and what does not hold any more, ended
  pub is_ended : (cs : List Watched) (ss : List Spell) → Ends cs ss → (x : ℕ) (c : Watched) (from : ℕ) → slice_get cs x ≡ Some c → c.since ≡ Some from → Aside c ⊎ HoldsOf K v c ⊎ IsListed (spell c.router c.prefix from now) ss
  is_ended [] ss none x c from at began = absurd (None_not_Some at)
  is_ended (d ∷ cs) ss (inl (beside, E)) zero c from at began = inl (subst Aside (Some_injective at) beside)
  is_ended (d ∷ cs) ss (inl (beside, E)) (suc x) c from at began = is_ended cs ss E x c from at began
  is_ended (d ∷ cs) ss (inr (holds, rest, is, all, E)) zero c from at began = inr (by_holds holds is all)
    where
      same : d ≡ c
      same = Some_injective at

      by_holds : (b : Bool) → (IsTrue b ↔ HoldsOf K v d) → ss ≡ option_to_list (ended_by now b d) ++ rest → HoldsOf K v c ⊎ IsListed (spell c.router c.prefix from now) ss
      by_holds true is all = inl (subst (HoldsOf K v) same (is.0 refl))
      by_holds false is all = inr (0, ap (λ (xs : List Spell). slice_get xs 0) (all ∙ ap (λ (z : Watched). option_to_list (ended_by now false z) ++ rest) same ∙ ap (λ (o : Option ℕ). option_to_list (option_map (λ f. spell c.router c.prefix f now) o) ++ rest) began))
  is_ended (d ∷ cs) ss (inr (holds, rest, is, all, E)) (suc x) c from at began = by_rest (is_ended cs rest E x c from at began)
    where
      by_rest : Aside c ⊎ HoldsOf K v c ⊎ IsListed (spell c.router c.prefix from now) rest → Aside c ⊎ HoldsOf K v c ⊎ IsListed (spell c.router c.prefix from now) ss
      by_rest (inl aside) = inl aside
      by_rest (inr (inl so)) = inr (inl so)
      by_rest (inr (inr there)) = inr (inr (subst (IsListed (spell c.router c.prefix from now)) (sym all) (listed_behind (spell c.router c.prefix from now) (option_to_list (ended_by now holds d)) rest there)))

module _ (K : Kind) (v : World) (now : ℕ) (Aside : Watched → Type 0) (old : List Watched) (before : List Spell) where
  abbrev Looked : ℕ → List Watched → List Spell → Type 0
  Looked below cs after = AreLooked K v now Aside below old cs before after

  pub looked_none : Looked 0 old before
  looked_none = record {
    as_many = refl;
    looked = λ x c d below. absurd (omega (arith, below));
    rest = λ x past. refl;
    ended = ([], sym (append-nil before), refl);
  }

  -- all are left aside
  pub looked_aside : ((c : Watched) → Aside c) → Looked (length old) old before
  looked_aside aside = record {
    as_many = refl;
    looked = λ x c d below at there. inl (Some_injective (sym there ∙ at), aside c);
    rest = λ x past. refl;
    ended = ([], sym (append-nil before), none_end K v now Aside aside (take (length old) old));
  }

  module _ (below : ℕ) (cs : List Watched) (after : List Spell) (L : Looked below cs after) (c : Watched) (at : slice_get cs below ≡ Some c) where
    -- it is the one that stood there
    at_old : slice_get old below ≡ Some c
    at_old = sym (L.rest below (omega arith)) ∙ at

    first_more : take (below + 1) old ≡ take below old ++ c ∷ []
    first_more = take_more old below c (slice_get_within old below c at_old) ∙ ap (λ (d : Watched). take below old ++ d ∷ []) (get_or_from_slice_get old below c c at_old)

    -- one more is left aside
    pub looked_beside : Aside c → Looked (below + 1) cs after
    looked_beside aside = record {
      as_many = L.as_many;
      looked = λ x b d less was there. by_place_looked x b d was there (cases_lt x below) less;
      rest = λ x past. L.rest x (omega (arith, past));
      ended = ((L.ended).0, (L.ended).1, subst (λ (xs : List Watched). EndByLooks K v now Aside xs (L.ended).0) (sym first_more) (end_beside K v now Aside (take below old) (L.ended).0 c (L.ended).2 aside));
    }
      where
        by_place_looked : (x : ℕ) (b d : Watched) → slice_get old x ≡ Some b → slice_get cs x ≡ Some d → (x < below) ⊎ (below ≤ x) → x < below + 1 → ((d ≡ b) × Aside b) ⊎ IsSeen K v now b d
        by_place_looked x b d was there (inl lower) less = L.looked x b d lower was there
        by_place_looked x b d was there (inr over) less =
            let here : x ≡ below = omega (arith, over, less) in
            let same : c ≡ b = Some_injective (sym at_old ∙ ap (slice_get old) (sym here) ∙ was) in
            let is : d ≡ b = Some_injective (sym there ∙ L.rest x over ∙ was) in
            inl (is, subst Aside same aside)

    pub looked_more : (holds : Bool) → (IsTrue holds ↔ HoldsOf K v c) → Looked (below + 1) (set cs below (seen now holds c)) (after ++ option_to_list (ended_by now holds c))
    looked_more holds rightly = record {
      as_many = length-set cs below (seen now holds c) ∙ L.as_many;
      looked = λ x b d less was there. by_place_looked x b d was there (cases_lt x below) less;
      rest = λ x past. (let apart : x ≢ below = λ (e : x ≡ below). omega (arith, past, e) in set_other cs below x (seen now holds c) apart ∙ L.rest x (omega (arith, past)));
      ended = (
        (L.ended).0 ++ option_to_list (ended_by now holds c),
        ap (λ (xs : List Spell). xs ++ option_to_list (ended_by now holds c)) (L.ended).1 ∙ append_assoc before (L.ended).0 (option_to_list (ended_by now holds c)),
        subst (λ (xs : List Watched). EndByLooks K v now Aside xs ((L.ended).0 ++ option_to_list (ended_by now holds c))) (sym first_more) (end_more K v now Aside (take below old) (L.ended).0 c holds (L.ended).2 rightly),
      );
    }
      where
        by_place_looked : (x : ℕ) (b d : Watched) → slice_get old x ≡ Some b → slice_get (set cs below (seen now holds c)) x ≡ Some d → (x < below) ⊎ (below ≤ x) → x < below + 1 → ((d ≡ b) × Aside b) ⊎ IsSeen K v now b d
        by_place_looked x b d was there (inl lower) less =
            let apart : x ≢ below = λ (e : x ≡ below). omega (arith, lower, e) in
            L.looked x b d lower was (sym (set_other cs below x (seen now holds c) apart) ∙ there)
        by_place_looked x b d was there (inr over) less =
            let here : x ≡ below = omega (arith, over, less) in
            let same : c ≡ b = Some_injective (sym at_old ∙ ap (slice_get old) (sym here) ∙ was) in
            let is : seen now holds c ≡ d = Some_injective (sym (set_same cs below c (seen now holds c) at) ∙ ap (slice_get (set cs below (seen now holds c))) (sym here) ∙ there) in
            inr (subst (λ (z : Watched). IsSeen K v now z d) same (record { holds = holds; rightly = rightly; written = sym is }))

    -- one more was left aside or looked at
    pub looked_one : (ds : List Watched) (then : List Spell) → IsLooked K v now Aside below cs ds after then → Looked (below + 1) ds then
    looked_one ds then one = by_look (one c at)
      where
        by_look : (Aside c × (ds ≡ cs) × (then ≡ after)) ⊎ ((holds : Bool) × (IsTrue holds ↔ HoldsOf K v c) × (ds ≡ set cs below (seen now holds c)) × (then ≡ after ++ option_to_list (ended_by now holds c))) → Looked (below + 1) ds then
        by_look (inl (aside, same, none)) = subst (λ (zs : List Watched). Looked (below + 1) zs then) (sym same) (subst (Looked (below + 1) cs) (sym none) (looked_beside aside))
        by_look (inr (holds, rightly, written, ended)) = subst (λ (zs : List Watched). Looked (below + 1) zs then) (sym written) (subst (Looked (below + 1) (set cs below (seen now holds c))) (sym ended) (looked_more holds rightly))

  -- all up to another place are left aside
  pub looked_over : (many below : ℕ) (cs : List Watched) (after : List Spell) → Looked below cs after → below + many ≤ length cs → ((x : ℕ) (c : Watched) → below ≤ x → x < below + many → slice_get old x ≡ Some c → Aside c) → Looked (below + many) cs after
  looked_over zero below cs after L fits aside = let same : below ≡ below + 0 = omega arith in subst (λ (n : ℕ). Looked n cs after) same L
  looked_over (suc many) below cs after L fits aside =
      let (c, at) = get_within cs below (omega (arith, fits)) in
      let here : Aside c = aside below c (omega arith) (omega arith) (sym (L.rest below (omega arith)) ∙ at) in
      let further : (below + 1) + many ≡ below + suc many = omega arith in
      subst (λ (n : ℕ). Looked n cs after) further
      (looked_over many (below + 1) cs after (looked_beside below cs after L c at here) (omega (arith, fits)) (λ x d from to is. aside x d (omega (arith, from)) (omega (arith, to)) is))

  pub looked_next : (below : ℕ) (cs : List Watched) (after : List Spell) → Looked below cs after → below < length cs → (ds : List Watched) (then : List Spell) → IsLooked K v now Aside below cs ds after then → Looked (below + 1) ds then
  looked_next below cs after L less ds then one = (let (c, at) = get_within cs below less in looked_one below cs after L c at ds then one)

  -- of so many from a place on one was looked at, and the others are left aside
  pub looked_among : (from n i : ℕ) (cs ds : List Watched) (after then : List Spell) → i < n → Looked from cs after → from + n ≤ length cs → ((x : ℕ) (c : Watched) → from ≤ x → x < from + n → x ≢ from + i → slice_get old x ≡ Some c → Aside c) → IsLooked K v now Aside (from + i) cs ds after then
      → Looked (from + n) ds then
  looked_among from n i cs ds after then below L fits aside one =
      let up : Looked (from + i) cs after = looked_over i from cs after L (omega (arith, fits, below)) (λ x c least less is. aside x c least (omega (arith, less, below)) (λ (same : x ≡ from + i). omega (arith, less, same)) is) in
      let here : Looked ((from + i) + 1) ds then = looked_next (from + i) cs after up (omega (arith, fits, below)) ds then one in
      let many : length ds ≡ length cs = here.as_many ∙ sym L.as_many in
      let all : ((from + i) + 1) + (n - (i + 1)) ≡ from + n = omega (arith, below) in
      subst (λ (m : ℕ). Looked m ds then) all
      (looked_over (n - (i + 1)) ((from + i) + 1) ds then here (omega (arith, fits, below, many)) (λ x c least less is. aside x c (omega (arith, least)) (omega (arith, less, below)) (λ (same : x ≡ from + i). omega (arith, least, same)) is))

-- with more left aside
pub looked_beside_more : (K : Kind) (v : World) (now : ℕ) (Aside More : Watched → Type 0) → ((c : Watched) → Aside c → More c) → (below : ℕ) (old new : List Watched) (before after : List Spell) → AreLooked K v now Aside below old new before after → AreLooked K v now More below old new before after
looked_beside_more K v now Aside More more below old new before after L = record {
  as_many = L.as_many;
  looked = λ x c d less was is. by_look c d (L.looked x c d less was is);
  rest = L.rest;
  ended = ((L.ended).0, (L.ended).1, end_with_more (take below old) (L.ended).0 (L.ended).2);
}
  where
    by_look : (c d : Watched) → ((d ≡ c) × Aside c) ⊎ IsSeen K v now c d → ((d ≡ c) × More c) ⊎ IsSeen K v now c d
    by_look c d (inl (same, aside)) = inl (same, more c aside)
    by_look c d (inr look) = inr look

    end_with_more : (cs : List Watched) (ss : List Spell) → EndByLooks K v now Aside cs ss → EndByLooks K v now More cs ss
    end_with_more [] ss none = none
    end_with_more (c ∷ cs) ss (inl (aside, E)) = inl (more c aside, end_with_more cs ss E)
    end_with_more (c ∷ cs) ss (inr (holds, rest, is, all, E)) = inr (holds, rest, is, all, end_with_more cs rest E)
